-- `put_wide` goes block by block: what it has copied stays a run, and lies at the output's start (`Blockwise`).
use mathlib.Core.Path.{refl}
use Rattle.runs.proofs.Blockwise.{blockwise_laid, blockwise_done}
use Rattle.runs.proofs.amp.put_wide.Goals as goal

pub returns-then-any_byte : goal.returns-then-any_byte
returns-then-any_byte c = blockwise_done c.loop-k.invariant

pub loop-k-preserved : goal.loop-k-preserved
loop-k-preserved c =
    blockwise_laid c.loop-k.invariant 32 c.loop-k-test.true (c.any_byte.ensures c.if-any_byte.false) refl c.put_two_blocks.ensures

pub returns : goal.returns
returns c = blockwise_done c.loop-k.invariant
