-- `is_own_blocks`: no byte before i is changed; the last block starts before i where the run is no multiple of N. Assumes nothing.
use mathlib.Core.Path.{sym}
use mathlib.Core.Bool.{true≢false}
use native.Mathlib.Omega.{arith}
use Rattle.canonical.proofs.Own.{block_in, block_more, block_last}
use Rattle.canonical.proofs.is_own_blocks.Goals as goal

pub returns-then-any_changed : goal.returns-then-any_changed
returns-then-any_changed g c = λ e. absurd (true≢false (sym e))

pub returns-then-last-i : goal.returns-then-last-i
returns-then-last-i g c =
    λ e. block_last g.row.N c.loop-newer.invariant c.min-at.ensures (block_in c.min-at.result g.row.N (omega (arith, c.min-at.ensures)) (c.any_changed.ensures c.if-any_changed.false)) c.if-last-i.true

pub loop-newer-preserved : goal.loop-newer-preserved
loop-newer-preserved g c =
    block_more g.row.N c.loop-newer.invariant c.min-at.ensures (block_in c.min-at.result g.row.N (omega (arith, c.min-at.ensures)) (c.any_changed.ensures c.if-any_changed.false)) c.if-last-i.false
