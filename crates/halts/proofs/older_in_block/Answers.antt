-- `older_in_block`: the first suspect of the block; there is one, as the block test has found it. Assumes nothing.
use mathlib.Core.Path.{◌≡◌, sym, ◌∙◌}
use mathlib.Core.Bool.{false}
use native.Mathlib.Omega.{arith}
use Rattle.text.proofs.Bytes.{contrary}
use Rattle.halts.specs.Halts.{suspect_byte}
use Rattle.halts.proofs.Smooth.{in_block_none, in_block_next, older_at, plain_any}
use Rattle.halts.proofs.older_in_block.Goals as goal

pub loop-k-init : goal.loop-k-init
loop-k-init c = in_block_none (suspect_byte false) c.args.text.now c.args.i c.requires.i_in_bounds

pub returns-then-is_older : goal.returns-then-is_older
returns-then-is_older c = older_at c.loop-k.invariant.run (λ h. sym c.is_older.ensures ∙ c.if-is_older.true)

pub loop-k-preserved : goal.loop-k-preserved
loop-k-preserved c =
    let given = c.args in
    in_block_next (suspect_byte false) given.text.now given.i c.requires.i_in_bounds
    c.loop-k-test.true c.loop-k.invariant (sym c.is_older.ensures ∙ c.if-is_older.false)

pub returns : goal.returns
returns c =
    let given = c.args in
    let all : c.loop-k.k ≡ 16 = omega (arith, c.loop-k.invariant.within, c.loop-k-test.false) in
    contrary c.requires.text_value (plain_any (suspect_byte false) given.text.now given.i 16 (rw all at c.loop-k.invariant.run))
