-- `suspect_in_block`: the bytes before the first suspect are smooth. Assumes nothing.
use mathlib.Core.Path.{◌≡◌, sym, ◌∙◌}
use mathlib.Core.Bool.{true}
use native.Mathlib.Omega.{arith}
use Rattle.halts.specs.Halts.{suspect_byte}
use Rattle.halts.proofs.Smooth.{in_block_none, in_block_next, suspects_smooth}
use Rattle.halts.proofs.suspect_in_block.Goals as goal

pub loop-k-init : goal.loop-k-init
loop-k-init c = in_block_none (suspect_byte true) c.args.text.now c.args.i c.requires

pub returns-then-is_suspect : goal.returns-then-is_suspect
returns-then-is_suspect c = suspects_smooth true c.loop-k.invariant.run

pub loop-k-preserved : goal.loop-k-preserved
loop-k-preserved c =
    let given = c.args in
    in_block_next (suspect_byte true) given.text.now given.i c.requires
    c.loop-k-test.true c.loop-k.invariant (sym c.is_suspect.ensures ∙ c.if-is_suspect.false)

pub returns : goal.returns
returns c =
    let all : c.loop-k.k ≡ 16 = omega (arith, c.loop-k.invariant.within, c.loop-k-test.false) in
    suspects_smooth true (rw all at c.loop-k.invariant.run)
