-- `clear_wide` passes smooth bytes alone, block by block. Assumes nothing.
use mathlib.Core.Bool.{false}
use native.Mathlib.Omega.{arith}
use Prim.Native.Nat.{zero-le}
use mathlib.Core.Path.{sym, ◌∙◌}
use Rattle.halts.proofs.Smooth.{smooth_none, smooth_join, two_smooth}
use Rattle.halts.proofs.clear_wide.Goals as goal

pub loop-i-init : goal.loop-i-init
loop-i-init c = smooth_none false c.args.text.now 0 zero-le

pub loop-i-preserved : goal.loop-i-preserved
loop-i-preserved c =
    let t = c.args.text.now in
    let i = c.loop-i.i in
    smooth_join false t i c.loop-i.invariant
    (two_smooth t i 32 (omega (arith, c.loop-i.invariant.to, c.loop-i-test.true)) (sym c.any_two.ensures ∙ c.if-any_two.false))
