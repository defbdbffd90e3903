-- `clear_four` passes smooth bytes alone: a block in which neither test finds a byte has no suspect. Assumes nothing.
use mathlib.Core.Bool.{true}
use native.Mathlib.Omega.{arith}
use mathlib.Core.Path.{sym, ◌∙◌}
use Rattle.halts.proofs.Smooth.{smooth_none, smooth_join, four_smooth}
use Rattle.halts.proofs.clear_four.Goals as goal

pub loop-i-init : goal.loop-i-init
loop-i-init c = smooth_none true c.args.text.now c.args.from c.requires

pub loop-i-preserved : goal.loop-i-preserved
loop-i-preserved c =
    let t = c.args.text.now in
    let i = c.loop-i.i in
    smooth_join true t i c.loop-i.invariant
    (four_smooth t i 16 (omega (arith, c.loop-i.invariant.to, c.loop-i-test.true))
    (sym c.any_two.ensures ∙ c.if-any_two.false)
    (sym c.any_two-in-loop-i.ensures ∙ c.if-any_two-2.false))
