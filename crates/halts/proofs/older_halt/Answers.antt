-- `older_halt`: blocks without halts, then the block that has one, or the rest. Assumes nothing.
use mathlib.Core.Bool.{false}
use native.Mathlib.Omega.{arith}
use mathlib.Core.Path.{sym, ◌∙◌}
use Rattle.halts.proofs.Smooth.{smooth_none, smooth_join, two_smooth, halt_join}
use Rattle.halts.proofs.older_halt.Goals as goal

pub loop-i-init : goal.loop-i-init
loop-i-init c = smooth_none false c.args.text.now c.args.from c.requires

pub older_in_block-requires : goal.older_in_block-requires
older_in_block-requires c =
    record { i_in_bounds = omega (arith, c.loop-i.invariant.to, c.loop-i-test.true); text_value = sym c.any_two.ensures ∙ c.if-any_two.true }

pub returns-then-any_two : goal.returns-then-any_two
returns-then-any_two c =
    halt_join c.loop-i.i c.loop-i.invariant c.older_in_block.ensures

pub loop-i-preserved : goal.loop-i-preserved
loop-i-preserved c =
    let t = c.args.text.now in
    let i = c.loop-i.i in
    smooth_join false t i c.loop-i.invariant
    (two_smooth t i 16 (omega (arith, c.loop-i.invariant.to, c.loop-i-test.true)) (sym c.any_two.ensures ∙ c.if-any_two.false))

pub returns : goal.returns
returns c =
    halt_join c.loop-i.i c.loop-i.invariant c.older_rest.ensures
