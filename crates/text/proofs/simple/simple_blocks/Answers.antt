-- `simple_blocks`: the blocks before i are simple, and the last one, which reaches back to i when the loop is left. Assumes nothing.
use mathlib.Core.Path.{sym}
use mathlib.Core.Bool.{true≢false}
use native.Mathlib.Omega.{arith}
use Prim.Native.Nat.{zero-le}
use Rattle.text.proofs.Printable.{simple_none, simple_join, simple_last}
use Rattle.text.proofs.simple.simple_blocks.Goals as goal

pub overflow_sub-text : goal.overflow_sub-text
overflow_sub-text c = c.requires.1

pub any_special-requires : goal.any_special-requires
any_special-requires c = omega (arith, c.requires.1)

pub returns-then-any_special : goal.returns-then-any_special
returns-then-any_special c = λ e. absurd (true≢false (sym e))

pub loop-i-init : goal.loop-i-init
loop-i-init c = simple_none c.args.text.now 0 zero-le

pub overflow_sub-text-in-loop-i : goal.overflow_sub-text-in-loop-i
overflow_sub-text-in-loop-i c = c.loop-i.invariant.to

pub any_special-requires-in-loop-i : goal.any_special-requires-in-loop-i
any_special-requires-in-loop-i c = omega (arith, c.loop-i.invariant.to, c.loop-i-test.true)

pub returns-then-any_special-2 : goal.returns-then-any_special-2
returns-then-any_special-2 c = λ e. absurd (true≢false (sym e))

pub overflow_add-i : goal.overflow_add-i
overflow_add-i c = omega (arith, c.loop-i.invariant.to, c.loop-i-test.true)

pub loop-i-smaller : goal.loop-i-smaller
loop-i-smaller c =
    omega (arith, c.loop-i.invariant.to, c.loop-i-test.true, c.requires.0)

pub loop-i-preserved : goal.loop-i-preserved
loop-i-preserved c =
    simple_join c.args.text.now c.loop-i.i c.loop-i.invariant (c.any_special-in-loop-i.ensures c.if-any_special-2.false)

pub returns : goal.returns
returns c =
    λ e.
    let t = c.args.text.now in
    let i = c.loop-i.i in
    let last = c.any_special.ensures c.if-any_special.false in
    simple_join t i c.loop-i.invariant (simple_last t i c.args.size c.requires.1 c.loop-i-test.false last)
