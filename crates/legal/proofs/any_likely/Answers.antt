-- `any_likely`: where no accumulator is set, no byte passed begins a fault of any rule (`likely_none`). Assumes nothing.
use native.Mathlib.Omega.{arith}
use Prim.Native.Nat.{◌+◌}
use Rattle.legal.proofs.Clean.{looked_four, looked_all, likely_none}
use Rattle.legal.proofs.any_likely.Goals as goal

pub loop-k-preserved : goal.loop-k-preserved
loop-k-preserved c =
    let t = c.args.text.now in
    let i = c.args.i in
    let turn = c.loop-k-test.true in
    looked_four t i (omega (arith, c.requires)) c.loop-k.k turn c.loop-k.low c.loop-k.delete c.loop-k.two c.loop-k.three _ _ _ _
    (likely_none t (i + c.loop-k.k) (omega (arith, c.requires, turn))) c.loop-k.invariant

pub returns : goal.returns
returns c =
    looked_all c.args.text.now c.args.i (omega (arith, c.requires)) c.loop-k.invariant c.loop-k-test.false
