-- `any_suspect`: where no accumulator is set, no byte passed begins a fault of any rule (`suspect_none`). Assumes nothing.
use native.Mathlib.Omega.{arith}
use Prim.Native.Nat.{◌+◌, ◌<◌}
use Rattle.legal.proofs.Clean.{block_byte, block_size, looked_four, looked_all, suspect_none}
use Rattle.legal.proofs.any_suspect.Goals as goal

pub loop-b-preserved : goal.loop-b-preserved
loop-b-preserved c =
    let t = c.args.text.now in
    let i = c.args.i in
    let k = c.loop-b.b-index in
    let turn : k < 16 = omega (arith, block_size t i c.requires, c.loop-b-test.true) in
    rw (block_byte t i k turn)
    (looked_four t i c.requires k turn c.loop-b.low c.loop-b.delete c.loop-b.two c.loop-b.three _ _ _ _
    (suspect_none t (i + k) (omega (arith, c.requires, turn))) c.loop-b.invariant)

pub returns : goal.returns
returns c =
    let t = c.args.text.now in
    looked_all t c.args.i c.requires c.loop-b.invariant (omega (arith, block_size t c.args.i c.requires, c.loop-b-test.false))
