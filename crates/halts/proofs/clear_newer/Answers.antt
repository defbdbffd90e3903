-- `clear_newer` passes smooth bytes alone, block by block. Assumes nothing.
use mathlib.Core.Bool.{true}
use Rattle.std.proofs.Common.{arith}
use Rattle.halts.proofs.Smooth.{smooth_none, smooth_join}
use Rattle.halts.proofs.clear_newer.Goals as goal

-- by omega, so that a refusal names a place where a byte past the text would be read
pub any_newer-requires : goal.any_newer-requires
any_newer-requires c = omega (arith, c.loop-i.invariant.to, c.loop-i-test.true)

pub loop-i-init : goal.loop-i-init
loop-i-init c = smooth_none true c.args.text.now c.args.from c.requires

pub loop-i-preserved : goal.loop-i-preserved
loop-i-preserved c =
    smooth_join true c.args.text.now c.loop-i.i c.loop-i.invariant (c.any_newer.ensures c.if-any_newer.false)
