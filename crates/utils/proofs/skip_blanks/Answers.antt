-- `utils::skip_blanks` passes blocks of white space at the start. The invariant: the bytes passed are white space. Assumes nothing.
use native.Mathlib.Omega.{arith}
use Rattle.utils.proofs.Trim.{skipped_block}
use Rattle.utils.proofs.skip_blanks.Goals as goal

pub loop-i-preserved : goal.loop-i-preserved
loop-i-preserved c =
    let text = c.args.text.now in
    skipped_block text c.loop-i.i 32 c.loop-i.invariant (omega (arith, c.loop-i.invariant.fits)) (c.any_other.ensures c.if-any_other.false)
