-- `utils::drop_blanks` passes blocks of white space at the end. The invariant: the bytes passed are white space. Assumes nothing.
use native.Mathlib.Omega.{arith}
use Rattle.utils.proofs.Trim.{dropped_block}
use Rattle.utils.proofs.drop_blanks.Goals as goal

pub loop-end-preserved : goal.loop-end-preserved
loop-end-preserved c =
    dropped_block c.args.text.now c.loop-end.end 32 c.loop-end.invariant (omega arith) (c.any_other.ensures c.if-any_other.false)
