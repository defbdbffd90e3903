-- `any_misplaced` tests 32 bytes with no branch (`Missed`): where nothing hit, each of them fits.
use Rattle.text.proofs.Missed.{missed_start, missed_more, missed_all}
use Rattle.text.proofs.validate.any_misplaced.Goals as goal

pub loop-k-init : goal.loop-k-init
loop-k-init c = missed_start _ 32

pub loop-k-preserved : goal.loop-k-preserved
loop-k-preserved c =
    missed_more _ c.loop-k.invariant c.loop-k-test.true c.misplaced-hit.ensures

pub returns : goal.returns
returns c = λ e. record { fit = missed_all _ c.loop-k.invariant c.loop-k-test.false e }
