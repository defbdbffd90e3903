-- `any_misplaced3` tests 32 bytes with no branch (`Missed`): where nothing hit, the short test tells of each byte as much as the whole
-- one (`fits3_at`), since no byte before it is 0xf0 or more.
use Rattle.text.proofs.Blocks.{fits3_at}
use native.Mathlib.Omega.{arith}
use Rattle.text.proofs.Missed.{missed_start, missed_more, missed_all}
use Rattle.text.proofs.validate.any_misplaced3.Goals as goal

pub loop-k-init : goal.loop-k-init
loop-k-init c = missed_start _ 32

pub loop-k-preserved : goal.loop-k-preserved
loop-k-preserved c =
    missed_more _ c.loop-k.invariant c.loop-k-test.true c.misplaced3-hit.ensures

pub returns : goal.returns
returns c =
    λ e.
    let missed = missed_all _ c.loop-k.invariant c.loop-k-test.false e in
    record { fit = λ m h. fits3_at c.args.text.now c.args.j 0xEF c.requires.edge c.requires.at_most (omega arith) m h (missed m h) }
