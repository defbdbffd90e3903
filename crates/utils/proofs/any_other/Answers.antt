-- `any_other` tests 32 bytes with no branch (`Missed`): where nothing hit, each of them is white space. Assumes nothing.
use Rattle.std.proofs.Common.{arith}
use lib.ListN.{length-take, length-drop}
use borrow.Author.Tests.{not-false}
use Rattle.text.proofs.Missed.{missed_all}
use Rattle.utils.proofs.any_other.Goals as goal

pub returns : goal.returns
returns c =
    λ e.
    let all = simp (length-take, length-drop) at c.loop-b-test.false in
    record { blank = λ m h. not-false _ (missed_all _ c.loop-b.invariant (omega (arith, all)) e m h) }
