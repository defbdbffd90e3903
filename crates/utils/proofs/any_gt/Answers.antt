-- `any_gt` tests `count` bytes with no branch (`Missed`): where none is `>`, no `]]>` ends there. Assumes nothing.
use Rattle.std.proofs.Common.{◌+◌, arith}
use lib.ListN.{length-take, length-drop}
use Rattle.text.proofs.Missed.{missed_all}
use Rattle.utils.proofs.Cuts.{no_gt}
use Rattle.utils.proofs.any_gt.Goals as goal

pub returns : goal.returns
returns c =
    λ e.
    let given = c.args in
    let all = simp (length-take, length-drop) at c.loop-b-test.false in
    record { clear = λ m h. no_gt given.text.now (given.i + m) (missed_all _ c.loop-b.invariant (omega (arith, all)) e m h) }
