-- `any_of` tests `size` bytes with no branch (`Missed`): where nothing hit, none of them is a or b.
use native.Mathlib.Omega.{arith}
use lib.ListN.{length-take, length-drop}
use Rattle.text.proofs.Missed.{missed_all}
use Rattle.output.proofs.Runs.{plain_of}
use Rattle.output.proofs.any_of.Goals as goal

pub returns : goal.returns
returns c =
    λ e. plain_of _ _ _ c.args.size c.requires
    (missed_all _ c.loop-c.invariant (omega (arith, simp (length-take, length-drop) at c.loop-c-test.false)) e)
