-- `any_pair`: where nothing was hit (`Missed`), none of the 16 bytes is a space before a space, and so each stays (`goes_pair`).
use Prim.Native.Nat.{◌+◌}
use native.Mathlib.Omega.{arith}
use mathlib.Core.Path.{refl, ◌∙◌}
use Rattle.text.proofs.Missed.{missed_start, missed_more, missed_all}
use Rattle.collapse.proofs.Spaces.{goes_pair}
use Rattle.collapse.proofs.Stage.{stays_of}
use Rattle.collapse.proofs.any_pair.Goals as goal

pub loop-k-init : goal.loop-k-init
loop-k-init c = missed_start _ _

pub loop-k-preserved : goal.loop-k-preserved
loop-k-preserved c = missed_more _ c.loop-k.invariant c.loop-k-test.true refl

pub returns : goal.returns
returns c =
    let given = c.args in
    let t = given.text.now in
    λ e. stays_of t given.i 16 (omega (arith, c.requires))
    (λ m h. goes_pair t (given.i + m) (omega (arith, c.requires, h)) ∙ missed_all _ c.loop-k.invariant c.loop-k-test.false e m h)
