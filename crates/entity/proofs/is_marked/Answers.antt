-- `is_marked` is `marked`, of no byte or of the first.
use mathlib.Core.Path.{◌≡◌, refl}
use mathlib.Core.Logic.{◌≢◌}
use mathlib.Core.Bool.{not}
use mathlib.Core.List.{List, [], ◌∷◌}
use Prim.Native.Nat.{ℕ}
use native.Mathlib.Omega.{arith}
use lib.Dec.{eqb}
use lib.ListN.{length, get_or}
use Rattle.entity.specs.Table.{marked}
use Rattle.entity.proofs.is_marked.Goals as goal

of_none : (list : List ℕ) → length list ≡ 0 → not (eqb (length list) 0) ≡ marked list
unfolding marked
of_none [] e = refl
of_none (b ∷ bs) e = absurd (omega (arith, e))

by_first : (list : List ℕ) → length list ≢ 0 → eqb (get_or list 0 0) 3 ≡ marked list
unfolding marked
by_first [] some = absurd (some refl)
by_first (b ∷ bs) some = refl

pub returns-then-list-ne0 : goal.returns-then-list-ne0
returns-then-list-ne0 c = by_first c.args.list.now c.if-list-ne0.true

pub returns-else-list-ne0 : goal.returns-else-list-ne0
returns-else-list-ne0 c = of_none c.args.list.now c.if-list-ne0.false
