-- `is_three` is the library's `==`, which compares head by head as `same_bytes` does.
use Rattle.std.proofs.Common.{◌≡◌, ℕ, List, [], ◌∷◌, ◌&&◌, refl, ap, ◌∙◌}
use Rattle.std.specs.Cmp.Lexicographic.{pointwise}
use lib.Dec.{eqb}
use Rattle.text.specs.Bytes.{same_bytes}
use Rattle.entity.proofs.is_three.Goals as goal

head_by_head : (a b : List ℕ) → pointwise eqb a b ≡ same_bytes a b
head_by_head [] [] = refl
head_by_head [] (y ∷ ys) = refl
head_by_head (x ∷ xs) [] = refl
head_by_head (x ∷ xs) (y ∷ ys) = ap (λ t. eqb x y && t) (head_by_head xs ys)

pub returns : goal.returns
returns c = c.eq.ensures ∙ head_by_head c.args.name.now _ ∙ ap (same_bytes c.args.name.now) c.as_slice.ensures
