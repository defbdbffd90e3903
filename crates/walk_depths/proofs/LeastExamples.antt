-- Least depths of small values, by computation (document 02, K14). Assumes nothing.
use mathlib.Core.Path.{◌≡◌, refl}
use mathlib.Core.List.{List, [], ◌∷◌}
use Prim.Native.Nat.{ℕ}
use Rattle.text.specs.Version.{Rule, xml10, xml11}
use Rattle.text.specs.Answers.{Answer}
use Rattle.text.specs.Answers.{Done, Refused}
use Rattle.attribute.specs.Walk.{normalize, reading_of}
use Rattle.walk_depths.specs.LeastDepth.{first_not, least_of, least_depth}

-- a = `&d;`; d = `y`; x = `z`; b = `&x;`; s = `&s;`
abbrev list : List ℕ
list =
    1 ∷ 0 ∷ 0 ∷ 0 ∷ 0 ∷ 1 ∷ 1 ∷ 0 ∷ 0 ∷ 0 ∷ 3 ∷ 0
    ∷ 1 ∷ 4 ∷ 0 ∷ 0 ∷ 0 ∷ 1 ∷ 5 ∷ 0 ∷ 0 ∷ 0 ∷ 1 ∷ 0
    ∷ 1 ∷ 6 ∷ 0 ∷ 0 ∷ 0 ∷ 1 ∷ 7 ∷ 0 ∷ 0 ∷ 0 ∷ 1 ∷ 0
    ∷ 1 ∷ 8 ∷ 0 ∷ 0 ∷ 0 ∷ 1 ∷ 9 ∷ 0 ∷ 0 ∷ 0 ∷ 3 ∷ 0
    ∷ 1 ∷ 12 ∷ 0 ∷ 0 ∷ 0 ∷ 1 ∷ 13 ∷ 0 ∷ 0 ∷ 0 ∷ 3 ∷ 0
    ∷ 0 ∷ []

abbrev pool : List ℕ
pool = 97 ∷ 38 ∷ 100 ∷ 59 ∷ 100 ∷ 121 ∷ 120 ∷ 122 ∷ 98 ∷ 38 ∷ 120 ∷ 59 ∷ 115 ∷ 38 ∷ 115 ∷ 59 ∷ []

least : Rule → ℕ → List ℕ → Answer
least r limit t = least_depth (reading_of r list pool limit) t

Leasts : Rule → Type 0
Leasts r =
    (least r 0 [] ≡ Done 0 0)
    × (least r 0 (97 ∷ 32 ∷ 98 ∷ []) ≡ Done 0 0)  -- a b
    × (least r 0 (97 ∷ 9 ∷ []) ≡ Done 1 0)  -- a TAB
    × (least r 1 (38 ∷ 100 ∷ 59 ∷ []) ≡ Done 1 0)  -- &d;
    × (least r 2 (38 ∷ 97 ∷ 59 ∷ []) ≡ Done 2 0)  -- &a;
    × (least r 5 (38 ∷ 97 ∷ 59 ∷ 38 ∷ 120 ∷ 59 ∷ 38 ∷ 98 ∷ 59 ∷ []) ≡ Done 2 0)  -- &a;&x;&b;
    × (least r 1 (38 ∷ 97 ∷ 59 ∷ []) ≡ Refused 17 0 0)  -- &a;, limit 1
    × (least r 9 (38 ∷ 97 ∷ 59 ∷ 38 ∷ 113 ∷ 59 ∷ []) ≡ Refused 11 4 5)  -- &a;&q;

leasts : (r : Rule) → Leasts r
unfolding Leasts least least_depth first_not least_of normalize reading_of
leasts xml10 = (refl, refl, refl, refl, refl, refl, refl, refl)
leasts xml11 = (refl, refl, refl, refl, refl, refl, refl, refl)

-- K14: 32 when even depth 128 is answered by 16: &s;
used_up_lem : least xml10 1000000 (38 ∷ 115 ∷ 59 ∷ []) ≡ Refused 32 0 0
unfolding least least_depth first_not least_of normalize reading_of
used_up_lem = refl
