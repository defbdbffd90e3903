-- The names that small values look up, by computation (document 02, K13): those of replacement texts too, and none after the refusal.
-- Assumes nothing.
use mathlib.Core.Path.{◌≡◌, refl}
use mathlib.Core.Bool.{Bool, true, false}
use mathlib.Core.List.{List, [], ◌∷◌}
use Prim.Native.Nat.{ℕ}
use Rattle.text.specs.Version.{Rule, xml10, xml11}
use Rattle.attribute.specs.Strict.{reading_by}
use Rattle.attribute.specs.LookedUp.{looked_up}

-- e = `&f;x`; f = `&lt;`; g external
abbrev list : List ℕ
list =
    1 ∷ 0 ∷ 0 ∷ 0 ∷ 0 ∷ 1 ∷ 1 ∷ 0 ∷ 0 ∷ 0 ∷ 4 ∷ 0
    ∷ 1 ∷ 5 ∷ 0 ∷ 0 ∷ 0 ∷ 1 ∷ 6 ∷ 0 ∷ 0 ∷ 0 ∷ 4 ∷ 0
    ∷ 2 ∷ 10 ∷ 0 ∷ 0 ∷ 0 ∷ 1
    ∷ 0 ∷ []

abbrev pool : List ℕ
pool = 101 ∷ 38 ∷ 102 ∷ 59 ∷ 120 ∷ 102 ∷ 38 ∷ 108 ∷ 116 ∷ 59 ∷ 103 ∷ []

abbrev e : List ℕ
e = 101 ∷ []

abbrev f : List ℕ
f = 102 ∷ []

abbrev g : List ℕ
g = 103 ∷ []

abbrev lt : List ℕ
lt = 108 ∷ 116 ∷ []

abbrev u : List ℕ
u = 117 ∷ []

names : Bool → Rule → ℕ → ℕ → List ℕ → List (List ℕ)
names strict r depth limit t = looked_up (reading_by strict r list pool limit) depth t

Names : Bool → Rule → Type 0
Names strict r =
    (names strict r 3 9 (38 ∷ 101 ∷ 59 ∷ 38 ∷ 102 ∷ 59 ∷ []) ≡ e ∷ f ∷ lt ∷ f ∷ lt ∷ [])  -- &e;&f;
    × (names strict r 3 9 (38 ∷ 101 ∷ 59 ∷ 38 ∷ 117 ∷ 59 ∷ 38 ∷ 102 ∷ 59 ∷ []) ≡ e ∷ f ∷ lt ∷ u ∷ [])  -- &e;&u;&f;: 11 at u
    × (names strict r 3 9 (38 ∷ 103 ∷ 59 ∷ 38 ∷ 101 ∷ 59 ∷ []) ≡ g ∷ [])  -- &g;&e;: 27 at g
    × (names strict r 3 0 (38 ∷ 101 ∷ 59 ∷ 38 ∷ 102 ∷ 59 ∷ []) ≡ e ∷ [])  -- &e;&f;, limit 0: 17 at e
    × (names strict r 3 1 (38 ∷ 101 ∷ 59 ∷ 38 ∷ 103 ∷ 59 ∷ []) ≡ e ∷ f ∷ [])  -- &e;&g;, limit 1: 17 at f
    × (names strict r 1 9 (38 ∷ 101 ∷ 59 ∷ 38 ∷ 102 ∷ 59 ∷ []) ≡ e ∷ [])  -- &e;&f;, depth 1: 16 in the text of e
    × (names strict r 0 9 (38 ∷ 101 ∷ 59 ∷ []) ≡ [])  -- &e;, depth 0
    × (names strict r 1 9 (38 ∷ 97 ∷ 109 ∷ 112 ∷ 59 ∷ 38 ∷ 108 ∷ 116 ∷ 59 ∷ []) ≡ lt ∷ [])  -- &amp;&lt;
    × (names strict r 1 9 (38 ∷ 108 ∷ 116 ∷ 59 ∷ 38 ∷ 35 ∷ 48 ∷ 59 ∷ 38 ∷ 101 ∷ 59 ∷ []) ≡ lt ∷ [])  -- &lt;&#0;&e;: 15
    × (names strict r 1 9 (38 ∷ 108 ∷ 116 ∷ 59 ∷ 38 ∷ 101 ∷ []) ≡ lt ∷ [])  -- &lt;&e: 10

table : (strict : Bool) (r : Rule) → Names strict r
unfolding Names names looked_up reading_by
table false xml10 = (refl, refl, refl, refl, refl, refl, refl, refl, refl, refl)
table false xml11 = (refl, refl, refl, refl, refl, refl, refl, refl, refl, refl)
table true xml10 = (refl, refl, refl, refl, refl, refl, refl, refl, refl, refl)
table true xml11 = (refl, refl, refl, refl, refl, refl, refl, refl, refl, refl)

-- U+0001 raw and U+FFFE by number: refused by the strict reading alone, 26 and 25
strictly_fewer :
    (names false xml10 1 9 (38 ∷ 108 ∷ 116 ∷ 59 ∷ 1 ∷ 38 ∷ 117 ∷ 59 ∷ []) ≡ lt ∷ u ∷ [])  -- &lt;..&u;
    × (names true xml10 1 9 (38 ∷ 108 ∷ 116 ∷ 59 ∷ 1 ∷ 38 ∷ 117 ∷ 59 ∷ []) ≡ lt ∷ [])
    × (names false xml11 1 9 (38 ∷ 35 ∷ 120 ∷ 70 ∷ 70 ∷ 70 ∷ 69 ∷ 59 ∷ 38 ∷ 117 ∷ 59 ∷ []) ≡ u ∷ [])  -- &#xFFFE;&u;
    × (names true xml11 1 9 (38 ∷ 35 ∷ 120 ∷ 70 ∷ 70 ∷ 70 ∷ 69 ∷ 59 ∷ 38 ∷ 117 ∷ 59 ∷ []) ≡ [])
unfolding names looked_up reading_by
strictly_fewer = (refl, refl, refl, refl)
