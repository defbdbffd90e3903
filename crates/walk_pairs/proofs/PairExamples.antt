-- Forecasts of small values, by computation (document 02, K6 and K9): whole calls, with every word. Assumes nothing.
use mathlib.Core.Path.{◌≡◌, refl}
use mathlib.Core.List.{List, [], ◌∷◌}
use Prim.Native.Nat.{ℕ}
use Rattle.text.specs.Call.{Called, called}
use Rattle.text.specs.Version.{Rule, xml10, xml11}
use Rattle.attribute.specs.Walk.{reading_of}
use Rattle.walk_pairs.specs.Forecast.{fails, first_word, second_word, forecast}

abbrev of : Rule → List ℕ → List ℕ → ℕ → ℕ → List ℕ → List ℕ → Called
of r list pool depth limit t words = forecast (reading_of r list pool limit) depth list pool t words

-- e = `&f;`; f = `x`; an external g
abbrev list : List ℕ
list =
    1 ∷ 0 ∷ 0 ∷ 0 ∷ 0 ∷ 1 ∷ 1 ∷ 0 ∷ 0 ∷ 0 ∷ 3 ∷ 0
    ∷ 1 ∷ 2 ∷ 0 ∷ 0 ∷ 0 ∷ 1 ∷ 4 ∷ 0 ∷ 0 ∷ 0 ∷ 1 ∷ 0
    ∷ 2 ∷ 5 ∷ 0 ∷ 0 ∷ 0 ∷ 1
    ∷ 0 ∷ []

abbrev pool : List ℕ
pool = 101 ∷ 38 ∷ 102 ∷ 59 ∷ 120 ∷ 103 ∷ []

-- s = `&s;`
abbrev cyclic : List ℕ
cyclic = 1 ∷ 0 ∷ 0 ∷ 0 ∷ 0 ∷ 1 ∷ 1 ∷ 0 ∷ 0 ∷ 0 ∷ 3 ∷ 0 ∷ 0 ∷ []

abbrev cyclic_pool : List ℕ
cyclic_pool = 115 ∷ 38 ∷ 115 ∷ 59 ∷ []

-- e = `x`; e = `yy&e;`
abbrev twice : List ℕ
twice =
    1 ∷ 0 ∷ 0 ∷ 0 ∷ 0 ∷ 1 ∷ 1 ∷ 0 ∷ 0 ∷ 0 ∷ 1 ∷ 0
    ∷ 1 ∷ 0 ∷ 0 ∷ 0 ∷ 0 ∷ 1 ∷ 2 ∷ 0 ∷ 0 ∷ 0 ∷ 5 ∷ 0
    ∷ 0 ∷ []

abbrev twice_pool : List ℕ
twice_pool = 101 ∷ 120 ∷ 121 ∷ 121 ∷ 38 ∷ 101 ∷ 59 ∷ []

abbrev sixteen : ℕ
sixteen = 9223372036854775824

-- the words of the first table at depth 1, and one more, which stays
abbrev filled : List ℕ
filled = sixteen ∷ 0 ∷ 1 ∷ 1 ∷ 1 ∷ 0 ∷ 1 ∷ 0 ∷ 0 ∷ 0 ∷ 0 ∷ 0 ∷ 7 ∷ []

abbrev sevens : List ℕ
sevens = 7 ∷ 7 ∷ 7 ∷ 7 ∷ 7 ∷ 7 ∷ 7 ∷ 7 ∷ 7 ∷ 7 ∷ 7 ∷ 7 ∷ 7 ∷ []

Forecasts : Rule → Type 0
Forecasts r =
    (of r list pool 1 1 (38 ∷ 102 ∷ 59 ∷ 122 ∷ []) sevens ≡ called 0 (2 ∷ 1 ∷ []) (filled ∷ []))  -- &f;z
    × (of r list pool 1 0 (38 ∷ 102 ∷ 59 ∷ []) sevens ≡ called 17 (0 ∷ 0 ∷ []) (filled ∷ []))  -- &f;, limit 0: the pairs have their own
    × (of r list pool 1 9 (38 ∷ 101 ∷ 59 ∷ []) sevens ≡ called 16 (0 ∷ 0 ∷ []) (filled ∷ []))  -- &e;
    × (of r list pool 1 9 (97 ∷ 38 ∷ 113 ∷ []) sevens ≡ called 10 (0 ∷ 0 ∷ []) (filled ∷ []))  -- a&q
    × (of r list pool 1 9 (38 ∷ 103 ∷ 59 ∷ []) sevens ≡ called 27 (0 ∷ 0 ∷ []) (filled ∷ []))  -- &g;
    × (of r list pool 2 9 (97 ∷ []) sevens ≡ called 24 (18 ∷ 0 ∷ []) (sevens ∷ []))  -- a, at depth 2
    × (of r (0 ∷ []) [] 2 9 (97 ∷ 9 ∷ []) [] ≡ called 0 (2 ∷ 0 ∷ []) ([] ∷ []))  -- a TAB, no table
    × (of r cyclic cyclic_pool 2 9 [] sevens
    ≡ called 0 (0 ∷ 0 ∷ []) ((sixteen ∷ 0 ∷ sixteen ∷ 1 ∷ sixteen ∷ 2 ∷ 7 ∷ 7 ∷ 7 ∷ 7 ∷ 7 ∷ 7 ∷ 7 ∷ []) ∷ []))
    × (of r twice twice_pool 1 1 (38 ∷ 101 ∷ 59 ∷ []) sevens
    ≡ called 0 (1 ∷ 1 ∷ []) ((1 ∷ 0 ∷ 1 ∷ 0 ∷ sixteen ∷ 0 ∷ 3 ∷ 1 ∷ 7 ∷ 7 ∷ 7 ∷ 7 ∷ 7 ∷ []) ∷ []))

forecasts : (r : Rule) → Forecasts r
unfolding Forecasts forecast reading_of
forecasts xml10 = (refl, refl, refl, refl, refl, refl, refl, refl, refl)
forecasts xml11 = (refl, refl, refl, refl, refl, refl, refl, refl, refl)

-- K6: a count above 1,000,000, as the walk at that limit meets it, is held as 1,000,001 with a first word of 0
held : (first_word (fails 17 1000000) ≡ 0) × (second_word (fails 17 1000000) ≡ 1000001)
unfolding first_word second_word
held = (refl, refl)
