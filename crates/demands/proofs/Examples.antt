-- The examples of XML 1.0, 3.3.3 (the column for CDATA) by the standard's definition, with document 01's departure; XML 1.1, 2.11; and where a
-- form has its first raw RestrictedChar (K8). Assumes nothing.
use mathlib.Core.Path.{◌≡◌, refl}
use Prim.Native.Nat.{ℕ}
use mathlib.Core.Option.{Option, none, some}
use mathlib.Core.List.{List, [], ◌∷◌}
use Rattle.text.specs.Bytes.{pick, same_bytes}
use Rattle.text.specs.Version.{xml10, xml11}
use Rattle.charref.specs.CharRef.{any_character}
use Rattle.demands.specs.Standard.{line_ends_of, standard}
use Rattle.demands.specs.StrictDemands.{restricted_from}

-- <!ENTITY d "&#xD;">, <!ENTITY a "&#xA;">, <!ENTITY da "&#xD;&#xA;">: the replacement texts are CR, LF, and CR LF
w3c : List ℕ → Option (List ℕ)
w3c name =
    pick (same_bytes name (100 ∷ [])) (some (13 ∷ []))
    (pick (same_bytes name (97 ∷ [])) (some (10 ∷ []))
    (pick (same_bytes name (100 ∷ 97 ∷ [])) (some (13 ∷ 10 ∷ []))
    none))

-- the value, with what is done to replacement texts
normalized : (List ℕ → List ℕ) → List ℕ → Option (List ℕ)
normalized lines cs = standard any_character w3c lines 2 (line_ends_of xml10 cs)

-- a="&d;&d;A&a;&#x20;&a;B&da;"
second : List ℕ
second =
    38 ∷ 100 ∷ 59 ∷ 38 ∷ 100 ∷ 59 ∷ 65 ∷ 38 ∷ 97 ∷ 59 ∷ 38 ∷ 35 ∷ 120 ∷ 50 ∷ 48 ∷ 59 ∷ 38 ∷ 97 ∷ 59 ∷ 66 ∷ 38 ∷ 100 ∷ 97 ∷ 59 ∷ []

-- a="&#xd;&#xd;A&#xa;&#xa;B&#xd;&#xa;"
third : List ℕ
third =
    38 ∷ 35 ∷ 120 ∷ 100 ∷ 59 ∷ 38 ∷ 35 ∷ 120 ∷ 100 ∷ 59 ∷ 65 ∷ 38 ∷ 35 ∷ 120 ∷ 97 ∷ 59 ∷ 38 ∷ 35 ∷ 120 ∷ 97 ∷ 59 ∷ 66 ∷ 38 ∷ 35 ∷ 120 ∷ 100 ∷ 59 ∷ 38 ∷ 35 ∷ 120 ∷ 97 ∷ 59 ∷ []

-- The standards' examples give the standards' values, and `&da;` one space less by document 01's departure.
examples :
    (normalized (λ t. t) (13 ∷ 10 ∷ 13 ∷ 120 ∷ 121 ∷ 122 ∷ []) ≡ some (32 ∷ 32 ∷ 120 ∷ 121 ∷ 122 ∷ []))  -- two line ends, xyz
    × (normalized (λ t. t) second ≡ some (32 ∷ 32 ∷ 65 ∷ 32 ∷ 32 ∷ 32 ∷ 66 ∷ 32 ∷ 32 ∷ []))
    × (normalized (line_ends_of xml10) second ≡ some (32 ∷ 32 ∷ 65 ∷ 32 ∷ 32 ∷ 32 ∷ 66 ∷ 32 ∷ []))  -- the departure: line ends join in &da;
    × (normalized (λ t. t) third ≡ some (13 ∷ 13 ∷ 65 ∷ 10 ∷ 10 ∷ 66 ∷ 13 ∷ 10 ∷ []))
    × (line_ends_of xml11 (13 ∷ 0x85 ∷ 65 ∷ 13 ∷ 0x2028 ∷ []) ≡ 10 ∷ 65 ∷ 10 ∷ 10 ∷ [])  -- CR U+0085 is one LF, CR U+2028 are two
unfolding w3c normalized second third standard line_ends_of
examples = (refl, refl, refl, refl, refl)

-- `a` U+0001 `b`: the second byte; `a<` has none
restricted_examples : (restricted_from 0 (97 ∷ 1 ∷ 98 ∷ []) ≡ some 1) × (restricted_from 0 (97 ∷ 60 ∷ []) ≡ none)
unfolding restricted_from
restricted_examples = (refl, refl)
