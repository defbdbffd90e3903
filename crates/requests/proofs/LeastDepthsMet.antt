-- The premises of K14's theorems are met: by a table of five definitions, under both versions, by computation. Assumes nothing.
use mathlib.Core.Path.{◌≡◌, refl}
use mathlib.Core.List.{List, [], ◌∷◌}
use Prim.Native.Nat.{ℕ}
use native.Mathlib.Omega.{arith}
use Rattle.text.specs.Call.{called, length_check, version_check, utf8_check}
use Rattle.text.specs.Utf8.{utf8_end}
use Rattle.entity.specs.Table.{declarations, table_check}
use Rattle.tokens.specs.Outcome.{finished}
use Rattle.attribute.specs.Checks.{settings_check}
use Rattle.attribute.specs.Walk.{normalize, reading_of}
use Rattle.walk_depths.specs.LeastDepth.{first_not, least_of, least_depth}
use Rattle.govlezna.specs.Calls.{normalize_attribute_value_call, least_depth_call}
use Rattle.demands.specs.Demands.{Asked}
use Rattle.demands.specs.CallDemands.{normalize_of}
use Rattle.requests.specs.LeastDepths.{deepened, least_depth_of, LeastWithin, RefusedAs, RefusesAs, AnswersLeast}
use Rattle.requests.proofs.LeastDepths.{k14_least, k14_accepted, k14_refused, k14_refuses}

-- a = `&d;`; d = `y`; x = `z`; b = `&x;`; s = `&s;`
abbrev list : List ℕ
list =
    1 ∷ 0 ∷ 0 ∷ 0 ∷ 0 ∷ 1 ∷ 1 ∷ 0 ∷ 0 ∷ 0 ∷ 3 ∷ 0
    ∷ 1 ∷ 4 ∷ 0 ∷ 0 ∷ 0 ∷ 1 ∷ 5 ∷ 0 ∷ 0 ∷ 0 ∷ 1 ∷ 0
    ∷ 1 ∷ 6 ∷ 0 ∷ 0 ∷ 0 ∷ 1 ∷ 7 ∷ 0 ∷ 0 ∷ 0 ∷ 1 ∷ 0
    ∷ 1 ∷ 8 ∷ 0 ∷ 0 ∷ 0 ∷ 1 ∷ 9 ∷ 0 ∷ 0 ∷ 0 ∷ 3 ∷ 0
    ∷ 1 ∷ 12 ∷ 0 ∷ 0 ∷ 0 ∷ 1 ∷ 13 ∷ 0 ∷ 0 ∷ 0 ∷ 3 ∷ 0
    ∷ 0 ∷ []

abbrev pool : List ℕ
pool = 97 ∷ 38 ∷ 100 ∷ 59 ∷ 100 ∷ 121 ∷ 120 ∷ 122 ∷ 98 ∷ 38 ∷ 120 ∷ 59 ∷ 115 ∷ 38 ∷ 115 ∷ 59 ∷ []

abbrev asked : ℕ → ℕ → List ℕ → Asked
asked version limit t = record { version = version; text = t; list = list; pool = pool; depth = 0; limit = limit }

-- `&a;&x;&b;`: 2, and normalization at depth 2 is accepted: `yzz`, five openings
abbrev three : List ℕ
three = 38 ∷ 97 ∷ 59 ∷ 38 ∷ 120 ∷ 59 ∷ 38 ∷ 98 ∷ 59 ∷ []

answered : least_depth_of (asked 0 5 three) ≡ called 0 (2 ∷ 0 ∷ []) []
unfolding least_depth_call length_check settings_check version_check utf8_check utf8_end table_check declarations least_depth first_not least_of normalize reading_of
answered = refl

least_met : AnswersLeast (asked 0 5 three)
least_met = k14_least (asked 0 5 three) answered

accepted : normalize_of (deepened (asked 0 5 three) 2) (7 ∷ 7 ∷ 7 ∷ []) ≡ called 0 (3 ∷ 5 ∷ []) ((121 ∷ 122 ∷ 122 ∷ []) ∷ [])
unfolding normalize_attribute_value_call length_check settings_check version_check utf8_check utf8_end table_check declarations finished normalize reading_of
accepted = refl

accepted_met : LeastWithin (asked 0 5 three) 2
accepted_met = k14_accepted (asked 0 5 three) 2 (7 ∷ 7 ∷ 7 ∷ []) accepted

-- `&a;&q;` under XML 1.1: 11 with the place of `q`
abbrev unknown : List ℕ
unknown = 38 ∷ 97 ∷ 59 ∷ 38 ∷ 113 ∷ 59 ∷ []

refused : normalize_of (deepened (asked 2 9 unknown) 128) [] ≡ called 11 (4 ∷ 5 ∷ []) ([] ∷ [])
unfolding normalize_attribute_value_call length_check settings_check version_check utf8_check utf8_end table_check declarations finished normalize reading_of
refused = refl

refused_met : RefusedAs (asked 2 9 unknown) 11 4 5
refused_met = k14_refused (asked 2 9 unknown) [] 11 4 5 refused (λ e. omega (arith, e)) (λ e. omega (arith, e))

refuses_met : RefusesAs (asked 2 9 unknown) 11 (4 ∷ 5 ∷ []) (7 ∷ [])
refuses_met = k14_refuses (asked 2 9 unknown) 11 refused_met (λ e. omega (arith, e)) (7 ∷ [])

-- `&s;`, which is its own text, with a limit that 128 levels do not meet: 32
endless : least_depth_of (asked 0 1000000 (38 ∷ 115 ∷ 59 ∷ [])) ≡ called 32 (0 ∷ 0 ∷ []) []
unfolding least_depth_call length_check settings_check version_check utf8_check utf8_end table_check declarations least_depth first_not least_of normalize reading_of
endless = refl

endless_met : RefusesAs (asked 0 1000000 (38 ∷ 115 ∷ 59 ∷ [])) 32 (0 ∷ 0 ∷ []) []
endless_met = k14_refuses (asked 0 1000000 (38 ∷ 115 ∷ 59 ∷ [])) 32 endless (λ e. omega (arith, e)) []
