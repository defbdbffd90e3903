-- The order of the checks, and what is left in each buffer, in calls with an entity table, by computation (document 01, Refusals by
-- place). Assumes nothing.
use mathlib.Core.Path.{◌≡◌, refl}
use mathlib.Core.List.{List, [], ◌∷◌}
use Prim.Native.Nat.{ℕ}
use Rattle.text.specs.Call.{Called, called, length_check, utf8_check}
use Rattle.text.specs.Utf8.{utf8_end}
use Rattle.entity.specs.Table.{table_check}
use Rattle.entity.specs.Binding.{binding}
use Rattle.tokens.specs.Outcome.{finished}
use Rattle.unescape.specs.Unescape.{unescape}
use Rattle.attribute.specs.Checks.{settings_check}
use Rattle.attribute.specs.Walk.{normalize, reading_of}
use Rattle.attribute.specs.Form.{formed}
use Rattle.govlezna.specs.Calls.{check_table_call, unescape_call, normalize_attribute_value_call, canonical_form_call}

-- e = `<`
abbrev list : List ℕ
list = 1 ∷ 0 ∷ 0 ∷ 0 ∷ 0 ∷ 1 ∷ 1 ∷ 0 ∷ 0 ∷ 0 ∷ 1 ∷ 0 ∷ 0 ∷ []

abbrev pool : List ℕ
pool = 101 ∷ 60 ∷ []

tables : (check_table_call list pool ≡ called 0 (1 ∷ 0 ∷ []) []) × (check_table_call [] [] ≡ called 7 (0 ∷ 0 ∷ []) [])
unfolding check_table_call table_check
tables = (refl, refl)

-- a text that is not UTF-8 with a list that has no end; `&e;` with that list, and with the table; `&f;`
unescaped :
    (unescape_call (0xFF ∷ []) [] [] (7 ∷ 8 ∷ []) ≡ called 5 (0 ∷ 0 ∷ []) ((7 ∷ 8 ∷ []) ∷ []))
    × (unescape_call (38 ∷ 101 ∷ 59 ∷ []) [] [] (7 ∷ 8 ∷ []) ≡ called 7 (0 ∷ 0 ∷ []) ((7 ∷ 8 ∷ []) ∷ []))
    × (unescape_call (38 ∷ 101 ∷ 59 ∷ []) list pool (7 ∷ 8 ∷ []) ≡ called 0 (1 ∷ 0 ∷ []) ((60 ∷ 8 ∷ []) ∷ []))
    × (unescape_call (38 ∷ 102 ∷ 59 ∷ []) list pool (7 ∷ 8 ∷ []) ≡ called 11 (1 ∷ 2 ∷ []) ((7 ∷ 8 ∷ []) ∷ []))
unfolding unescape_call length_check utf8_check utf8_end table_check finished unescape binding
unescaped = (refl, refl, refl, refl)

-- every argument wrong; then the depth right, the limit, the version, the text, and the table; with an output that is too short
normalized :
    (normalize_attribute_value_call (0xFF ∷ []) 3 129 1000001 [] [] [] ≡ called 2 (0 ∷ 0 ∷ []) ([] ∷ []))
    × (normalize_attribute_value_call (0xFF ∷ []) 3 2 1000001 [] [] [] ≡ called 3 (0 ∷ 0 ∷ []) ([] ∷ []))
    × (normalize_attribute_value_call (0xFF ∷ []) 3 2 9 [] [] [] ≡ called 4 (0 ∷ 0 ∷ []) ([] ∷ []))
    × (normalize_attribute_value_call (0xFF ∷ []) 2 2 9 [] [] [] ≡ called 5 (0 ∷ 0 ∷ []) ([] ∷ []))
    × (normalize_attribute_value_call (38 ∷ 101 ∷ 59 ∷ []) 2 2 9 [] [] [] ≡ called 7 (0 ∷ 0 ∷ []) ([] ∷ []))
    × (normalize_attribute_value_call (38 ∷ 101 ∷ 59 ∷ []) 2 2 9 list pool [] ≡ called 19 (1 ∷ 0 ∷ []) ([] ∷ []))
    × (normalize_attribute_value_call (38 ∷ 101 ∷ 59 ∷ []) 2 2 9 list pool (7 ∷ 8 ∷ []) ≡ called 0 (1 ∷ 1 ∷ []) ((60 ∷ 8 ∷ []) ∷ []))
unfolding normalize_attribute_value_call length_check settings_check utf8_check utf8_end table_check finished normalize reading_of
normalized = (refl, refl, refl, refl, refl, refl, refl)

-- at depth 0; with a scratch that is too short, an output that is too short, and room
form : ℕ → List ℕ → List ℕ → Called
form depth scratch out = canonical_form_call (38 ∷ 101 ∷ 59 ∷ []) 2 depth 9 list pool scratch out

forms :
    (form 0 (7 ∷ 8 ∷ []) (7 ∷ 8 ∷ []) ≡ called 16 (0 ∷ 0 ∷ []) ((7 ∷ 8 ∷ []) ∷ (7 ∷ 8 ∷ []) ∷ []))
    × (form 2 (7 ∷ 7 ∷ 7 ∷ []) (7 ∷ 8 ∷ []) ≡ called 18 (4 ∷ 0 ∷ []) ((7 ∷ 7 ∷ 7 ∷ []) ∷ (7 ∷ 8 ∷ []) ∷ []))
    × (form 2 (7 ∷ 7 ∷ 7 ∷ 7 ∷ []) (7 ∷ 8 ∷ []) ≡ called 19 (4 ∷ 0 ∷ []) ((7 ∷ 7 ∷ 7 ∷ 7 ∷ []) ∷ (7 ∷ 8 ∷ []) ∷ []))
    × (form 2 (7 ∷ 7 ∷ 7 ∷ 7 ∷ 8 ∷ []) (7 ∷ 7 ∷ 7 ∷ 7 ∷ 8 ∷ []) ≡ called 0 (4 ∷ 1 ∷ []) ((60 ∷ 0 ∷ 0 ∷ 0 ∷ 8 ∷ []) ∷ (38 ∷ 108 ∷ 116 ∷ 59 ∷ 8 ∷ []) ∷ []))
unfolding form canonical_form_call length_check settings_check utf8_check utf8_end table_check formed normalize reading_of
forms = (refl, refl, refl, refl)
