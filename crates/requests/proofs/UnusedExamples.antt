-- K13's premises are met by two tables that share nothing but what a value looks up (`edited_same`), or a job (`job_same`); and what they ask for is needed: `lt`
-- added to an empty table is no unused definition where `&lt;` is read (`lt_appended`), and the marking has a say (`marking_has_a_say`), by
-- computation. Assumes nothing.
use mathlib.Core.Path.{◌≡◌, refl}
use mathlib.Core.Bool.{false}
use mathlib.Core.List.{List, [], ◌∷◌, ◌++◌}
use mathlib.Core.Logic.{◌≢◌}
use Prim.Native.Nat.{ℕ, ◌<◌}
use native.Mathlib.Omega.{arith}
use lib.Dec.{lit<}
use Rattle.text.specs.Call.{Called, called, length_check, utf8_check}
use Rattle.text.specs.Utf8.{utf8_end, well_formed}
use Rattle.entity.specs.Table.{part, declarations, table_check, marked}
use Rattle.entity.specs.Binding.{binding}
use Rattle.tokens.specs.Outcome.{finished}
use Rattle.attribute.specs.Checks.{settings_check}
use Rattle.attribute.specs.Walk.{normalize, reading_of}
use Rattle.attribute.specs.Strict.{reading_by}
use Rattle.attribute.specs.LookedUp.{looked_up}
use Rattle.govlezna.specs.Calls.{check_table_call, normalize_attribute_value_call}
use Rattle.requests.specs.Unused.{normalizing, call_with, Caller, reads, rehearses, call_by, names_by, command1, unknown_in_both, BindAlike, OneMarking}
use Rattle.requests.proofs.Unused.{k13_unused}
use Rattle.requests.proofs.UnusedBytes.{k13_grown}

-- e = `&f;`; f = `x`; g = `1`
abbrev list : List ℕ
list =
    1 ∷ 0 ∷ 0 ∷ 0 ∷ 0 ∷ 1 ∷ 1 ∷ 0 ∷ 0 ∷ 0 ∷ 3 ∷ 0
    ∷ 1 ∷ 4 ∷ 0 ∷ 0 ∷ 0 ∷ 1 ∷ 5 ∷ 0 ∷ 0 ∷ 0 ∷ 1 ∷ 0
    ∷ 1 ∷ 6 ∷ 0 ∷ 0 ∷ 0 ∷ 1 ∷ 7 ∷ 0 ∷ 0 ∷ 0 ∷ 1 ∷ 0
    ∷ 0 ∷ []

abbrev pool : List ℕ
pool = 101 ∷ 38 ∷ 102 ∷ 59 ∷ 102 ∷ 120 ∷ 103 ∷ 49 ∷ []

-- g external; f = `x`; e = `&f;`; lt = `y`
abbrev edited : List ℕ
edited =
    2 ∷ 0 ∷ 0 ∷ 0 ∷ 0 ∷ 1
    ∷ 1 ∷ 1 ∷ 0 ∷ 0 ∷ 0 ∷ 1 ∷ 2 ∷ 0 ∷ 0 ∷ 0 ∷ 1 ∷ 0
    ∷ 1 ∷ 3 ∷ 0 ∷ 0 ∷ 0 ∷ 1 ∷ 4 ∷ 0 ∷ 0 ∷ 0 ∷ 3 ∷ 0
    ∷ 1 ∷ 7 ∷ 0 ∷ 0 ∷ 0 ∷ 2 ∷ 9 ∷ 0 ∷ 0 ∷ 0 ∷ 1 ∷ 0
    ∷ 0 ∷ []

abbrev edited_pool : List ℕ
edited_pool = 103 ∷ 102 ∷ 120 ∷ 101 ∷ 38 ∷ 102 ∷ 59 ∷ 108 ∷ 116 ∷ 121 ∷ []

-- `&e;` under XML 1.0, at depth 2, with two openings
abbrev reader : Caller
reader = reads (normalizing false (38 ∷ 101 ∷ 59 ∷ []) 0 2 2 (7 ∷ 7 ∷ []))

one_marking : OneMarking list pool edited edited_pool
unfolding check_table_call table_check declarations marked
one_marking = record { count = 3; accepted = refl; count' = 4; accepted' = refl; marking = refl }

alike : BindAlike list pool edited edited_pool (names_by reader list pool)
unfolding looked_up reading_by binding
alike = (command1 (38 ∷ 102 ∷ 59 ∷ []), (command1 (120 ∷ []), tt))

edited_same : call_by reader list pool ≡ call_by reader edited edited_pool
edited_same = k13_unused list pool edited edited_pool one_marking reader alike

-- K11: `&e;`, `&q;` and the first byte of `é` as the values of one job: e, f and q are looked up
abbrev job : Caller
job =
    rehearses (38 ∷ 101 ∷ 59 ∷ 38 ∷ 113 ∷ 59 ∷ 195 ∷ 169 ∷ [])
    (record { start = 0; length = 3 } ∷ record { start = 3; length = 3 } ∷ record { start = 6; length = 1 } ∷ []) 0 2 2 (8 ∷ [])

job_alike : BindAlike list pool edited edited_pool (names_by job list pool)
unfolding looked_up reading_by binding well_formed part
job_alike = (command1 (38 ∷ 102 ∷ 59 ∷ []), (command1 (120 ∷ []), (unknown_in_both, tt)))

job_same : call_by job list pool ≡ call_by job edited edited_pool
job_same = k13_unused list pool edited edited_pool one_marking job job_alike

-- e = `&f;`; f = `x`, and h = `z` put behind them
abbrev front : List ℕ
front = 1 ∷ 0 ∷ 0 ∷ 0 ∷ 0 ∷ 1 ∷ 1 ∷ 0 ∷ 0 ∷ 0 ∷ 3 ∷ 0 ∷ 1 ∷ 4 ∷ 0 ∷ 0 ∷ 0 ∷ 1 ∷ 5 ∷ 0 ∷ 0 ∷ 0 ∷ 1 ∷ 0 ∷ []

abbrev added : List ℕ
added = 1 ∷ 6 ∷ 0 ∷ 0 ∷ 0 ∷ 1 ∷ 7 ∷ 0 ∷ 0 ∷ 0 ∷ 1 ∷ 0 ∷ 0 ∷ []

abbrev front_pool : List ℕ
front_pool = 101 ∷ 38 ∷ 102 ∷ 59 ∷ 102 ∷ 120 ∷ []

grown_marking : OneMarking (front ++ 0 ∷ []) front_pool (front ++ added) (front_pool ++ 104 ∷ 122 ∷ [])
unfolding check_table_call table_check declarations marked
grown_marking = record { count = 2; accepted = refl; count' = 3; accepted' = refl; marking = refl }

other : (a b : ℕ) → a < b → b ∷ [] ≢ a ∷ []
other a b h e = let z : b ≡ a = cc in omega (arith, h, z)

grown_same : call_by reader (front ++ 0 ∷ []) front_pool ≡ call_by reader (front ++ added) (front_pool ++ 104 ∷ 122 ∷ [])
unfolding looked_up reading_by
grown_same = k13_grown front added front_pool (104 ∷ 122 ∷ []) grown_marking reader ((other 101 104 (lit< tt), (other 102 104 (lit< tt), tt)), tt)

-- a value with a table, at depth 2, with two openings and room for two bytes
normalized : List ℕ → List ℕ → List ℕ → Called
normalized t given bytes = call_with (normalizing false t 0 2 2 (7 ∷ 7 ∷ [])) given bytes

-- what is left, after which byte is kept
lt_appended :
    (normalized (38 ∷ 101 ∷ 59 ∷ []) edited edited_pool ≡ called 0 (1 ∷ 2 ∷ []) ((120 ∷ 7 ∷ []) ∷ []))  -- &e;
    × (normalized (38 ∷ 108 ∷ 116 ∷ 59 ∷ []) (0 ∷ []) [] ≡ called 0 (1 ∷ 0 ∷ []) ((60 ∷ 7 ∷ []) ∷ []))  -- &lt;
    -- &lt;, where lt = `<`: as before, but for the opening
    × (normalized (38 ∷ 108 ∷ 116 ∷ 59 ∷ []) (1 ∷ 0 ∷ 0 ∷ 0 ∷ 0 ∷ 2 ∷ 2 ∷ 0 ∷ 0 ∷ 0 ∷ 1 ∷ 0 ∷ 0 ∷ []) (108 ∷ 116 ∷ 60 ∷ []) ≡ called 0 (1 ∷ 1 ∷ []) ((60 ∷ 7 ∷ []) ∷ []))
unfolding normalized normalize_attribute_value_call length_check settings_check utf8_check utf8_end table_check finished normalize reading_of
lt_appended = (refl, refl, refl)

-- e = CR LF, without a mark and with one
marking_has_a_say :
    (normalized (38 ∷ 101 ∷ 59 ∷ []) (1 ∷ 0 ∷ 0 ∷ 0 ∷ 0 ∷ 1 ∷ 1 ∷ 0 ∷ 0 ∷ 0 ∷ 2 ∷ 0 ∷ 0 ∷ []) (101 ∷ 13 ∷ 10 ∷ []) ≡ called 0 (1 ∷ 1 ∷ []) ((32 ∷ 7 ∷ []) ∷ []))
    × (normalized (38 ∷ 101 ∷ 59 ∷ []) (3 ∷ 1 ∷ 0 ∷ 0 ∷ 0 ∷ 0 ∷ 1 ∷ 1 ∷ 0 ∷ 0 ∷ 0 ∷ 2 ∷ 0 ∷ 0 ∷ []) (101 ∷ 13 ∷ 10 ∷ []) ≡ called 0 (2 ∷ 1 ∷ []) ((32 ∷ 32 ∷ []) ∷ []))
unfolding normalized normalize_attribute_value_call length_check settings_check utf8_check utf8_end table_check finished normalize reading_of
marking_has_a_say = (refl, refl)
