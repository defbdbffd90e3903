-- The premises of the requests' theorems are met by calls with a table that defines something, by computation: K7 (`k7_met`), K8's re-reading
-- (`again_met`, `again_26_met`), the standard (`standard_met_so`), K4's tables (`k4_table_met`), K10 (`k10_met`). Assumes nothing.
use mathlib.Core.Path.{◌≡◌, refl, ap}
use Prim.Native.Nat.{ℕ, zero, suc}
use native.Mathlib.Omega.{arith}
use mathlib.Core.Bool.{Bool, true, false}
use mathlib.Core.List.{List, [], ◌∷◌, ◌++◌}
use lib.ListN.{length}
use Rattle.text.specs.Bytes.{pick, same_bytes}
use Rattle.text.specs.Version.{xml10}
use Rattle.text.specs.Call.{called, length_check, utf8_check}
use Rattle.text.specs.Utf8.{utf8_end}
use Rattle.text.proofs.Bytes.{pick_both}
use Rattle.entity.specs.Table.{declarations, table_check, marked}
use Rattle.entity.specs.Binding.{Bound, text, predefined, unknown, predefined_of, binding}
use Rattle.tokens.specs.Outcome.{finished}
use Rattle.canonical.specs.Canonical.{canonical}
use Rattle.canonical.specs.LastCharacter.{in_hand}
use Rattle.attribute.specs.Checks.{settings_check}
use Rattle.attribute.specs.Walk.{normalize, reading_of}
use Rattle.attribute.specs.Strict.{reading_by}
use Rattle.register.specs.Entries.{count_in}
use Rattle.register.specs.Stored.{register}
use Rattle.register.specs.RegisterCalls.{count_call}
use Rattle.register.specs.CallLists.{number_of}
use Rattle.register.specs.Places.{Small}
use Rattle.govlezna.specs.Calls.{check_table_call, unescape_call, register_add_call, register_withdraw_call, normalize_attribute_value_call, normalize_attribute_value_strict_call}
use Rattle.demands.specs.Demands.{Asked}
use Rattle.demands.specs.CallDemands.{CallAgain}
use Rattle.demands.specs.Characters.{decode}
use Rattle.demands.specs.Standard.{line_ends_of, lines_of, lookup_of, steady_refs, SteadyBound, standard}
use Rattle.demands.specs.StrictDemands.{restricted_from}
use Rattle.requests.specs.Strict.{StrictlyAnswered, StrictCallRereads, StrictCallRefuses}
use Rattle.requests.specs.SmallScratch.{canonical_by, normalize_by}
use Rattle.requests.specs.Standard.{SteadyAsked, GivesNone, GaveStandard, Gives, AnswersStandard}
use Rattle.requests.proofs.Strict.{answered, k8_completes, k8_again_calls, k8_again_26_calls}
use Rattle.requests.proofs.SmallScratch.{k7_walk_first, k7_short, k7_no_room, k7_hand}
use Rattle.requests.specs.Register.{no_room}
use Rattle.requests.proofs.Standard.{standard_answered, standard_refused, standard_met}
use Rattle.requests.proofs.MarkedTable.{k4_accepted, k4_refused, k4_middle, k4_unescape}
use Rattle.requests.proofs.Register.{k10_29, k10_30}

-- a text with e = `x`, under that version
abbrev asked : ℕ → List ℕ → Asked
asked version t = record { version = version; text = t; list = 1 ∷ 0 ∷ 0 ∷ 0 ∷ 0 ∷ 1 ∷ 1 ∷ 0 ∷ 0 ∷ 0 ∷ 1 ∷ 0 ∷ 0 ∷ []; pool = 101 ∷ 120 ∷ []; depth = 2; limit = 1 }

-- `&e;`
abbrev value : Asked
value = asked 0 (38 ∷ 101 ∷ 59 ∷ [])

-- `&q;`, which is unknown
abbrev other : Asked
other = asked 0 (38 ∷ 113 ∷ 59 ∷ [])

normalizes : (strict : Bool) → normalize_by strict value (7 ∷ 7 ∷ []) ≡ called 0 (1 ∷ 1 ∷ []) ((120 ∷ 7 ∷ []) ∷ [])
unfolding normalize_attribute_value_call normalize_attribute_value_strict_call length_check settings_check utf8_check utf8_end table_check finished normalize reading_by reading_of
normalizes false = refl
normalizes true = refl

refuses : (strict : Bool) → normalize_by strict other (7 ∷ 7 ∷ []) ≡ called 11 (1 ∷ 2 ∷ []) ((7 ∷ 7 ∷ []) ∷ [])
unfolding normalize_attribute_value_call normalize_attribute_value_strict_call length_check settings_check utf8_check utf8_end table_check finished normalize reading_by reading_of
refuses false = refl
refuses true = refl

-- ---- K7, of both calls: 11 before 18; 18, 19, and the character in hand

k7_met : (strict : Bool)
    → (canonical_by strict other [] [] ≡ called 11 (1 ∷ 2 ∷ []) ([] ∷ [] ∷ []))
    × (canonical_by strict value (7 ∷ 7 ∷ 7 ∷ []) [] ≡ called 18 (4 ∷ 0 ∷ []) ((7 ∷ 7 ∷ 7 ∷ []) ∷ [] ∷ []))
    × (canonical_by strict value (7 ∷ 7 ∷ 7 ∷ 7 ∷ []) [] ≡ called 19 (1 ∷ 0 ∷ []) ((7 ∷ 7 ∷ 7 ∷ 7 ∷ []) ∷ [] ∷ []))
    × (canonical_by strict value (7 ∷ 7 ∷ 7 ∷ 7 ∷ 7 ∷ []) (7 ∷ 7 ∷ []) ≡ called 0 (1 ∷ 1 ∷ []) ((120 ∷ 0 ∷ 0 ∷ 0 ∷ 7 ∷ []) ∷ (120 ∷ 7 ∷ []) ∷ []))
unfolding canonical in_hand
k7_met strict = (
  k7_walk_first strict other (7 ∷ 7 ∷ []) (refuses strict) (λ z. omega (arith, z)) (λ z. omega (arith, z)) [] [],
  k7_short strict value (7 ∷ 7 ∷ []) (normalizes strict) (7 ∷ 7 ∷ 7 ∷ []) [] (omega arith),
  k7_no_room strict value (7 ∷ 7 ∷ []) (normalizes strict) (7 ∷ 7 ∷ 7 ∷ 7 ∷ []) [] (omega arith) (omega arith),
  k7_hand strict value (7 ∷ 7 ∷ []) (normalizes strict) (7 ∷ 7 ∷ 7 ∷ 7 ∷ 7 ∷ []) (7 ∷ 7 ∷ []) (omega arith) (omega arith),
)

-- ---- K8, under version 2: `&e;` read again, and `&#1;`, whose form is refused by 26

abbrev plain : Asked
plain = asked 2 (38 ∷ 101 ∷ 59 ∷ [])

abbrev odd : Asked
odd = asked 2 (97 ∷ 38 ∷ 35 ∷ 49 ∷ 59 ∷ [])

plain_normalizes : normalize_by true plain (7 ∷ 7 ∷ []) ≡ called 0 (1 ∷ 1 ∷ []) ((120 ∷ 7 ∷ []) ∷ [])
unfolding normalize_attribute_value_strict_call length_check settings_check utf8_check utf8_end table_check finished normalize reading_by reading_of
plain_normalizes = refl

odd_normalizes : normalize_by true odd (7 ∷ 7 ∷ []) ≡ called 0 (2 ∷ 0 ∷ []) ((97 ∷ 1 ∷ []) ∷ [])
unfolding normalize_attribute_value_strict_call length_check settings_check utf8_check utf8_end table_check finished normalize reading_by reading_of
odd_normalizes = refl

abbrev plain_answered : StrictlyAnswered plain
plain_answered = k8_completes plain (7 ∷ 7 ∷ []) plain_normalizes

abbrev odd_answered : StrictlyAnswered odd
odd_answered = k8_completes odd (7 ∷ 7 ∷ []) odd_normalizes

-- asked again, with the same table: it defines none of the four names
again : CallAgain plain (answered plain plain_answered) (asked 2 (120 ∷ []))
unfolding canonical check_table_call table_check declarations k8_completes
again =
    record {
      form = refl;
      size = omega arith;
      version = refl;
      known = refl;
      shallow = omega arith;
      deep = omega arith;
      most = omega arith;
      declared = 1;
      table = refl;
      free = record { lt = ((λ e. one e), tt); gt = ((λ e. one e), tt); apos = ((λ e. one e), tt); quot = ((λ e. one e), tt) };
    }
  where
    one : {b c : ℕ} {bs : List ℕ} → 101 ∷ [] ≡ b ∷ c ∷ bs → ⊥
    one {b} {c} {bs} e = let q : length {A = ℕ} (101 ∷ []) ≡ length (b ∷ c ∷ bs) = ap length e in omega (arith, q)

again_26 : CallAgain odd (answered odd odd_answered) (asked 2 (97 ∷ 1 ∷ []))
unfolding canonical check_table_call table_check declarations k8_completes
again_26 =
    record {
      form = refl;
      size = omega arith;
      version = refl;
      known = refl;
      shallow = omega arith;
      deep = omega arith;
      most = omega arith;
      declared = 1;
      table = refl;
      free = record { lt = ((λ e. one e), tt); gt = ((λ e. one e), tt); apos = ((λ e. one e), tt); quot = ((λ e. one e), tt) };
    }
  where
    one : {b c : ℕ} {bs : List ℕ} → 101 ∷ [] ≡ b ∷ c ∷ bs → ⊥
    one {b} {c} {bs} e = let q : length {A = ℕ} (101 ∷ []) ≡ length (b ∷ c ∷ bs) = ap length e in omega (arith, q)

again_met : StrictCallRereads (120 ∷ []) (asked 2 (120 ∷ []))
unfolding restricted_from k8_completes
again_met = k8_again_calls plain plain_answered (asked 2 (120 ∷ [])) again refl

again_26_met : StrictCallRefuses (asked 2 (97 ∷ 1 ∷ [])) 1
unfolding restricted_from
again_26_met = k8_again_26_calls odd odd_answered (asked 2 (97 ∷ 1 ∷ [])) again_26 refl 1 refl

-- ---- the standard

-- no text of the table, and none of the five, has a reference
texts_steady : (name : List ℕ) → SteadyBound false xml10 (binding value.list value.pool name)
unfolding binding declarations predefined_of steady_refs decode
texts_steady name =
    let P = SteadyBound false xml10 in
    pick_both P (same_bytes (101 ∷ []) name) {a = text (120 ∷ [])} {b = predefined_of name} refl
    (pick_both P (same_bytes name (108 ∷ 116 ∷ [])) {a = predefined (60 ∷ [])} {b = gt} refl
    (pick_both P (same_bytes name (103 ∷ 116 ∷ [])) {a = predefined (62 ∷ [])} {b = amp} refl
    (pick_both P (same_bytes name (97 ∷ 109 ∷ 112 ∷ [])) {a = predefined (38 ∷ [])} {b = apos} refl
    (pick_both P (same_bytes name (97 ∷ 112 ∷ 111 ∷ 115 ∷ [])) {a = predefined (39 ∷ [])} {b = quot} refl
    (pick_both P (same_bytes name (113 ∷ 117 ∷ 111 ∷ 116 ∷ [])) {a = predefined (34 ∷ [])} {b = unknown} refl tt)))))
  where
    quot : Bound
    quot = pick (same_bytes name (113 ∷ 117 ∷ 111 ∷ 116 ∷ [])) (predefined (34 ∷ [])) unknown

    apos : Bound
    apos = pick (same_bytes name (97 ∷ 112 ∷ 111 ∷ 115 ∷ [])) (predefined (39 ∷ [])) quot

    amp : Bound
    amp = pick (same_bytes name (97 ∷ 109 ∷ 112 ∷ [])) (predefined (38 ∷ [])) apos

    gt : Bound
    gt = pick (same_bytes name (103 ∷ 116 ∷ [])) (predefined (62 ∷ [])) amp

value_steady : SteadyAsked value
unfolding steady_refs decode marked binding
value_steady = record { value = refl; texts = texts_steady }

other_steady : SteadyAsked other
unfolding steady_refs decode marked binding
other_steady = record { value = refl; texts = texts_steady }

-- `x` with fuel 1, whatever the depth of the call; `&q;` is refused, and has no value with any fuel
value_gives : (strict : Bool) → Gives strict value (120 ∷ [])
unfolding standard decode line_ends_of lookup_of lines_of binding
value_gives false = record { fuel = 1; defined = refl }
value_gives true = record { fuel = 1; defined = refl }

standard_met_so : (strict : Bool)
    → GaveStandard strict value (120 ∷ []) × GivesNone strict other × AnswersStandard strict (120 ∷ []) [] (normalize_by strict value [])
standard_met_so strict = (
  standard_answered strict value value_steady (7 ∷ 7 ∷ []) (normalizes strict),
  standard_refused strict other other_steady (7 ∷ 7 ∷ []) (refuses strict) refl,
  standard_met strict value value_steady [] (120 ∷ []) (value_gives strict),
)

-- ---- K4: the table with a mark before it, refused with one behind its definition, and, cut short, refused one byte later

abbrev definition : List ℕ
definition = 1 ∷ 0 ∷ 0 ∷ 0 ∷ 0 ∷ 1 ∷ 1 ∷ 0 ∷ 0 ∷ 0 ∷ 1 ∷ 0 ∷ []

table_checked : (check_table_call (definition ++ 0 ∷ []) (101 ∷ 120 ∷ []) ≡ called 0 (1 ∷ 0 ∷ []) []) × (check_table_call definition (101 ∷ 120 ∷ []) ≡ called 7 (12 ∷ 0 ∷ []) [])
unfolding check_table_call table_check
table_checked = (refl, refl)

k4_table_met :
    (check_table_call (3 ∷ definition ++ 0 ∷ []) (101 ∷ 120 ∷ []) ≡ called 0 (1 ∷ 0 ∷ []) [])
    × (check_table_call (3 ∷ definition) (101 ∷ 120 ∷ []) ≡ called 7 (13 ∷ 0 ∷ []) [])
    × (check_table_call (definition ++ 3 ∷ 0 ∷ []) (101 ∷ 120 ∷ []) ≡ called 7 (12 ∷ 0 ∷ []) [])
    × ((t out : List ℕ) → unescape_call t (3 ∷ definition ++ 0 ∷ []) (101 ∷ 120 ∷ []) out ≡ unescape_call t (definition ++ 0 ∷ []) (101 ∷ 120 ∷ []) out)
unfolding marked
k4_table_met = (
  k4_accepted (definition ++ 0 ∷ []) (101 ∷ 120 ∷ []) refl (omega arith) table_checked.0,
  k4_refused definition (101 ∷ 120 ∷ []) refl (omega arith) table_checked.1 (λ z. omega (arith, z)) (λ z. omega (arith, z)),
  k4_middle 1 (0 ∷ 0 ∷ 0 ∷ 0 ∷ 1 ∷ 1 ∷ 0 ∷ 0 ∷ 0 ∷ 1 ∷ 0 ∷ []) (0 ∷ []) (101 ∷ 120 ∷ []) (omega arith) table_checked.0,
  k4_unescape (definition ++ 0 ∷ []) (101 ∷ 120 ∷ []) refl (omega arith) table_checked.0,
)

-- ---- K10: a buffer of two bytes has no room for an entry, and none to withdraw from

two_bytes : Small (1 ∷ 2 ∷ [])
two_bytes zero = omega arith
two_bytes (suc zero) = omega arith
two_bytes (suc (suc k)) = omega arith

k10_met : (number_of (register_add_call (97 ∷ []) (1 ∷ 2 ∷ []) 0) ≡ 30) × (number_of (register_withdraw_call (97 ∷ []) (1 ∷ 2 ∷ []) 0) ≡ 29)
unfolding count_call register count_in length_check utf8_check utf8_end
k10_met = ((k10_30 (97 ∷ []) (1 ∷ 2 ∷ []) 0 two_bytes).1 (no_room refl (omega arith)), (k10_29 (97 ∷ []) (1 ∷ 2 ∷ []) 0).1 refl)
