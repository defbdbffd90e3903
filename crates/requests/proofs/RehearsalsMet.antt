-- The premises of K11's theorems are met: by a job of four values with a table of one definition, and by a span whose end would wrap, by
-- computation. Assumes nothing.
use mathlib.Core.Path.{◌≡◌, refl, sym, ap, ◌∙◌}
use mathlib.Core.Logic.{◌≢◌}
use mathlib.Core.List.{List, [], ◌∷◌}
use Prim.Native.Nat.{ℕ, ◌<◌}
use native.Mathlib.Omega.{arith}
use lib.ListN.{replicate, length-replicate}
use Rattle.text.specs.Call.{Called, called, length_check, version_check, utf8_check}
use Rattle.text.specs.Utf8.{utf8_end, well_formed}
use Rattle.entity.specs.Table.{part, declarations, table_check}
use Rattle.tokens.specs.Outcome.{finished}
use Rattle.attribute.specs.Checks.{settings_check}
use Rattle.attribute.specs.Walk.{normalize, reading_of}
use Rattle.walk_rehearsal.specs.declared.Span.{Span}
use Rattle.walk_rehearsal.specs.Rehearsal.{inside, spans_check, verdict, verdict_of, counted, counted_over, report}
use Rattle.govlezna.specs.Calls.{normalize_attribute_value_call, rehearse_call}
use Rattle.demands.specs.Demands.{Asked}
use Rattle.demands.specs.CallDemands.{normalize_of}
use Rattle.requests.specs.Rehearsals.{Rehearsed, rehearse_of, own_call, number_of, WithRoom, Reports, Accepts, of_arguments, FirstLeaves, Answers31}
use Rattle.requests.proofs.Rehearsals.{k11_report, k11_accepts, k11_many, k11_leaves, k11_31_only, k11_arguments, k11_arguments_only}

-- e = `xy`
abbrev list : List ℕ
list = 1 ∷ 0 ∷ 0 ∷ 0 ∷ 0 ∷ 1 ∷ 1 ∷ 0 ∷ 0 ∷ 0 ∷ 2 ∷ 0 ∷ 0 ∷ []

abbrev pool : List ℕ
pool = 101 ∷ 120 ∷ 121 ∷ []

-- `a&e;&q;é`
abbrev asked : ℕ → Asked
asked version =
    record { version = version; text = 97 ∷ 38 ∷ 101 ∷ 59 ∷ 38 ∷ 113 ∷ 59 ∷ 195 ∷ 169 ∷ []; list = list; pool = pool; depth = 1; limit = 1 }

abbrev at : ℕ → ℕ → Span
at start size = record { start = start; length = size }

-- `a&e;`; `&q;`; the first byte of `é`; nothing, at the end
abbrev job : Rehearsed
job = record { whole = asked 0; spans = at 0 4 ∷ at 4 3 ∷ at 7 1 ∷ at 9 0 ∷ [] }

-- two accepted, with three bytes together; one by 5 and one by 11
abbrev counts : List ℕ
counts =
    2 ∷ 0 ∷ 0 ∷ 0 ∷ 0 ∷ 1 ∷ 0 ∷ 0 ∷ 0 ∷ 0 ∷ 0 ∷ 1 ∷ 0 ∷ 0 ∷ 0 ∷ 0 ∷ 0 ∷ 0 ∷ 0 ∷ 0 ∷ 0 ∷ 0 ∷ 0 ∷ 0 ∷ 0 ∷ 0 ∷ 0 ∷ 0 ∷ 3 ∷ []

answered : rehearse_of job [] ≡ called 0 (0 ∷ 0 ∷ []) (counts ∷ [])
unfolding rehearse_call length_check settings_check version_check utf8_check utf8_end table_check declarations spans_check inside report counted_over counted verdict_of verdict well_formed normalize reading_of
answered = refl

-- three bytes are room for each
abbrev out : Span → List ℕ
out s = 7 ∷ 7 ∷ 7 ∷ []

not_19 : {c : Called} (number : ℕ) {words : List ℕ} {left : List (List ℕ)} → c ≡ called number words left → (number ≡ 19 → ⊥) → number_of c ≢ 19
not_19 number e n q = n (sym (ap number_of e) ∙ q)

own_0 : own_call job out (at 0 4) ≡ called 0 (3 ∷ 1 ∷ []) ((97 ∷ 120 ∷ 121 ∷ []) ∷ [])
unfolding normalize_attribute_value_call length_check settings_check version_check utf8_check utf8_end table_check declarations finished normalize reading_of part
own_0 = refl

own_1 : own_call job out (at 4 3) ≡ called 11 (1 ∷ 2 ∷ []) ((7 ∷ 7 ∷ 7 ∷ []) ∷ [])
unfolding normalize_attribute_value_call length_check settings_check version_check utf8_check utf8_end table_check declarations finished normalize reading_of part
own_1 = refl

own_2 : own_call job out (at 7 1) ≡ called 5 (0 ∷ 0 ∷ []) ((7 ∷ 7 ∷ 7 ∷ []) ∷ [])
unfolding normalize_attribute_value_call length_check settings_check version_check utf8_check utf8_end table_check declarations finished normalize reading_of part
own_2 = refl

own_3 : own_call job out (at 9 0) ≡ called 0 (0 ∷ 0 ∷ []) ((7 ∷ 7 ∷ 7 ∷ []) ∷ [])
unfolding normalize_attribute_value_call length_check settings_check version_check utf8_check utf8_end table_check declarations finished normalize reading_of part
own_3 = refl

room : WithRoom job out
room = (
  not_19 0 own_0 (λ e. omega (arith, e)),
  (not_19 11 own_1 (λ e. omega (arith, e)), (not_19 5 own_2 (λ e. omega (arith, e)), (not_19 0 own_3 (λ e. omega (arith, e)), tt))),
)

report_met : Reports job out (0 ∷ 0 ∷ []) (counts ∷ [])
report_met = k11_report job [] answered out room

-- normalization of the whole text is refused by 11, which is none of 1 to 9
whole : normalize_of (asked 0) [] ≡ called 11 (5 ∷ 6 ∷ []) ([] ∷ [])
unfolding normalize_attribute_value_call length_check settings_check version_check utf8_check utf8_end table_check declarations finished normalize reading_of
whole = refl

accepts_met : Accepts job []
accepts_met = k11_accepts job [] [] (ap (λ (c : Called). of_arguments (number_of c)) whole) (omega arith) (omega arith, (omega arith, (omega arith, (omega arith, tt))))

-- the end of the second span wraps: in 64 bits it would be 4
abbrev wrapping : Rehearsed
wrapping = record { whole = asked 0; spans = at 0 4 ∷ at 5 18446744073709551615 ∷ at 9 1 ∷ [] }

second_leaves : FirstLeaves wrapping 1
second_leaves =
    record {
      before = at 0 4 ∷ [];
      span = at 5 18446744073709551615;
      after = at 9 1 ∷ [];
      splits = refl;
      place = refl;
      stay = (omega arith, tt);
      leaves = omega arith;
    }

leaves_met : rehearse_of wrapping (8 ∷ []) ≡ called 31 (1 ∷ 0 ∷ []) ((8 ∷ []) ∷ [])
leaves_met = k11_leaves wrapping (8 ∷ []) [] (ap (λ (c : Called). of_arguments (number_of c)) whole) (omega arith) 1 second_leaves

only_met : Answers31 wrapping (1 ∷ 0 ∷ [])
only_met = k11_31_only wrapping (8 ∷ []) leaves_met

-- version 3: 4, before 31
unknown : normalize_of (asked 3) [] ≡ called 4 (0 ∷ 0 ∷ []) ([] ∷ [])
unfolding normalize_attribute_value_call length_check settings_check version_check utf8_check utf8_end table_check declarations finished normalize reading_of
unknown = refl

arguments_met : rehearse_of (record { whole = asked 3; spans = wrapping.spans }) (8 ∷ []) ≡ called 4 (0 ∷ 0 ∷ []) ((8 ∷ []) ∷ [])
arguments_met = k11_arguments (record { whole = asked 3; spans = wrapping.spans }) (8 ∷ []) [] unknown refl

arguments_only_met : normalize_of (asked 3) (7 ∷ []) ≡ called 4 (0 ∷ 0 ∷ []) ((7 ∷ []) ∷ [])
arguments_only_met =
    k11_arguments_only (record { whole = asked 3; spans = wrapping.spans }) (8 ∷ []) arguments_met (λ e. omega (arith, e)) (λ e. omega (arith, e)) (7 ∷ [])

-- any number of empty spans over 65,536
abbrev many : ℕ → Rehearsed
many n = record { whole = asked 0; spans = replicate n (at 0 0) }

many_met : (n : ℕ) → 65536 < n → rehearse_of (many n) (8 ∷ []) ≡ called 31 (65536 ∷ 0 ∷ []) ((8 ∷ []) ∷ [])
many_met n h =
    let size = length-replicate n (at 0 0) in
    k11_many (many n) (8 ∷ []) [] (ap (λ (c : Called). of_arguments (number_of c)) whole) (omega (arith, size, h))
