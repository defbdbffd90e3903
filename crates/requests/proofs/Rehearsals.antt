-- K11, of the calls. A call that answers 0 leaves the report of the values' own calls (`k11_report`); it answers 0 where normalization of the text
-- passes its arguments and no span leaves (`k11_accepts`); 31 exactly where there are too many or one leaves (`k11_many`, `k11_leaves`,
-- `k11_31_only`), and 1 to 9 as normalization of the text does (`k11_arguments`, `k11_arguments_only`). Assumes nothing.
use mathlib.Core.Path.{◌≡◌, refl, sym, ap, subst, ◌∙◌}
use mathlib.Core.Logic.{◌≢◌}
use mathlib.Core.Bool.{Bool, true, false, true≢false}
use mathlib.Core.List.{List, [], ◌∷◌, ◌++◌}
use Prim.Native.Nat.{ℕ, zero, suc, ◌+◌, ◌≤◌, ◌<◌}
use native.Mathlib.Omega.{arith}
use lib.Dec.{eqb, ltb}
use lib.ListN.{length, take, drop}
use borrow.Author.Tests.{lt-ltb, le-ltb, ltb-true, ltb-false, ne_eqb, eqb-true}
use Rattle.text.specs.Bytes.{pick}
use Rattle.text.specs.Utf8.{well_formed, utf8_end}
use Rattle.text.specs.Call.{Called, called, passed, and_then, guarded, laid, finish, length_check, utf8_check, argument_check}
use Rattle.text.specs.Version.{rule_of}
use Rattle.text.specs.Answers.{Answer}
use Rattle.text.specs.Answers.{Done, Refused}
use Rattle.text.proofs.Bytes.{pick_both}
use Rattle.text.proofs.Call.{checked_length}
use Rattle.text.proofs.Longest.{end_whole}
use Rattle.text.proofs.Utf8.{tested, testable}
use Rattle.entity.specs.Table.{part, table_check}
use Rattle.tokens.specs.Outcome.{Outcome, done, refused, finished}
use Rattle.attribute.specs.Checks.{settings_check}
use Rattle.attribute.specs.Walk.{Settings, normalize, reading_of}
use Rattle.walk_rehearsal.specs.declared.Span.{Span}
use Rattle.walk_rehearsal.specs.Rehearsal.{Verdict}
use Rattle.walk_rehearsal.specs.Rehearsal.{Accepted, Fallen}
use Rattle.walk_rehearsal.specs.Rehearsal.{inside, spans_check, verdict, verdict_of, bytes_of, report}
use Rattle.walk_rehearsal.specs.Counts.{share, summed}
use Rattle.walk_rehearsal.proofs.WalkNumbers.{Numbered, normalize_numbered}
use Rattle.walk_rehearsal.proofs.Reports.{report_word, report_counts, report_length}
use Rattle.govlezna.specs.Calls.{walk_check, normalize_attribute_value_call, rehearse_call}
use Rattle.demands.specs.Demands.{Asked}
use Rattle.demands.specs.CallDemands.{normalize_of}
use Rattle.demands.proofs.Numbers.{By, by_then, by_length, by_utf8, by_settings, by_table, finished_done}
use Rattle.demands.proofs.CallDemands.{length_passes, utf8_passes}
use Rattle.requests.specs.Rehearsals.{Rehearsed, rehearse_of, value_at, own_call, number_of, is_answered_by, length_if_accepted, EachSpan, WithRoom, ReportOf, Reports}
use Rattle.requests.specs.Rehearsals.{Accepts, of_arguments, Stays, FirstLeaves, Answers31, too_many, leaving}

-- ---- the checks

-- a check that passes
record Passes (a : Answer) : Type 0 where
  first : ℕ
  second : ℕ
  is : a ≡ Done first second

both : (a b : Answer) → Passes (and_then a b) → Passes a × Passes b
both (Done x y) b p = (record { first = x; second = y; is = refl }, p)
both (Refused number x y) b p = let e = p.is in let z : ◌≡◌ {A = ℕ} 0 1 = cc in absurd (omega (arith, z))

abbrev check_of : Asked → Answer
check_of a = walk_check a.text a.version a.depth a.limit a.list a.pool

abbrev settings : Asked → Settings
settings a = reading_of (rule_of a.version) a.list a.pool a.limit

check_by : (a : Asked) → By (λ (n : ℕ). of_arguments n ≡ true) (check_of a)
check_by a =
    let P : ℕ → Type 0 = λ (n : ℕ). of_arguments n ≡ true in
    let set = settings_check a.version a.depth a.limit in
    by_then P (argument_check a.text set) (table_check a.list a.pool)
    (by_then P (length_check a.text) (and_then set (utf8_check a.text)) (by_length P refl a.text)
    (by_then P set (utf8_check a.text) (by_settings P refl refl refl a.version a.depth a.limit) (by_utf8 P refl a.text)))
    (by_table P (record { six = refl; seven = refl; eight = refl; nine = refl }) a.list a.pool)

-- what the walk refuses by is none of these
walked_by_lem : (o : Outcome) (out : List ℕ) → Numbered o → of_arguments (number_of (finished o out)) ≡ false
unfolding finished finish
walked_by_lem (done value openings) out h = subst (λ (c : Called). of_arguments (number_of c) ≡ false) (sym (finished_done value openings out)) (go (ltb (length out) (length value)))
  where
    go : (b : Bool) → of_arguments (number_of (pick b (called 19 (length value ∷ 0 ∷ []) (out ∷ [])) (called 0 (length value ∷ openings ∷ []) (laid value out ∷ [])))) ≡ false
    go true = refl
    go false = refl
walked_by_lem (refused before openings why first second) out h =
    let many = le-ltb why 10 h.from in
    let some = lt-ltb 0 why (omega (arith, h.from)) in
    rw (some, many)

-- where normalization is refused by none of 1 to 9, its checks pass
passes_by : (a : Asked) (out : List ℕ) → of_arguments (number_of (normalize_of a out)) ≡ false → Passes (check_of a)
unfolding normalize_attribute_value_call
passes_by a out e = go (check_of a) refl (check_by a) e
  where
    go : (x : Answer) → check_of a ≡ x → By (λ (n : ℕ). of_arguments n ≡ true) x
        → of_arguments (number_of (guarded x (out ∷ []) (finished (normalize (settings a) a.depth a.text) out))) ≡ false → Passes (check_of a)
    go (Done x y) q h k = record { first = x; second = y; is = q }
    go (Refused number x y) q h k = absurd (true≢false (sym h ∙ k))

-- ---- one value

-- a verdict says what its own call answers
record Agrees (v : Verdict) (c : Called) : Type 0 where
  number : (n : ℕ) → n ≤ 27 → share n v ≡ is_answered_by n c
  length : share 28 v ≡ length_if_accepted c

agrees_fallen : (why : ℕ) (words : List ℕ) (left : List (List ℕ)) → 1 ≤ why → why ≤ 27 → Agrees (Fallen why) (called why words left)
agrees_fallen why words left h k =
    record { number = λ n l. refl; length = rw (ne_eqb 28 why (λ e. omega (arith, e, k)), ne_eqb 0 why (λ e. omega (arith, e, h))) }

agrees_accepted : (size openings : ℕ) (left : List (List ℕ)) → Agrees (Accepted size) (called 0 (size ∷ openings ∷ []) left)
agrees_accepted size openings left = let same : 0 + size ≡ size = omega arith in record { number = λ n l. go n l (pick (eqb n 0) 1 0); length = same }
  where
    go : (n : ℕ) → n ≤ 27 → (x : ℕ) → x + pick (eqb n 28) size 0 ≡ x
    go n l x = rw (ne_eqb n 28 (λ e. omega (arith, e, l))) (omega arith)

agrees_walked : (o : Outcome) (out : List ℕ) → Numbered o → number_of (finished o out) ≢ 19 → Agrees (verdict o) (finished o out)
unfolding verdict finished finish
agrees_walked (done value openings) out h room =
    subst (Agrees (Accepted (length value))) (sym (finished_done value openings out))
    (go (ltb (length out) (length value)) (λ e. room (ap number_of (finished_done value openings out) ∙ e)))
  where
    go : (b : Bool) → (number_of (pick b (called 19 (length value ∷ 0 ∷ []) (out ∷ [])) (called 0 (length value ∷ openings ∷ []) (laid value out ∷ []))) ≡ 19 → ⊥)
        → Agrees (Accepted (length value)) (pick b (called 19 (length value ∷ 0 ∷ []) (out ∷ [])) (called 0 (length value ∷ openings ∷ []) (laid value out ∷ [])))
    go true n = absurd (n refl)
    go false n = agrees_accepted (length value) openings (laid value out ∷ [])
agrees_walked (refused before openings why first second) out h room =
    agrees_fallen why (first ∷ second ∷ []) (out ∷ []) (omega (arith, h.from)) h.upto

-- a part is no longer than the whole
take_most : (n : ℕ) (l : List ℕ) → length (take n l) ≤ length l
take_most zero l = omega arith
take_most (suc n) [] = omega arith
take_most (suc n) (b ∷ bs) = omega (arith, take_most n bs)

drop_most : (n : ℕ) (l : List ℕ) → length (drop n l) ≤ length l
drop_most zero l = omega arith
drop_most (suc n) [] = omega arith
drop_most (suc n) (b ∷ bs) = omega (arith, drop_most n bs)

bytes_most : (text : List ℕ) (s : Span) → length (bytes_of text s) ≤ length text
unfolding part
bytes_most text s = omega (arith, take_most s.length (drop s.start text), drop_most s.start text)

not_utf8 : (t : List ℕ) → well_formed t ≡ false → utf8_check t ≡ Refused 5 (utf8_end t) 0
unfolding utf8_check
not_utf8 t e = go (eqb (utf8_end t) (length t)) refl
  where
    go : (b : Bool) → eqb (utf8_end t) (length t) ≡ b → pick b passed (Refused 5 (utf8_end t) 0) ≡ Refused 5 (utf8_end t) 0
    go true q = absurd (true≢false (sym (testable t (end_whole t (eqb-true (utf8_end t) (length t) q))) ∙ e))
    go false q = refl

module _ (j : Rehearsed) (ok : Passes (check_of j.whole)) where
  abbrev set : Answer
  set = settings_check j.whole.version j.whole.depth j.whole.limit

  parts : Passes (argument_check j.whole.text set) × Passes (table_check j.whole.list j.whole.pool)
  parts = both (argument_check j.whole.text set) (table_check j.whole.list j.whole.pool) ok

  set_passes : Passes set
  set_passes = (both set (utf8_check j.whole.text) (both (length_check j.whole.text) (and_then set (utf8_check j.whole.text)) parts.0).1).0

  short : (s : Span) → length (bytes_of j.whole.text s) ≤ 16777216
  short s =
      let whole = checked_length j.whole.text (and_then set (utf8_check j.whole.text)) parts.0.is in
      omega (arith, whole, bytes_most j.whole.text s)

  -- the checks of a value by itself: only its UTF-8 is new
  value_check : (s : Span) (u : Answer) → utf8_check (bytes_of j.whole.text s) ≡ u → check_of (value_at j s) ≡ and_then u (table_check j.whole.list j.whole.pool)
  value_check s u e = rw (length_passes (bytes_of j.whole.text s) (short s), set_passes.is, e)

  own_agrees : (out : Span → List ℕ) (s : Span) → number_of (own_call j out s) ≢ 19
      → Agrees (verdict_of (settings j.whole) j.whole.depth (bytes_of j.whole.text s)) (own_call j out s)
  unfolding verdict_of normalize_attribute_value_call
  own_agrees out s room = go (well_formed (bytes_of j.whole.text s)) refl room
    where
      t : List ℕ
      t = bytes_of j.whole.text s

      o : Outcome
      o = normalize (settings j.whole) j.whole.depth t

      rest : Called
      rest = finished o (out s)

      good : well_formed t ≡ true → check_of (value_at j s) ≡ Done parts.1.first parts.1.second
      good e = value_check s passed (utf8_passes t (tested t e)) ∙ parts.1.is

      bad : well_formed t ≡ false → check_of (value_at j s) ≡ Refused 5 (utf8_end t) 0
      bad e = value_check s (Refused 5 (utf8_end t) 0) (not_utf8 t e)

      go : (b : Bool) → well_formed t ≡ b → number_of (guarded (check_of (value_at j s)) (out s ∷ []) rest) ≢ 19
          → Agrees (pick b (verdict o) (Fallen 5)) (guarded (check_of (value_at j s)) (out s ∷ []) rest)
      go true e n =
          let is : guarded (check_of (value_at j s)) (out s ∷ []) rest ≡ rest = ap (λ (x : Answer). guarded x (out s ∷ []) rest) (good e) in
          subst (Agrees (verdict o)) (sym is)
          (agrees_walked o (out s) (normalize_numbered (settings j.whole) j.whole.depth t) (λ w. n (ap number_of is ∙ w)))
      go false e n =
          let is : guarded (check_of (value_at j s)) (out s ∷ []) rest ≡ called 5 (utf8_end t ∷ 0 ∷ []) (out s ∷ []) =
          ap (λ (x : Answer). guarded x (out s ∷ []) rest) (bad e) in
          subst (Agrees (Fallen 5)) (sym is) (agrees_fallen 5 (utf8_end t ∷ 0 ∷ []) (out s ∷ []) (omega arith) (omega arith))

  -- over all spans
  summed_same : (out : Span → List ℕ) (f g : Span → ℕ) → ((s : Span) → number_of (own_call j out s) ≢ 19 → f s ≡ g s) → (ss : List Span)
      → EachSpan (λ s. number_of (own_call j out s) ≢ 19) ss → summed f ss ≡ summed g ss
  summed_same out f g h [] r = refl
  summed_same out f g h (s ∷ ss) r = omega (arith, h s r.0, summed_same out f g h ss r.1)

  report_of_lem : (out : Span → List ℕ) → WithRoom j out → ReportOf j out (report (settings j.whole) j.whole.depth j.whole.text j.spans)
  report_of_lem out room =
      let s = settings j.whole in
      let read : Span → Verdict = λ (x : Span). verdict_of s j.whole.depth (bytes_of j.whole.text x) in
      record {
        size = report_length s j.whole.depth j.whole.text j.spans;
        number = λ n l.
            report_word s j.whole.depth j.whole.text j.spans n
            ∙ summed_same out (λ x. share n (read x)) (λ x. is_answered_by n (own_call j out x)) (λ x r. (own_agrees out x r).number n l) j.spans room;
        total =
            report_word s j.whole.depth j.whole.text j.spans 28
            ∙ summed_same out (λ x. share 28 (read x)) (λ x. length_if_accepted (own_call j out x)) (λ x r. (own_agrees out x r).length) j.spans room;
        together = report_counts s j.whole.depth j.whole.text j.spans;
      }

-- ---- the call, after its checks

abbrev spans_of : Rehearsed → Answer
spans_of j = spans_check (length j.whole.text) j.spans

abbrev report_of : Rehearsed → List ℕ
report_of j = report (settings j.whole) j.whole.depth j.whole.text j.spans

-- where the checks of the arguments pass, the spans decide
call_is : (j : Rehearsed) (lent : List ℕ) (x : Answer) → check_of j.whole ≡ x
    → rehearse_of j lent ≡ guarded (and_then x (spans_of j)) (lent ∷ []) (called 0 (0 ∷ 0 ∷ []) (report_of j ∷ []))
unfolding rehearse_call
call_is j lent x e = ap (λ (y : Answer). guarded (and_then y (spans_of j)) (lent ∷ []) (called 0 (0 ∷ 0 ∷ []) (report_of j ∷ []))) e

spans_call : (j : Rehearsed) (lent : List ℕ) → Passes (check_of j.whole) → (x : Answer) → spans_of j ≡ x
    → rehearse_of j lent ≡ guarded x (lent ∷ []) (called 0 (0 ∷ 0 ∷ []) (report_of j ∷ []))
spans_call j lent ok x e =
    call_is j lent (Done ok.first ok.second) ok.is ∙ ap (λ (y : Answer). guarded y (lent ∷ []) (called 0 (0 ∷ 0 ∷ []) (report_of j ∷ []))) e

-- ---- the spans

inside_all : (size : ℕ) (ss : List Span) → EachSpan (λ (s : Span). s.start + s.length ≤ size) ss → inside size ss ≡ length ss
unfolding inside
inside_all size [] h = refl
inside_all size (s ∷ ss) h = rw (le-ltb size (s.start + s.length) h.0) (ap suc (inside_all size ss h.1))

inside_first : (size : ℕ) (before : List Span) (s : Span) (after : List Span) → EachSpan (λ (x : Span). x.start + x.length ≤ size) before → size < s.start + s.length
    → inside size (before ++ s ∷ after) ≡ length before
unfolding inside
inside_first size [] s after h l = rw (lt-ltb size (s.start + s.length) l)
inside_first size (x ∷ before) s after h l = rw (le-ltb size (x.start + x.length) h.0) (ap suc (inside_first size before s after h.1 l))

length_split : (before : List Span) (s : Span) (after : List Span) → length before < length (before ++ s ∷ after)
length_split [] s after = omega arith
length_split (x ∷ before) s after = omega (arith, length_split before s after)

-- the first that leaves, where not all are inside
record Split (size : ℕ) (ss : List Span) : Type 0 where
  before : List Span
  span : Span
  after : List Span
  splits : ss ≡ before ++ span ∷ after
  place : length before ≡ inside size ss
  stay : EachSpan (λ (x : Span). x.start + x.length ≤ size) before
  leaves : size < span.start + span.length

split_at : (size : ℕ) (ss : List Span) → inside size ss < length ss → Split size ss
unfolding inside
split_at size [] h = absurd (omega (arith, h))
split_at size (s ∷ ss) h = go (ltb size (s.start + s.length)) refl h (λ k. split_at size ss k)
  where
    chosen : (b : Bool) → ltb size (s.start + s.length) ≡ b → pick (ltb size (s.start + s.length)) 0 (suc (inside size ss)) ≡ pick b 0 (suc (inside size ss))
    chosen b q = ap (λ (x : Bool). pick x 0 (suc (inside size ss))) q

    go : (b : Bool) → ltb size (s.start + s.length) ≡ b → pick b 0 (suc (inside size ss)) < suc (length ss) → (inside size ss < length ss → Split size ss)
        → Split size (s ∷ ss)
    go true q k rest =
        record { before = []; span = s; after = ss; splits = refl; place = sym (chosen true q); stay = tt; leaves = ltb-true size (s.start + s.length) q }
    go false q k rest =
        let r = rest (omega (arith, k)) in
        record {
          before = s ∷ r.before;
          span = r.span;
          after = r.after;
          splits = ap (λ (l : List Span). s ∷ l) r.splits;
          place = ap suc r.place ∙ sym (chosen false q);
          stay = (ltb-false size (s.start + s.length) q, r.stay);
          leaves = r.leaves;
        }

-- 31 is the only refusal of the spans
spans_by_lem : (size : ℕ) (ss : List Span) → By (λ (n : ℕ). n ≡ 31) (spans_check size ss)
unfolding spans_check
spans_by_lem size ss =
    pick_both (By (λ (n : ℕ). n ≡ 31)) (ltb 65536 (length ss)) {a = Refused 31 65536 0} {b = pick (ltb (inside size ss) (length ss)) (Refused 31 (inside size ss) 0) passed} refl
    (pick_both (By (λ (n : ℕ). n ≡ 31)) (ltb (inside size ss) (length ss)) {a = Refused 31 (inside size ss) 0} {b = passed} refl tt)

spans_fine : (size : ℕ) (ss : List Span) → length ss ≤ 65536 → EachSpan (λ (s : Span). s.start + s.length ≤ size) ss → spans_check size ss ≡ passed
unfolding spans_check
spans_fine size ss few stay =
    let all = inside_all size ss stay in
    rw (le-ltb 65536 (length ss) few, le-ltb (inside size ss) (length ss) (omega (arith, all)))

spans_many : (size : ℕ) (ss : List Span) → 65536 < length ss → spans_check size ss ≡ Refused 31 65536 0
unfolding spans_check
spans_many size ss many = rw (lt-ltb 65536 (length ss) many)

spans_leave : (size : ℕ) (ss : List Span) (index : ℕ) → length ss ≤ 65536 → inside size ss ≡ index → index < length ss → spans_check size ss ≡ Refused 31 index 0
unfolding spans_check
spans_leave size ss index few e l = rw (le-ltb 65536 (length ss) few, e, lt-ltb index (length ss) l)

-- ---- K11

-- what the checks of the arguments come to: they pass, and the spans decide; or they refuse, by one of 1 to 9
data Decided (j : Rehearsed) : Type 0 where
  passing : Passes (check_of j.whole) → Decided j
  refusing : (number first second : ℕ) → check_of j.whole ≡ Refused number first second → of_arguments number ≡ true → Decided j

decided : (j : Rehearsed) → Decided j
decided j = go (check_of j.whole) refl (check_by j.whole)
  where
    go : (x : Answer) → check_of j.whole ≡ x → By (λ (n : ℕ). of_arguments n ≡ true) x → Decided j
    go (Done x y) q h = passing (record { first = x; second = y; is = q })
    go (Refused number x y) q h = refusing number x y q h

-- K11: "The report's counts are those of reading each value by itself, with room; together they make the number of spans": whatever outputs the own
-- calls are lent, as long as none of them is refused by 19.
pub k11_report : (j : Rehearsed) (lent : List ℕ) {words : List ℕ} {left : List (List ℕ)} → rehearse_of j lent ≡ called 0 words left
    → (out : Span → List ℕ) → WithRoom j out → Reports j out words left
k11_report j lent {words} {left} e out room = go (decided j)
  where
    spans : Passes (check_of j.whole) → (x : Answer) → By (λ (n : ℕ). n ≡ 31) x → guarded x (lent ∷ []) (called 0 (0 ∷ 0 ∷ []) (report_of j ∷ [])) ≡ called 0 words left
        → Reports j out words left
    spans ok (Done x y) h k =
        let ws : 0 ∷ 0 ∷ [] ≡ words = cc in
        let ls : report_of j ∷ [] ≡ left = cc in
        record { report = report_of j; zeros = sym ws; leaves = sym ls; is = report_of_lem j ok out room }
    spans ok (Refused number x y) h k = let z : number ≡ 0 = cc in absurd (omega (arith, h, z))

    go : Decided j → Reports j out words left
    go (passing ok) = spans ok (spans_of j) (spans_by_lem (length j.whole.text) j.spans) (sym (spans_call j lent ok (spans_of j) refl) ∙ e)
    go (refusing number x y q h) =
        let k : called number (x ∷ y ∷ []) (lent ∷ []) ≡ called 0 words left = sym (call_is j lent (Refused number x y) q) ∙ e in
        let z : number ≡ 0 = cc in
        absurd (true≢false (sym h ∙ ap of_arguments z))

-- K11: where normalization of the whole text is refused by none of 1 to 9, whatever its output, and at most 65,536 spans all stay inside, there is a
-- report.
pub k11_accepts : (j : Rehearsed) (lent out : List ℕ) → of_arguments (number_of (normalize_of j.whole out)) ≡ false → length j.spans ≤ 65536
    → EachSpan (Stays j) j.spans → Accepts j lent
k11_accepts j lent out e few stay =
    record { report = report_of j; answer = spans_call j lent (passes_by j.whole out e) passed (spans_fine (length j.whole.text) j.spans few stay) }

-- K11: "31, after the table, when there are more than 65,536 spans, with 65,536"
pub k11_many : (j : Rehearsed) (lent out : List ℕ) → of_arguments (number_of (normalize_of j.whole out)) ≡ false → 65536 < length j.spans
    → rehearse_of j lent ≡ called 31 (65536 ∷ 0 ∷ []) (lent ∷ [])
k11_many j lent out e many = spans_call j lent (passes_by j.whole out e) (Refused 31 65536 0) (spans_many (length j.whole.text) j.spans many)

-- K11: "else when one leaves the text, with the first such index"
pub k11_leaves : (j : Rehearsed) (lent out : List ℕ) → of_arguments (number_of (normalize_of j.whole out)) ≡ false → length j.spans ≤ 65536
    → (index : ℕ) → FirstLeaves j index → rehearse_of j lent ≡ called 31 (index ∷ 0 ∷ []) (lent ∷ [])
k11_leaves j lent out e few index f =
    let size = length j.whole.text in
    let at = ap (inside size) f.splits ∙ inside_first size f.before f.span f.after f.stay f.leaves ∙ f.place in
    let less = subst (λ (ss : List Span). length f.before < length ss) (sym f.splits) (length_split f.before f.span f.after) in
    spans_call j lent (passes_by j.whole out e) (Refused 31 index 0) (spans_leave size j.spans index few at (omega (arith, less, f.place)))

-- and 31 is answered for nothing else
pub k11_31_only : (j : Rehearsed) (lent : List ℕ) {words : List ℕ} {left : List (List ℕ)} → rehearse_of j lent ≡ called 31 words left → Answers31 j words
unfolding spans_check
k11_31_only j lent {words} {left} e = go (decided j)
  where
    size : ℕ
    size = length j.whole.text

    there : inside size j.spans < length j.spans → FirstLeaves j (inside size j.spans)
    there l =
        let f = split_at size j.spans l in
        record { before = f.before; span = f.span; after = f.after; splits = f.splits; place = f.place; stay = f.stay; leaves = f.leaves }

    when : (many out : Bool) → ltb 65536 (length j.spans) ≡ many → ltb (inside size j.spans) (length j.spans) ≡ out
        → guarded (pick many (Refused 31 65536 0) (pick out (Refused 31 (inside size j.spans) 0) passed)) (lent ∷ []) (called 0 (0 ∷ 0 ∷ []) (report_of j ∷ []))
        ≡ called 31 words left → Answers31 j words
    when true out p q k =
        let ws : 65536 ∷ 0 ∷ [] ≡ words = cc in
        subst (Answers31 j) ws (too_many (ltb-true 65536 (length j.spans) p))
    when false true p q k =
        let ws : inside size j.spans ∷ 0 ∷ [] ≡ words = cc in
        subst (Answers31 j) ws
        (leaving (inside size j.spans) (ltb-false 65536 (length j.spans) p) (there (ltb-true (inside size j.spans) (length j.spans) q)))
    when false false p q k = let z : ◌≡◌ {A = ℕ} 0 31 = cc in absurd (omega (arith, z))

    go : Decided j → Answers31 j words
    go (passing ok) =
        when (ltb 65536 (length j.spans)) (ltb (inside size j.spans) (length j.spans)) refl refl (sym (spans_call j lent ok (spans_of j) refl) ∙ e)
    go (refusing number x y q h) =
        let k : called number (x ∷ y ∷ []) (lent ∷ []) ≡ called 31 words left = sym (call_is j lent (Refused number x y) q) ∙ e in
        let z : number ≡ 31 = cc in
        absurd (true≢false (sym h ∙ ap of_arguments z))

-- K11: 1 to 9 of text, settings and table come first, and are those of normalization
pub k11_arguments : (j : Rehearsed) (lent out : List ℕ) {number : ℕ} {words : List ℕ} {left : List (List ℕ)} → normalize_of j.whole out ≡ called number words left
    → of_arguments number ≡ true → rehearse_of j lent ≡ called number words (lent ∷ [])
unfolding normalize_attribute_value_call
k11_arguments j lent out {number} {words} {left} e h = go (decided j)
  where
    o : Outcome
    o = normalize (settings j.whole) j.whole.depth j.whole.text

    go : Decided j → rehearse_of j lent ≡ called number words (lent ∷ [])
    go (passing ok) =
        let k : finished o out ≡ called number words left = sym (ap (λ (x : Answer). guarded x (out ∷ []) (finished o out)) ok.is) ∙ e in
        let z = walked_by_lem o out (normalize_numbered (settings j.whole) j.whole.depth j.whole.text) in
        absurd (true≢false (sym h ∙ sym (ap (λ (c : Called). of_arguments (number_of c)) k) ∙ z))
    go (refusing n x y q g) =
        let k : called n (x ∷ y ∷ []) (out ∷ []) ≡ called number words left = sym (ap (λ (a : Answer). guarded a (out ∷ []) (finished o out)) q) ∙ e in
        let is : n ≡ number = cc in
        let ws : x ∷ y ∷ [] ≡ words = cc in
        call_is j lent (Refused n x y) q ∙ ap (λ (m : ℕ). called m (x ∷ y ∷ []) (lent ∷ [])) is ∙ ap (λ (w : List ℕ). called number w (lent ∷ [])) ws

-- and any refusal but 31 is such a one, whatever output normalization is lent
pub k11_arguments_only : (j : Rehearsed) (lent : List ℕ) {number : ℕ} {words : List ℕ} {left : List (List ℕ)} → rehearse_of j lent ≡ called number words left
    → number ≢ 0 → number ≢ 31 → (out : List ℕ) → normalize_of j.whole out ≡ called number words (out ∷ [])
unfolding normalize_attribute_value_call
k11_arguments_only j lent {number} {words} {left} e some other out = go (decided j)
  where
    o : Outcome
    o = normalize (settings j.whole) j.whole.depth j.whole.text

    spans : (x : Answer) → By (λ (n : ℕ). n ≡ 31) x → guarded x (lent ∷ []) (called 0 (0 ∷ 0 ∷ []) (report_of j ∷ [])) ≡ called number words left → ⊥
    spans (Done x y) h k = let z : 0 ≡ number = cc in some (sym z)
    spans (Refused n x y) h k = let z : n ≡ number = cc in other (sym z ∙ h)

    go : Decided j → normalize_of j.whole out ≡ called number words (out ∷ [])
    go (passing ok) = absurd (spans (spans_of j) (spans_by_lem (length j.whole.text) j.spans) (sym (spans_call j lent ok (spans_of j) refl) ∙ e))
    go (refusing n x y q g) =
        let k : called n (x ∷ y ∷ []) (lent ∷ []) ≡ called number words left = sym (call_is j lent (Refused n x y) q) ∙ e in
        let is : n ≡ number = cc in
        let ws : x ∷ y ∷ [] ≡ words = cc in
        ap (λ (a : Answer). guarded a (out ∷ []) (finished o out)) q ∙ ap (λ (m : ℕ). called m (x ∷ y ∷ []) (out ∷ [])) is ∙ ap (λ (w : List ℕ). called number w (out ∷ [])) ws

-- K11: a refusal leaves the report
pub k11_refused_leaves : (j : Rehearsed) (lent : List ℕ) {number : ℕ} {words : List ℕ} {left : List (List ℕ)} → rehearse_of j lent ≡ called number words left
    → number ≢ 0 → left ≡ lent ∷ []
k11_refused_leaves j lent {number} {words} {left} e some = go (decided j)
  where
    spans : (x : Answer) → guarded x (lent ∷ []) (called 0 (0 ∷ 0 ∷ []) (report_of j ∷ [])) ≡ called number words left → left ≡ lent ∷ []
    spans (Done x y) k = let z : 0 ≡ number = cc in absurd (some (sym z))
    spans (Refused n x y) k = let ls : lent ∷ [] ≡ left = cc in sym ls

    go : Decided j → left ≡ lent ∷ []
    go (passing ok) = spans (spans_of j) (sym (spans_call j lent ok (spans_of j) refl) ∙ e)
    go (refusing n x y q g) = spans (Refused n x y) (sym (call_is j lent (Refused n x y) q) ∙ e)
