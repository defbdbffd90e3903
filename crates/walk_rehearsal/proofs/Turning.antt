-- The loop over the spans of a job: what it stands on (`standing`, `count_most`, `begun_within`), a turn (`ready_at`, `turn_within`, `over_turn`), its
-- end (`over_done`), and that this is the report or the refusal (`rehearsed`). Assumes nothing.
use mathlib.Core.Path.{◌≡◌, refl, sym, ap, subst, ◌∙◌}
use mathlib.Core.Bool.{Bool, true, false}
use mathlib.Core.List.{List, [], ◌∷◌}
use Prim.Native.Nat.{ℕ, suc, ◌+◌, ◌-◌, ◌≤◌, ◌<◌}
use native.Mathlib.Omega.{arith}
use native.Mathlib.Numerals.{add-one}
use lib.Dec.{ltb}
use lib.ListN.{length, get_or, take, drop, replicate}
use lib.Seq.{take-length}
use borrow.Author.Tests.{ltb-false}
use Rattle.text.specs.Bytes.{pick}
use Rattle.text.specs.Call.{answered, Called, called, call_of, passed, and_then, guarded, argument_check, length_check, utf8_check}
use Rattle.text.specs.Version.{rule_of}
use Rattle.text.specs.Answers.{Answer, Done, Refused}
use Rattle.text.proofs.Call.{checked_length}
use Rattle.entity.specs.Table.{table_check, ValidTable}
use Rattle.entity.proofs.Tables.{checked_table}
use Rattle.attribute.specs.Checks.{settings_check}
use Rattle.attribute.specs.Walk.{reading_of}
use Rattle.attribute.proofs.Checked.{checked_settings}
use Rattle.walk_rehearsal.specs.declared.Span.{Span}
use Rattle.walk_rehearsal.specs.declared.Job.{Job}
use Rattle.walk_rehearsal.specs.Rehearsal.{inside, spans_by, spans_check, counted_over, report}
use Rattle.walk_rehearsal.specs.Turns.{job_check, Started, started, job_for, cleared_by, Begins, settings_of, Within, Ready, Turn}
use Rattle.walk_rehearsal.proofs.Spans.{no_span, drop_next, stays_inside}
use Rattle.walk_rehearsal.proofs.Reports.{within_start}

-- ---- a turn

-- what the spans from an index on make of the words
abbrev pub over : List ℕ → Job → List ℕ → List ℕ → List Span → ℕ → List ℕ → List ℕ
over text j list pool ys i words = counted_over (settings_of j list pool) j.depth text (take (j.count - i) (drop i ys)) words

take_next : (n i : ℕ) (ys : List Span) → i < n → i < length ys → take (n - i) (drop i ys) ≡ get_or ys i no_span ∷ take (n - (i + 1)) (drop (i + 1) ys)
take_next n i ys l m =
    let q : n - i ≡ suc (n - (i + 1)) = omega (arith, l) in
    ap (λ (k : ℕ). take k (drop i ys)) q ∙ ap (take (suc (n - (i + 1)))) (drop_next ys i m)

module _ (text : List ℕ) (j : Job) (list pool : List ℕ) (ys : List Span) where
  pub over_turn : (i : ℕ) (words after : List ℕ) → i < j.count → i < length ys → Turn text (get_or ys i no_span) j list pool words after
      → over text j list pool ys i words ≡ over text j list pool ys (i + 1) after
  unfolding counted_over
  over_turn i words after l m t =
      ap (λ (zs : List Span). counted_over (settings_of j list pool) j.depth text zs words) (take_next j.count i ys l m)
      ∙ ap (counted_over (settings_of j list pool) j.depth text (take (j.count - (i + 1)) (drop (i + 1) ys))) (sym t.is)

  pub over_done : (i : ℕ) (words : List ℕ) → j.count ≤ i → over text j list pool ys i words ≡ words
  unfolding counted_over
  over_done i words l =
      let q : j.count - i ≡ 0 = omega (arith, l) in
      ap (λ (n : ℕ). counted_over (settings_of j list pool) j.depth text (take n (drop i ys)) words) q

  -- what a job with spans to read has passed
  pub record Standing : Type 0 where
    pub valid : ValidTable list pool
    pub short : length text ≤ 16777216
    pub limited : j.limit ≤ 1000000
    pub few : length ys ≤ 65536
    pub stays : (i : ℕ) → i < length ys → (get_or ys i no_span).start + (get_or ys i no_span).length ≤ length text

  pub ready_at : Standing → (i : ℕ) (words : List ℕ) → i < length ys → Within i words → Ready text (get_or ys i no_span) j list pool words
  ready_at st i words l w = record {
    valid = st.valid;
    short = st.short;
    limited = st.limited;
    stays = st.stays i l;
    turn = i;
    early = omega (arith, l, st.few);
    within = w;
  }

  pub turn_within : (i : ℕ) (words after : List ℕ) → Within i words → Turn text (get_or ys i no_span) j list pool words after → Within (i + 1) after
  turn_within i words after w t = subst (λ (n : ℕ). Within n after) (sym (add-one i)) (t.within i w)

-- ---- the start

-- a check that passes
record Passes (a : Answer) : Type 0 where
  first : ℕ
  second : ℕ
  is : a ≡ Done first second

both : (a b : Answer) → Passes (and_then a b) → Passes a × Passes b
both (Done x y) b p = (record { first = x; second = y; is = refl }, p)
both (Refused number x y) b p = let e = p.is in let z : ◌≡◌ {A = ℕ} 0 1 = cc in absurd (omega (arith, z))

-- only a check that passes leaves spans to read
counts_passed : (a : Answer) (version depth limit count : ℕ) → 0 < (job_for a version depth limit count).count → Passes a
counts_passed (Done x y) version depth limit count h = record { first = x; second = y; is = refl }
counts_passed (Refused number x y) version depth limit count h = absurd (omega (arith, h))

spans_few : (count staying : ℕ) → Passes (spans_by count staying) → (count ≤ 65536) × (count ≤ staying)
spans_few count staying p = go (ltb 65536 count) (ltb staying count) refl refl p.is
  where
    go : (many out : Bool) → ltb 65536 count ≡ many → ltb staying count ≡ out
        → pick many (Refused 31 65536 0) (pick out (Refused 31 staying 0) passed) ≡ Done p.first p.second → (count ≤ 65536) × (count ≤ staying)
    go true out q w e = let z : ◌≡◌ {A = ℕ} 0 1 = cc in absurd (omega (arith, z))
    go false true q w e = let z : ◌≡◌ {A = ℕ} 0 1 = cc in absurd (omega (arith, z))
    go false false q w e = (ltb-false 65536 count q, ltb-false staying count w)

module _ (text : List ℕ) (version depth limit : ℕ) (list pool : List ℕ) (ys : List Span) (staying : ℕ) where
  abbrev checked : Answer
  checked = job_check text version depth limit list pool (length ys) staying

  pub count_most : (j : Job) → started j ≡ job_for checked version depth limit (length ys) → j.count ≤ length ys
  count_most j e = subst (λ (k : Started). k.count ≤ length ys) (sym e) (go checked)
    where
      go : (a : Answer) → (job_for a version depth limit (length ys)).count ≤ length ys
      go (Done x y) = omega arith
      go (Refused number x y) = omega arith

  same_limit : (a : Answer) → (job_for a version depth limit (length ys)).limit ≡ limit
  same_limit (Done x y) = refl
  same_limit (Refused number x y) = refl

  pub standing : (j : Job) → started j ≡ job_for checked version depth limit (length ys) → staying ≡ inside (length text) ys → 0 < j.count → Standing text j list pool ys
  standing j e at h =
      let settings = settings_check version depth limit in
      let passes = counts_passed checked version depth limit (length ys) (subst (λ (k : Started). 0 < k.count) e h) in
      let walk = both (and_then (argument_check text settings) (table_check list pool)) (spans_by (length ys) staying) passes in
      let parts = both (argument_check text settings) (table_check list pool) walk.0 in
      let table = parts.1 in
      let arguments = parts.0 in
      let others = (both (length_check text) (and_then settings (utf8_check text)) arguments).1 in
      let set = (both settings (utf8_check text) others).0 in
      let few = spans_few (length ys) staying walk.1 in
      record {
        valid = checked_table list pool refl table.is;
        short = checked_length text (and_then settings (utf8_check text)) arguments.is;
        limited = subst (λ (n : ℕ). n ≤ 1000000) (sym (ap (λ (k : Started). k.limit) e ∙ same_limit checked)) (checked_settings version depth limit set.is).1;
        few = few.0;
        stays = stays_inside (length text) ys (subst (λ (n : ℕ). length ys ≤ n) at few.1);
      }

  pub begun_within : (j : Job) (words after : List ℕ) → Begins checked version depth limit (length ys) words j after → 0 < j.count → Within 0 after
  begun_within j words after b h =
      let passes = counts_passed checked version depth limit (length ys) (subst (λ (k : Started). 0 < k.count) b.job h) in
      subst (Within 0) (sym (b.cleared ∙ ap (λ (a : Answer). cleared_by a words) passes.is)) within_start

  -- ---- the end

  -- number, words and report are those of the refusal, or 0, 0, 0 and the report of all spans
  pub rehearsed : (j : Job) (words start : List ℕ) → Begins checked version depth limit (length ys) words j start → staying ≡ inside (length text) ys
      → {r : ℕ} {ws : List ℕ} {last : List ℕ} → called r ws (last ∷ []) ≡ call_of (answered j.answer) (last ∷ [])
      → over text j list pool ys 0 start ≡ last
      → called r ws (last ∷ [])
      ≡ guarded (and_then (and_then (argument_check text (settings_check version depth limit)) (table_check list pool)) (spans_check (length text) ys)) (words ∷ [])
      (called 0 (0 ∷ 0 ∷ []) (report (reading_of (rule_of version) list pool limit) depth text ys ∷ []))
  unfolding spans_check report counted_over
  rehearsed j words start b at {r} {ws} {last} put_so el =
      put_so
      ∙ ap (λ (w : List ℕ). call_of (answered j.answer) (w ∷ [])) (sym el)
      ∙ ap (λ (k : Started). call_of k.answer (over_so k start ∷ [])) b.job
      ∙ ap (λ (w : List ℕ). ends_by checked w) b.cleared
      ∙ go checked
      ∙ ap (λ (n : ℕ). finally n) at
    where
      finally : ℕ → Called
      finally n =
          guarded (job_check text version depth limit list pool (length ys) n) (words ∷ [])
          (called 0 (0 ∷ 0 ∷ []) (report (reading_of (rule_of version) list pool limit) depth text ys ∷ []))

      -- what all spans of a job that starts so make of the words
      over_so : Started → List ℕ → List ℕ
      over_so k w = counted_over (reading_of (rule_of k.version) list pool k.limit) k.depth text (take (k.count - 0) (drop 0 ys)) w

      ends_by : Answer → List ℕ → Called
      ends_by a w =
          let k = job_for a version depth limit (length ys) in
          call_of k.answer (over_so k w ∷ [])

      go : (a : Answer) → ends_by a (cleared_by a words)
          ≡ guarded a (words ∷ []) (called 0 (0 ∷ 0 ∷ []) (report (reading_of (rule_of version) list pool limit) depth text ys ∷ []))
      go (Done x y) =
          let all : length ys - 0 ≡ length ys = omega arith in
          ap (λ (zs : List Span). called 0 (0 ∷ 0 ∷ []) (counted_over (reading_of (rule_of version) list pool limit) depth text zs (replicate 29 0) ∷ []))
          (ap (λ (n : ℕ). take n ys) all ∙ take-length ys)
      go (Refused number x y) = refl
