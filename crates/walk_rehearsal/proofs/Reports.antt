-- The report: each word is the sum of what the verdicts add to it (`report_word`), the counts together make the number of spans
-- (`report_counts`), no sum is too great (`counted_within`, `within_start`, `within_small`), and a turn is such a change (`turn_so`).
-- Assumes nothing.
use mathlib.Core.Path.{◌≡◌, refl, sym, ap, subst, ◌∙◌}
use mathlib.Core.Bool.{Bool, true, false}
use mathlib.Core.List.{List, [], ◌∷◌}
use Prim.Native.Nat.{ℕ, zero, suc, ◌+◌, ◌-◌, ◌≤◌, ◌<◌}
use native.Mathlib.Omega.{arith}
use lib.Dec.{eqb, ltb}
use lib.ListN.{length, length-set, get_or, take, drop, replicate, length-replicate}
use lib.Seq.{get_or-set_same, get_or-set_other}
use borrow.Author.Tests.{eqb-true, eqb-false, ltb-true, ltb-false}
use Rattle.text.specs.Bytes.{pick}
use Rattle.text.specs.Utf8.{well_formed}
use Rattle.text.proofs.Bytes.{pick_both}
use Rattle.entity.specs.Table.{part}
use Rattle.tokens.specs.Outcome.{Outcome, done, refused}
use Rattle.attribute.specs.Walk.{Settings, normalize}
use Rattle.walk_rehearsal.specs.declared.Span.{Span}
use Rattle.walk_rehearsal.specs.declared.Job.{Job}
use Rattle.walk_rehearsal.specs.Rehearsal.{Verdict}
use Rattle.walk_rehearsal.specs.Rehearsal.{Accepted, Fallen}
use Rattle.walk_rehearsal.specs.Rehearsal.{bytes_of, verdict, verdict_of, raised, counted, counted_over, report}
use Rattle.walk_rehearsal.specs.Counts.{share, summed, first_words}
use Rattle.walk_rehearsal.specs.Turns.{settings_of, Modest, Within, Reads, Turn}
use Rattle.walk_rehearsal.proofs.WalkNumbers.{Numbered, normalize_numbered}

-- a verdict by one of the numbers that the report counts
abbrev pub Listed : Verdict → Type 0
Listed (Accepted size) = Unit {0}
Listed (Fallen number) = (1 ≤ number) × (number ≤ 27)

modest_listed : (v : Verdict) → Modest v → Listed v
modest_listed (Accepted size) m = tt
modest_listed (Fallen number) m = m

verdict_listed : (s : Settings) (depth : ℕ) (t : List ℕ) → Listed (verdict_of s depth t)
unfolding verdict_of verdict
verdict_listed s depth t = pick_both Listed (well_formed t) {b = Fallen 5} (go (normalize s depth t) (normalize_numbered s depth t)) (omega arith, omega arith)
  where
    go : (o : Outcome) → Numbered o → Listed (verdict o)
    go (done value openings) h = tt
    go (refused before openings why first second) h = (omega (arith, h.from), h.upto)

-- ---- one word more

raised_at : (words : List ℕ) (k n j : ℕ) → k < length words → get_or (raised words k n) j 0 ≡ get_or words j 0 + pick (eqb j k) n 0
raised_at words k n j l = go (eqb j k) refl
  where
    go : (same : Bool) → eqb j k ≡ same → get_or (raised words k n) j 0 ≡ get_or words j 0 + pick same n 0
    go true e = rw (eqb-true j k e) (get_or-set_same words k (get_or words k 0 + n) 0 l)
    go false e = get_or-set_other words k j (get_or words k 0 + n) 0 (eqb-false j k e) ∙ omega arith

raised_length : (words : List ℕ) (k n : ℕ) → length (raised words k n) ≡ length words
raised_length words k n = length-set words k (get_or words k 0 + n)

-- ---- a verdict

pub counted_length : (v : Verdict) (words : List ℕ) → length (counted v words) ≡ length words
unfolding counted
counted_length (Accepted size) words = raised_length (raised words 0 1) 28 size ∙ raised_length words 0 1
counted_length (Fallen number) words = raised_length words number 1

counted_at : (v : Verdict) (words : List ℕ) (j : ℕ) → length words ≡ 29 → Listed v → get_or (counted v words) j 0 ≡ get_or words j 0 + share j v
unfolding counted
counted_at (Accepted size) words j e m =
    raised_at (raised words 0 1) 28 size j (omega (arith, e, raised_length words 0 1))
    ∙ ap (λ (x : ℕ). x + pick (eqb j 28) size 0) (raised_at words 0 1 j (omega (arith, e)))
    ∙ omega arith
counted_at (Fallen number) words j e m = raised_at words number 1 j (omega (arith, e, m.1))

share_small : (j : ℕ) (v : Verdict) → Modest v → share j v ≤ 68719476736
share_small j (Accepted size) m = go (eqb j 0) (eqb j 28) refl refl
  where
    go : (a b : Bool) → eqb j 0 ≡ a → eqb j 28 ≡ b → pick a 1 0 + pick b size 0 ≤ 68719476736
    go true true p q = let x = eqb-true j 0 p in let y = eqb-true j 28 q in absurd (omega (arith, x, y))
    go true false p q = omega arith
    go false true p q = omega (arith, m)
    go false false p q = omega arith
share_small j (Fallen number) m = go (eqb j number)
  where
    go : (a : Bool) → pick a 1 0 ≤ 68719476736
    go true = omega arith
    go false = omega arith

pub counted_within : (v : Verdict) (words : List ℕ) (n : ℕ) → Modest v → Within n words → Within (suc n) (counted v words)
counted_within v words n m w =
    record {
      size = counted_length v words ∙ w.size;
      small = λ j. omega (arith, counted_at v words j w.size (modest_listed v m), share_small j v m, w.small j);
    }

zero_words : (n j : ℕ) → ◌≡◌ {A = ℕ} (get_or (replicate n 0) j 0) 0
zero_words zero j = refl
zero_words (suc n) zero = refl
zero_words (suc n) (suc j) = zero_words n j

pub within_start : Within 0 (replicate 29 0)
within_start = record { size = length-replicate {A = ℕ} 29 0; small = λ j. omega (arith, zero_words 29 j) }

pub within_small : (n : ℕ) (words : List ℕ) → n ≤ 65535 → Within n words → (k : ℕ) → get_or words k 0 ≤ 4503599627370496
within_small n words h w k = omega (arith, h, w.small k)

-- one turn, of which the value is the part that the span names
pub turn_so : (text : List ℕ) (x : Span) (j : Job) (list pool words after : List ℕ) {v : Verdict}
    → Reads j list pool (take (x.start + x.length - x.start) (drop x.start text)) v → after ≡ counted v words → Turn text x j list pool words after
unfolding part
turn_so text x j list pool words after {v} r e =
    let size : x.start + x.length - x.start ≡ x.length = omega arith in
    let value : take (x.start + x.length - x.start) (drop x.start text) ≡ bytes_of text x = ap (λ (n : ℕ). take n (drop x.start text)) size in
    record {
      is = e ∙ ap (λ (u : Verdict). counted u words) (r.is ∙ ap (verdict_of (settings_of j list pool) j.depth) value);
      within = λ n w. subst (Within (suc n)) (sym e) (counted_within v words n r.modest w);
    }

-- ---- the counts together

raised_out : (n : ℕ) (words : List ℕ) (k m : ℕ) → n ≤ k → first_words n (raised words k m) ≡ first_words n words
unfolding first_words
raised_out zero words k m h = refl
raised_out (suc n) words k m h =
    let at : get_or (raised words k m) n 0 ≡ get_or words n 0 = get_or-set_other words k n (get_or words k 0 + m) 0 (λ e. omega (arith, e, h)) in
    omega (arith, at, raised_out n words k m (omega (arith, h)))

raised_in : (n : ℕ) (words : List ℕ) (k m : ℕ) → k < n → k < length words → first_words n (raised words k m) ≡ first_words n words + m
unfolding first_words
raised_in zero words k m h l = absurd (omega (arith, h))
raised_in (suc n) words k m h l = go (ltb k n) refl (λ less. raised_in n words k m less l)
  where
    go : (b : Bool) → ltb k n ≡ b → (k < n → first_words n (raised words k m) ≡ first_words n words + m)
        → first_words n (raised words k m) + get_or (raised words k m) n 0 ≡ first_words n words + get_or words n 0 + m
    go true q rest =
        let less = ltb-true k n q in
        let at : get_or (raised words k m) n 0 ≡ get_or words n 0 = get_or-set_other words k n (get_or words k 0 + m) 0 (λ e. omega (arith, e, less)) in
        omega (arith, at, rest less)
    go false q rest =
        let is : n ≡ k = omega (arith, h, ltb-false k n q) in
        let at : get_or (raised words k m) n 0 ≡ get_or words n 0 + m = rw is (get_or-set_same words k (get_or words k 0 + m) 0 l) in
        omega (arith, at, raised_out n words k m (omega (arith, is)))

counted_first : (v : Verdict) (words : List ℕ) → length words ≡ 29 → Listed v → first_words 28 (counted v words) ≡ suc (first_words 28 words)
unfolding counted
counted_first (Accepted size) words e m =
    raised_out 28 (raised words 0 1) 28 size (omega arith)
    ∙ raised_in 28 words 0 1 (omega arith) (omega (arith, e))
    ∙ omega arith
counted_first (Fallen number) words e m = raised_in 28 words number 1 (omega (arith, m.1)) (omega (arith, e, m.1)) ∙ omega arith

none_first : (n : ℕ) → first_words n (replicate 29 0) ≡ 0
unfolding first_words
none_first zero = refl
none_first (suc n) = omega (arith, none_first n, zero_words 29 n)

-- ---- all spans

module _ (s : Settings) (depth : ℕ) (text : List ℕ) where
  over_word : (xs : List Span) (words : List ℕ) → length words ≡ 29 → (j : ℕ)
      → get_or (counted_over s depth text xs words) j 0 ≡ get_or words j 0 + summed (λ x. share j (verdict_of s depth (bytes_of text x))) xs
  unfolding counted_over
  over_word [] words e j = omega arith
  over_word (x ∷ xs) words e j =
      let v = verdict_of s depth (bytes_of text x) in
      omega (arith, over_word xs (counted v words) (counted_length v words ∙ e) j, counted_at v words j e (verdict_listed s depth (bytes_of text x)))

  over_first : (xs : List Span) (words : List ℕ) → length words ≡ 29
      → first_words 28 (counted_over s depth text xs words) ≡ first_words 28 words + length xs
  unfolding counted_over
  over_first [] words e = omega arith
  over_first (x ∷ xs) words e =
      let v = verdict_of s depth (bytes_of text x) in
      over_first xs (counted v words) (counted_length v words ∙ e) ∙ ap (λ (n : ℕ). n + length xs) (counted_first v words e (verdict_listed s depth (bytes_of text x))) ∙ omega arith

  -- each word of the report
  pub report_word : (xs : List Span) (j : ℕ) → get_or (report s depth text xs) j 0 ≡ summed (λ x. share j (verdict_of s depth (bytes_of text x))) xs
  unfolding report
  report_word xs j =
      over_word xs (replicate 29 0) (length-replicate {A = ℕ} 29 0) j ∙ ap (λ (n : ℕ). n + summed (λ x. share j (verdict_of s depth (bytes_of text x))) xs) (zero_words 29 j)
      ∙ omega arith

  -- K11: "together they make the number of spans"
  pub report_counts : (xs : List Span) → first_words 28 (report s depth text xs) ≡ length xs
  unfolding report
  report_counts xs = over_first xs (replicate 29 0) (length-replicate {A = ℕ} 29 0) ∙ ap (λ (n : ℕ). n + length xs) (none_first 28) ∙ omega arith

  over_length : (xs : List Span) (words : List ℕ) → length (counted_over s depth text xs words) ≡ length words
  unfolding counted_over
  over_length [] words = refl
  over_length (x ∷ xs) words = over_length xs (counted (verdict_of s depth (bytes_of text x)) words) ∙ counted_length (verdict_of s depth (bytes_of text x)) words

  pub report_length : (xs : List Span) → length (report s depth text xs) ≡ 29
  unfolding report
  report_length xs = over_length xs (replicate 29 0) ∙ length-replicate {A = ℕ} 29 0
