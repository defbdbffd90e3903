-- Between two halts each byte gives one byte, TAB and LF a space, where the depth is not used up (`smooth_run`); so does a whole text
-- without halts, and opened at depth 2 or more it takes one opening (`leaf_opening`, `leaf_stands`). Assumes nothing.
use mathlib.Core.Path.{◌≡◌, refl, sym, ap, ◌∙◌}
use mathlib.Core.Logic.{◌≢◌}
use mathlib.Core.Bool.{Bool, true, false, ◌&&◌, ◌||◌}
use mathlib.Core.List.{List, [], ◌∷◌, ◌++◌, append-nil}
use Prim.Native.Nat.{ℕ, zero, suc, ◌+◌, ◌-◌, ◌≤◌, ◌<◌}
use native.Mathlib.Omega.{arith}
use native.Mathlib.Numerals.{add-one}
use lib.Dec.{eqb}
use lib.ListN.{length, get_or, take, drop}
use lib.Seq.{drop-cons, take_all}
use Rattle.text.proofs.Bytes.{or_left}
use Rattle.legal.specs.FirstFault.{Clean}
use Rattle.eols.specs.declared.Step.{Step}
use Rattle.halts.specs.Halts.{halts, Smooth, spaced, blanks_spaced, stop_byte}
use Rattle.tokens.specs.Tokens.{Head, Heads, token_of, skip_of}
use Rattle.tokens.specs.Outcome.{Outcome, done, prepend, followed}
use Rattle.tokens.specs.Walking.{head_at, next_at, outcome_of}
use Rattle.tokens.proofs.Progress.{from_on, run_at, run_over, prepend_none, prepend_prepend}
use Rattle.attribute.specs.Walk.{Settings, walk}
use Rattle.attribute.specs.Steps.{heads_by, fault_by, read_by, stop_answer, Blank}
use Rattle.attribute.proofs.Stops.{heads_copy}
use Rattle.attribute.proofs.Blanks.{smooth_blank}
use Rattle.attribute.proofs.Guards.{read_at_lem, guard_blank}
use Rattle.attribute.proofs.Single.{stop_deeper, walk_run}
use Rattle.memory.specs.Slots.{opening, shaped, Stands}
use Rattle.memory.proofs.Slots.{stands_made}

-- a byte that is no stop is written as it is
plain_spaced : (newer : Bool) (b : ℕ) → stop_byte newer b ≡ false → spaced b ≡ b
plain_spaced newer b e =
    let four = or_left (eqb b 9 || eqb b 10 || eqb b 13 || eqb b 38) (newer && (eqb b 0xC2 || eqb b 0xE2)) e in
    let three = or_left (eqb b 9 || eqb b 10 || eqb b 13) (eqb b 38) four in
    let two = or_left (eqb b 9 || eqb b 10) (eqb b 13) three in
    rw two

pub smooth_part : {newer : Bool} {t : List ℕ} {i k e : ℕ} → Smooth newer t i e → i ≤ k → k ≤ e → Smooth newer t i k
smooth_part s a b = record { from = a; to = omega (arith, b, s.to); none = λ j g h. s.none j g (omega (arith, h, b)) }

module _ (s : Settings) (how guard depth : ℕ) (deep : depth ≢ 0) (text : List ℕ) where
  abbrev on : ℕ → ℕ → Outcome
  on i n = from_on (read_by how guard) (stop_answer s depth) text i n

  -- a blank, or a C2 or E2 that is kept
  pub run_blank : (i n : ℕ) (x : Step) → i < length text → Blank (read_by how guard) text i x → on i n ≡ prepend (x.byte ∷ []) (on (i + x.width) n)
  run_blank i n x h blank =
      let at = read_by how guard in
      run_at at (stop_answer s depth) text i n h
      ∙ ap (λ (o : Outcome). followed o (λ m. on (next_at at text i) m))
      (stop_deeper s depth deep (token_of (head_at at text i)) n ∙ blank.stands_for s (λ u m. walk s s.inner (depth - 1) u m) n)
      ∙ ap (λ (k : ℕ). prepend (x.byte ∷ []) (on k n)) blank.next

  run_copy : (i n : ℕ) → i < length text → fault_by guard (drop i text) ≡ false → stop_byte (eqb how 1) (get_or text i 0) ≡ false
      → on i n ≡ prepend (get_or text i 0 ∷ []) (on (i + 1) n)
  run_copy i n h clean e =
      let at = read_by how guard in
      let q : i + 1 + 0 ≡ i + 1 = omega arith in
      let is = read_at_lem text i h guard (heads_by how) clean ∙ heads_copy how i (get_or text i 0) (drop (i + 1) text) e in
      run_at at (stop_answer s depth) text i n h
      ∙ ap (λ (d : Head). followed (outcome_of (stop_answer s depth) (token_of d) n) (λ m. on (i + 1 + skip_of d) m)) is
      ∙ ap (λ (k : ℕ). prepend (get_or text i 0 ∷ []) (on k n)) q

  smooth_byte : (i n : ℕ) → i < length text → halts (eqb how 1) (drop i text) ≡ false → fault_by guard (drop i text) ≡ false
      → on i n ≡ prepend (spaced (get_or text i 0) ∷ []) (on (i + 1) n)
  smooth_byte i n h e clean = go (stop_byte (eqb how 1) (get_or text i 0)) refl
    where
      go : (c : Bool) → stop_byte (eqb how 1) (get_or text i 0) ≡ c → on i n ≡ prepend (spaced (get_or text i 0) ∷ []) (on (i + 1) n)
      go true z = run_blank i n (record { byte = spaced (get_or text i 0); width = 1 }) h (guard_blank text i h guard (heads_by how) clean (smooth_blank text i h how e z))
      go false z = run_copy i n h clean z ∙ ap (λ (b : ℕ). prepend (b ∷ []) (on (i + 1) n)) (sym (plain_spaced (eqb how 1) (get_or text i 0) z))

  smooth_count : (k i n : ℕ) → i + k ≤ length text → ((j : ℕ) → i ≤ j → j < i + k → halts (eqb how 1) (drop j text) ≡ false)
      → ((j : ℕ) → i ≤ j → j < i + k → fault_by guard (drop j text) ≡ false) → on i n ≡ prepend (blanks_spaced (take k (drop i text))) (on (i + k) n)
  smooth_count zero i n h p c =
      let q : i + 0 ≡ i = omega arith in
      rw q (sym (prepend_none (on i n)))
  smooth_count (suc k) i n h p clean =
      let q : i + 1 + k ≡ i + suc k = omega arith in
      let c = spaced (get_or text i 0) in
      smooth_byte i n (omega (arith, h)) (p i (omega arith) (omega arith)) (clean i (omega arith) (omega arith))
      ∙ ap (prepend (c ∷ [])) (smooth_count k (i + 1) n (omega (arith, h)) (λ j g l. p j (omega (arith, g)) (omega (arith, l))) (λ j g l. clean j (omega (arith, g)) (omega (arith, l))))
      ∙ prepend_prepend (c ∷ []) (blanks_spaced (take k (drop (i + 1) text))) (on (i + 1 + k) n)
      ∙ ap (λ (j : ℕ). prepend (c ∷ blanks_spaced (take k (drop (i + 1) text))) (on j n)) q
      ∙ ap (λ (l : List ℕ). prepend (blanks_spaced (take (suc k) l)) (on (i + suc k) n))
      (ap (λ (j : ℕ). get_or text i 0 ∷ drop j text) (add-one i) ∙ sym (drop-cons text i 0 (omega (arith, h))))

  -- a run up to a halt, without faults
  pub smooth_run : {i e : ℕ} (n : ℕ) → Smooth (eqb how 1) text i e → Clean (fault_by guard) text i e → on i n ≡ prepend (blanks_spaced (take (e - i) (drop i text))) (on e n)
  smooth_run {i} {e} n p clean =
      let q : i + (e - i) ≡ e = omega (arith, p.from) in
      smooth_count (e - i) i n (omega (arith, p.from, p.to)) (λ j g l. p.none j g (omega (arith, p.from, l))) (λ j g l. clean.none j g (omega (arith, p.from, l)))
      ∙ ap (λ (k : ℕ). prepend (blanks_spaced (take (e - i) (drop i text))) (on k n)) q

  -- a whole text
  pub smooth_whole : (n : ℕ) → Smooth (eqb how 1) text 0 (length text) → Clean (fault_by guard) text 0 (length text) → walk s (read_by how guard) depth text n ≡ done (blanks_spaced text) n
  smooth_whole n p clean =
      let all : take (length text - 0) text ≡ text = take_all (length text - 0) text (omega arith) in
      walk_run s (read_by how guard) depth text n
      ∙ smooth_run n p clean
      ∙ ap (prepend (blanks_spaced (take (length text - 0) text))) (run_over (read_by how guard) (stop_answer s depth) text (length text) n (omega arith))
      ∙ ap (λ (l : List ℕ). done l n) (append-nil (blanks_spaced (take (length text - 0) text)) ∙ ap blanks_spaced all)

-- ---- a leaf: opened at depth 2 or more it takes one opening

module _ (s : Settings) (how guard : ℕ) (inner : s.inner ≡ read_by how guard) (t : List ℕ) (p : Smooth (eqb how 1) t 0 (length t))
    (clean : Clean (fault_by guard) t 0 (length t)) where
  pub leaf_opening : (e m : ℕ) → 2 ≤ e → opening s e t m ≡ done (blanks_spaced t) (m + 1)
  leaf_opening e m h =
      ap (λ (at : Heads). walk s at (e - 1) t (m + 1)) inner ∙ smooth_whole s how guard (e - 1) (λ q. omega (arith, h, q)) t (m + 1) p clean

  pub leaf_stands : (form : ℕ) (v : List ℕ) → 1 ≤ s.limit
      → Stands s form t (v ++ shaped form (blanks_spaced t)) (record { depth = 2; place = length v; count = length (shaped form (blanks_spaced t)); opened = 1 })
  leaf_stands form v h = stands_made s t form v (blanks_spaced t) 2 0 1 (leaf_opening 2 0 (omega arith)) h
