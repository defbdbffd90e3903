-- Laws of the first cut: where it falls, and the terms of the fast search. Assumes nothing.
use mathlib.Core.Path.{◌≡◌, refl, sym, ◌∙◌, ap}
use Prim.Native.Nat.{ℕ, zero, suc, ◌+◌, ◌-◌, ◌≤◌, ◌<◌}
use native.Mathlib.Omega.{arith}
use mathlib.Core.Bool.{Bool, true, false, ◌&&◌, not, true≢false}
use mathlib.Core.List.{List, [], ◌∷◌}
use lib.ListN.{length, drop, get_or, length-drop, drop_of_length-le, get_or-eq_default}
use lib.Seq.{get_or-drop}
use lib.Dec.{eqb, ltb}
use borrow.Author.Tests.{le-ltb, ltb-false, eq-eqb, ne_eqb}
use Rattle.text.specs.Bytes.{pick, begins}
use Rattle.text.proofs.Bytes.{or_left}
use Rattle.utils.proofs.Rest.{byte_first}
use Rattle.utils.specs.CData.{closing, first_cut, stepped, outside, cdata_step}
use Rattle.utils.specs.declared.Cursor.{Cursor}
use Rattle.utils.specs.CData.{part, no_more, outside_at}
use Rattle.utils.specs.Blocks.{closes_at, Clear, Passed}

-- ---- `]]>` as bytes at three indices

three : (x y z : Bool) → x && (y && (z && true)) ≡ x && y && z
three true true true = refl
three true true false = refl
three true false z = refl
three false y z = refl

-- a pattern of three bytes, none of which is 0, at the start of a list
begins_at : (t : List ℕ) → begins closing t ≡ eqb (get_or t 0 0) 93 && eqb (get_or t 1 0) 93 && eqb (get_or t 2 0) 62
begins_at [] = refl
begins_at (a ∷ []) = three (eqb a 93) false false
begins_at (a ∷ b ∷ []) = three (eqb a 93) (eqb b 93) false
begins_at (a ∷ b ∷ c ∷ t) = three (eqb a 93) (eqb b 93) (eqb c 62)

pub closes_is : (t : List ℕ) (i : ℕ) → closes_at t i ≡ begins closing (drop i t)
unfolding closes_at
closes_is t i =
    let z : i ≡ i + 0 = omega arith in
    ap (λ (n : ℕ). eqb (get_or t n 0) 93 && eqb (get_or t (i + 1) 0) 93 && eqb (get_or t (i + 2) 0) 62) z
    ∙ simp get_or-drop at (sym (begins_at (drop i t)))

-- ---- one byte after the other

cut_at : (b : ℕ) (bs : List ℕ) → first_cut (b ∷ bs) ≡ pick (begins closing (b ∷ bs)) 2 (suc (first_cut bs))
unfolding first_cut
cut_at b bs = refl

module _ (t : List ℕ) (i : ℕ) where
  here : (w : Bool) → i < length t → closes_at t i ≡ w → first_cut (drop i t) ≡ pick w 2 (suc (first_cut (drop (i + 1) t)))
  here w h e =
      ap first_cut (byte_first t i h) ∙ cut_at (get_or t i 0) (drop (i + 1) t)
      ∙ ap (λ (v : Bool). pick v 2 (suc (first_cut (drop (i + 1) t)))) (ap (begins closing) (sym (byte_first t i h)) ∙ sym (closes_is t i) ∙ e)

  pub cut_here : i < length t → closes_at t i ≡ true → first_cut (drop i t) ≡ 2
  cut_here h e = here true h e

  pub cut_on : i < length t → closes_at t i ≡ false → first_cut (drop i t) ≡ suc (first_cut (drop (i + 1) t))
  cut_on h e = here false h e

  pub cut_over : length t ≤ i → first_cut (drop i t) ≡ 0
  unfolding first_cut
  cut_over h = ap first_cut (drop_of_length-le t h)

  -- no room for three bytes
  pub closes_short : length t < i + 3 → closes_at t i ≡ false
  unfolding closes_at
  closes_short h = rw (get_or-eq_default t 0 {n = i + 2} (omega arith)) (none (eqb (get_or t i 0) 93) (eqb (get_or t (i + 1) 0) 93))
    where
      none : (a b : Bool) → a && b && false ≡ false
      none true true = refl
      none true false = refl
      none false b = refl

-- ---- by blocks

and_false : (a : Bool) → a && false ≡ false
and_false true = refl
and_false false = refl

pub no_gt : (t : List ℕ) (i : ℕ) → eqb (get_or t (i + 2) 0) 62 ≡ false → closes_at t i ≡ false
unfolding closes_at
no_gt t i e = rw e (and_false (eqb (get_or t i 0) 93 && eqb (get_or t (i + 1) 0) 93))

-- what does not hold of the bytes of a block: the piece goes on behind it
pub cut_past : (t : List ℕ) (i n : ℕ) → i + n ≤ length t → Clear t i n → i + first_cut (drop i t) ≡ i + n + first_cut (drop (i + n) t)
cut_past t i zero h c = let z : i ≡ i + 0 = omega arith in ap (λ (m : ℕ). m + first_cut (drop m t)) z
cut_past t i (suc n) h c =
    let e : i + n + 1 ≡ i + suc n = omega arith in
    cut_past t i n (omega arith) (record { clear = λ k q. c.clear k (omega arith) })
    ∙ ap (λ (m : ℕ). i + n + m) (cut_on t (i + n) (omega arith) (c.clear n (omega arith)))
    ∙ next (i + n) (first_cut (drop (i + n + 1) t))
    ∙ ap (λ (m : ℕ). m + first_cut (drop m t)) e
  where
    next : (a b : ℕ) → a + suc b ≡ a + 1 + b
    next a b = omega arith

pub passed_on : (t : List ℕ) (from i k : ℕ) → Passed t from i → Passed t i k → Passed t from k
passed_on t from i k p q = record { fits = q.fits; on = p.on ∙ q.on }

pub passed_block : (t : List ℕ) (from i n : ℕ) → Passed t from i → i + n ≤ length t → Clear t i n → Passed t from (i + n)
passed_block t from i n p h c = record { fits = h; on = p.on ∙ cut_past t i n h c }

pub clear_one : (t : List ℕ) (i : ℕ) → closes_at t i ≡ false → Clear t i 1
clear_one t i e = record { clear = λ k h. let z : i + k ≡ i = omega arith in rw z e }

pub not_true : (b : Bool) → not b ≡ true → b ≡ false
not_true false e = refl
not_true true e = absurd (true≢false (sym e))

-- a part of a clear block
pub clear_part : (t : List ℕ) (a n i m : ℕ) → Clear t a n → a ≤ i → m ≤ a + n - i → Clear t i m
clear_part t a n i m c h g =
    record { clear = λ k l. let q : a + (i + k - a) ≡ i + k = omega arith in rw q at (c.clear (i + k - a) (omega arith)) }

-- ---- the end of a piece

module _ (t : List ℕ) (from i : ℕ) (p : Passed t from i) where
  pub end_cut : i < length t → closes_at t i ≡ true → i + 2 ≡ from + first_cut (drop from t)
  end_cut h e = ap (λ (n : ℕ). i + n) (sym (cut_here t i h e)) ∙ sym p.on

-- where fewer than three bytes are left, no cut is
short : (t : List ℕ) (n i : ℕ) → i + n ≡ length t → n < 3 → first_cut (drop i t) ≡ n
short t zero i h k = cut_over t i (omega arith)
short t (suc n) i h k =
    cut_on t i (omega arith) (closes_short t i (omega arith)) ∙ ap suc (short t n (i + 1) (omega arith) (omega arith))

pub end_last : (t : List ℕ) (from i : ℕ) → Passed t from i → length t - i < 3 → length t ≡ from + first_cut (drop from t)
end_last t from i p h = omega (arith, p.fits, p.on, short t (length t - i) i (omega (arith, p.fits)) h)

pub end_clear : (t : List ℕ) (from i : ℕ) → Passed t from i → Clear t i (length t - 2 - i) → length t ≡ from + first_cut (drop from t)
end_clear t from i p c =
    end_last t from (i + (length t - 2 - i)) (passed_block t from i (length t - 2 - i) p (omega (arith, p.fits)) c) (omega arith)

-- ---- the cursor

-- the text's end is not outside
pub at_end : (t : List ℕ) (n : ℕ) → length t ≡ n → outside t n ≡ false
unfolding outside
at_end t n e = rw (le-ltb (length t) n (omega arith), get_or-eq_default t 0 {n = n} (omega arith))

pub inside_le : (t : List ℕ) (o : ℕ) → outside t o ≡ false → o ≤ length t
unfolding outside
inside_le t o e = ltb-false (length t) o (or_left (ltb (length t) o) _ e)

module _ (t : List ℕ) (c : Cursor) where
  pub step_outside : outside t c.offset ≡ true → record { piece = outside_at c.offset; next = c } ≡ cdata_step t c
  unfolding cdata_step
  step_outside h = simp h

  module _ (h : outside t c.offset ≡ false) where
    pub step_finished : (c.finished ≡ 0 → ⊥) → record { piece = no_more; next = c } ≡ cdata_step t c
    unfolding cdata_step
    step_finished f = simp (h, ne_eqb c.finished 0 f)

    module _ (f : c.finished ≡ 0) (e : ℕ) (q : e ≡ c.offset + first_cut (drop c.offset t)) where
      pub step_last : e ≡ length t → stepped (part c.offset (e - c.offset)) c.offset 1 ≡ cdata_step t c
      unfolding cdata_step
      step_last l =
          let z : e - c.offset ≡ length (drop c.offset t) = omega (arith, length-drop c.offset t) in
          let y : first_cut (drop c.offset t) ≡ length (drop c.offset t) = omega (arith, length-drop c.offset t) in
          simp (h, eq-eqb c.finished 0 f, eq-eqb _ _ y, z)

      pub step_cut : (e ≡ length t → ⊥) → stepped (part c.offset (e - c.offset)) e 0 ≡ cdata_step t c
      unfolding cdata_step
      step_cut n =
          let z : e - c.offset ≡ first_cut (drop c.offset t) = omega arith in
          let y : first_cut (drop c.offset t) ≡ length (drop c.offset t) → ⊥ = λ p. n (omega (arith, length-drop c.offset t, inside_le t c.offset h)) in
          simp (h, eq-eqb c.finished 0 f, ne_eqb _ _ y, z, ← q)
