-- Blocks: bytes that fit after the three before them are whole characters up to the last first byte. Assumes nothing.
use mathlib.Core.Path.{◌≡◌, refl, sym, ◌∙◌}
use mathlib.Core.Bool.{Bool, true, false, not, ◌&&◌, ◌||◌, beq, true≢false}
use mathlib.Core.List.{List, [], ◌∷◌}
use Prim.Native.Nat.{ℕ, zero, suc, ◌+◌, ◌-◌, ◌≤◌, ◌<◌}
use native.Mathlib.Omega.{arith}
use native.Mathlib.Numerals.{add-one}
use native.Mathlib.Nat.{le_refl, le_trans, add-zero}
use lib.Dec.{eqb, leb, ltb}
use lib.ListN.{length, take, drop, get_or, length-drop}
use lib.Seq.{take-suc, get_or-drop, take-add}
use borrow.Author.Count.{below_none, below_more}
use borrow.Author.Tests.{le-leb, lt-leb, leb-true, leb-false, ltb-true, ltb-false, lt-ltb, le-ltb, eqb-true, eqb-false, eq-eqb, ne_eqb}
use Rattle.text.specs.Bytes.{pick}
use Rattle.text.specs.Utf8.{State, between, one, two, first, next, after, WellFormed}
use Rattle.text.specs.Blocks.{Prefix, Whole, AtMost, Ascii, AsciiRun, Fitting, Edge, trail, misfit, misfit2, misfit3}
use Rattle.text.proofs.Bytes.{inside, and_left, and_right, or_left, or_right}
use Rattle.text.proofs.FirstByte.{first_ascii, first_one, first_e0, first_ed, first_two, first_f0, first_three, first_f4}
use Rattle.text.proofs.Utf8.{after_append, append_well_formed}

-- a prefix grows by whole characters
pub grown : (t : List ℕ) (i n : ℕ) → Prefix t i → Whole t i n → Prefix t (i + n)
grown t i n p w =
    record { fits = w.fits; whole = rw (take-add i n t) (append_well_formed (take i t) (take n (drop i t)) p.whole w.whole) }

pub whole_none : (t : List ℕ) (i : ℕ) → i ≤ length t → Whole t i 0
whole_none t i h = record { fits = omega arith; whole = unfold WellFormed in refl }

-- a lower bound of the highest byte serves where a higher one is asked
pub at_most_up : (t : List ℕ) (i n top more : ℕ) → AtMost t i n top → top ≤ more → AtMost t i n more
at_most_up t i n top more a h = record { at_most = λ k l. le_trans (a.at_most k l) h }

-- a part of such bytes
pub at_most_part : (t : List ℕ) (a n i m top : ℕ) → AtMost t a n top → a ≤ i → i + m ≤ a + n → AtMost t i m top
at_most_part t a n i m top c h g =
    record { at_most = λ k l. let q : a + (i + k - a) ≡ i + k = omega arith in rw q at (c.at_most (i + k - a) (omega arith)) }

-- one byte more
pub after_snoc : (s : State) (t : List ℕ) (i m : ℕ) → i + m < length t
    → after s (take (m + 1) (drop i t)) ≡ next (after s (take m (drop i t))) (get_or t (i + m) 0)
unfolding after
after_snoc s t i m h =
    rw (add-one m, take-suc (drop i t) m 0 (simp length-drop (omega arith)), get_or-drop i t m 0)
    (after_append s (take m (drop i t)) (get_or t (i + m) 0 ∷ []))

-- a run of ASCII
module _ (t : List ℕ) (i n top : ℕ) (a : AtMost t i n top) (low : top < 0x80) (fits : i + n ≤ length t) where
  ascii_after : (m : ℕ) → m ≤ n → after between (take m (drop i t)) ≡ between
  unfolding after
  ascii_after zero h = refl
  ascii_after (suc m) h =
      rw (sym (add-one m))
      (after_snoc between t i m (omega arith) ∙ rw (ascii_after m (omega arith)) (first_ascii (get_or t (i + m) 0) (omega (arith, a.at_most m (omega arith)))))

  pub ascii_whole : Whole t i n
  ascii_whole = record { fits = fits; whole = unfold WellFormed in ascii_after n (le_refl n) }

-- the text's last bytes are ASCII
pub ascii_end : (t : List ℕ) (i n : ℕ) → Prefix t i → n ≤ length t → length t - n ≤ i → AtMost t (length t - n) n 0x7F → Prefix t (length t)
ascii_end t i n p f h a =
    let fits : i ≤ length t = p.fits in
    let q : i + (length t - i) ≡ length t = omega arith in
    rw q at
    (grown t i (length t - i) p
    (ascii_whole t i (length t - i) 0x7F (at_most_part t (length t - n) n i (length t - i) 0x7F a h (omega arith)) (omega arith) (omega arith)))

-- ---- the three tests of a byte, at the k-th of a block whose first stands at `j + 3`

abbrev pub misfit_at : List ℕ → ℕ → ℕ → Bool
misfit_at t j k = misfit (get_or t (j + k) 0) (get_or t (j + k + 1) 0) (get_or t (j + k + 2) 0) (get_or t (j + k + 3) 0)

abbrev pub misfit3_at : List ℕ → ℕ → ℕ → Bool
misfit3_at t j k = misfit3 (get_or t (j + k + 1) 0) (get_or t (j + k + 2) 0) (get_or t (j + k + 3) 0)

abbrev pub misfit2_at : List ℕ → ℕ → ℕ → Bool
misfit2_at t j k = misfit2 (get_or t (j + k + 2) 0) (get_or t (j + k + 3) 0)

-- ---- an ASCII start

pub ascii_none : (t : List ℕ) → Ascii t 0
ascii_none t = record { fits = omega arith; low = below_none _ }

-- it grows by a stretch of such bytes
pub ascii_more : (t : List ℕ) (i n : ℕ) → Ascii t i → AtMost t i n 0x7F → i + n ≤ length t → Ascii t (i + n)
ascii_more t i n p a h = record { fits = h; low = λ k l. go (ltb k i) refl l }
  where
    go : {k : ℕ} (x : Bool) → ltb k i ≡ x → k < i + n → get_or t k 0 ≤ 0x7F
    go {k} true e l = p.low k (ltb-true k i e)
    go {k} false e l =
        let g = ltb-false k i e in
        let q : i + (k - i) ≡ k = omega arith in
        rw q at (a.at_most (k - i) (omega arith))

-- and by a byte
pub ascii_next : (t : List ℕ) (i : ℕ) → Ascii t i → i < length t → get_or t i 0 ≤ 0x7F → Ascii t (i + 1)
ascii_next t i p h l = record { fits = omega arith; low = below_more (λ (k : ℕ). get_or t k 0 ≤ 0x7F) i p.low l }

-- what lies inside it is whole characters
pub ascii_inside : (t : List ℕ) (a i n : ℕ) → Ascii t a → i + n ≤ a → Whole t i n
ascii_inside t a i n p h =
    ascii_whole t i n 0x7F (record { at_most = λ k l. p.low (i + k) (omega arith) }) (omega arith) (omega (arith, p.fits))

-- ---- a run of ASCII

pub run_none : (t : List ℕ) (i : ℕ) → i ≤ length t → AsciiRun t i i
run_none t i h = record { from = le_refl i; fits = h; low = record { at_most = λ k l. absurd (omega (arith, l)) } }

pub run_more : (t : List ℕ) (i j n : ℕ) → AsciiRun t i j → AtMost t j n 0x7F → j + n ≤ length t → AsciiRun t i (j + n)
run_more t i j n p a h = record { from = omega (arith, p.from); fits = h; low = record { at_most = λ k l. go (ltb k (j - i)) refl l } }
  where
    go : {k : ℕ} (x : Bool) → ltb k (j - i) ≡ x → k < j + n - i → get_or t (i + k) 0 ≤ 0x7F
    go {k} true e l = p.low.at_most k (ltb-true k (j - i) e)
    go {k} false e l =
        let g = ltb-false k (j - i) e in
        let q : j + (k - (j - i)) ≡ i + k = omega (arith, g, p.from) in
        rw q at (a.at_most (k - (j - i)) (omega (arith, g, l, p.from)))

-- it makes a prefix of whole characters, and one of ASCII, longer
pub run_prefix : (t : List ℕ) (i e : ℕ) → Prefix t i → AsciiRun t i e → Prefix t e
run_prefix t i e p r =
    let q : i + (e - i) ≡ e = omega (arith, r.from) in
    rw q at (grown t i (e - i) p (ascii_whole t i (e - i) 0x7F r.low (omega arith) (omega (arith, r.from, r.fits))))

pub run_ascii : (t : List ℕ) (i e : ℕ) → Ascii t i → AsciiRun t i e → Ascii t e
run_ascii t i e p r =
    let q : i + (e - i) ≡ e = omega (arith, r.from) in
    rw q at (ascii_more t i (e - i) p r.low (omega (arith, r.from, r.fits)))

-- ---- the cheaper tests

or_false : (t : Bool) → t || false ≡ t
or_false true = refl
or_false false = refl

-- below E0 nothing but a character of two bytes is begun
pub fits2 : (p3 p2 p1 b : ℕ) → p3 < 0xF0 → p2 < 0xE0 → p1 < 0xE0 → misfit2 p1 b ≡ false → misfit p3 p2 p1 b ≡ false
unfolding misfit misfit2
fits2 p3 p2 p1 b h3 h2 h1 e =
    rw (lt-leb 0xE0 p2 h2, lt-leb 0xF0 p3 h3, lt-leb 0xF5 p1 (omega arith), ne_eqb p1 0xE0 (λ q. omega arith), ne_eqb p1 0xED (λ q. omega arith), ne_eqb p1 0xF0 (λ q. omega arith), ne_eqb p1 0xF4 (λ q. omega arith))
    (simp or_false e)

-- below F0 nothing but one of two or three bytes is
pub fits3 : (p3 p2 p1 b : ℕ) → p3 < 0xF0 → p1 < 0xF0 → misfit3 p2 p1 b ≡ false → misfit p3 p2 p1 b ≡ false
unfolding misfit misfit3
fits3 p3 p2 p1 b h3 h1 e =
    rw (lt-leb 0xF0 p3 h3, lt-leb 0xF5 p1 (omega arith), ne_eqb p1 0xF0 (λ q. omega arith), ne_eqb p1 0xF4 (λ q. omega arith))
    (simp or_false e)

-- the bytes of a block and the three before it
module _ (t : List ℕ) (j top : ℕ) (edge : Edge t j) (bound : AtMost t (j + 3) 32 top) where
  in_block : (m : ℕ) → 3 ≤ m → m < 35 → get_or t (j + m) 0 ≤ top
  in_block m g h =
      let q : j + 3 + (m - 3) ≡ j + m = omega arith in
      rw q at (bound.at_most (m - 3) (omega arith))

  pub at_last : (m : ℕ) → 2 ≤ m → m < 35 → top < 0xE0 → get_or t (j + m) 0 < 0xE0
  at_last zero g h l = absurd (omega arith)
  at_last (suc zero) g h l = absurd (omega arith)
  at_last (suc (suc zero)) g h l = omega (arith, edge.last)
  at_last (suc (suc (suc m))) g h l = omega (arith, in_block (suc (suc (suc m))) (omega arith) h)

  pub at_second : (m : ℕ) → 1 ≤ m → m < 35 → top < 0xE0 → get_or t (j + m) 0 < 0xE0
  at_second zero g h l = absurd (omega arith)
  at_second (suc zero) g h l = edge.second
  at_second (suc (suc m)) g h l = at_last (suc (suc m)) (omega arith) h l

  pub at_any : (m : ℕ) → m < 35 → top < 0xF0 → get_or t (j + m) 0 < 0xF0
  at_any zero h l = rw (add-zero j) edge.third
  at_any (suc zero) h l = omega (arith, edge.second)
  at_any (suc (suc zero)) h l = omega (arith, edge.last)
  at_any (suc (suc (suc m))) h l = omega (arith, in_block (suc (suc (suc m))) (omega arith) h)

  -- the cheaper tests serve for the whole one
  pub fits2_at : top < 0xE0 → (k : ℕ) → k < 32 → misfit2 (get_or t (j + k + 2) 0) (get_or t (j + k + 3) 0) ≡ false
      → misfit (get_or t (j + k) 0) (get_or t (j + k + 1) 0) (get_or t (j + k + 2) 0) (get_or t (j + k + 3) 0) ≡ false
  fits2_at l k h e =
      let q1 : j + (k + 1) ≡ j + k + 1 = omega arith in
      let q2 : j + (k + 2) ≡ j + k + 2 = omega arith in
      fits2 _ _ _ _ (at_any k (omega arith) (omega arith)) (rw q1 at (at_second (k + 1) (omega arith) (omega arith) l)) (rw q2 at (at_last (k + 2) (omega arith) (omega arith) l)) e

  pub fits3_at : top < 0xF0 → (k : ℕ) → k < 32 → misfit3 (get_or t (j + k + 1) 0) (get_or t (j + k + 2) 0) (get_or t (j + k + 3) 0) ≡ false
      → misfit (get_or t (j + k) 0) (get_or t (j + k + 1) 0) (get_or t (j + k + 2) 0) (get_or t (j + k + 3) 0) ≡ false
  fits3_at l k h e =
      let q2 : j + (k + 2) ≡ j + k + 2 = omega arith in
      fits3 _ _ _ _ (at_any k (omega arith) l) (rw q2 at (at_any (k + 2) (omega arith) l)) e

-- ---- a fitting byte, read from where the three before it leave a reader

-- what the test says, each part by itself
record Fits (p3 p2 p1 b : ℕ) : Type 0 where
  tail : leb 0xC0 p1 || leb 0xE0 p2 || leb 0xF0 p3 ≡ (leb 0x80 b && ltb b 0xC0)
  not_c0 : p1 ≡ 0xC0 → ⊥
  not_c1 : p1 ≡ 0xC1 → ⊥
  not_f5 : p1 < 0xF5
  e0 : p1 ≡ 0xE0 → 0xA0 ≤ b
  ed : p1 ≡ 0xED → b < 0xA0
  f0 : p1 ≡ 0xF0 → 0x90 ≤ b
  f4 : p1 ≡ 0xF4 → b < 0x90

same : (a b : Bool) → not (beq a b) ≡ false → a ≡ b
same true true e = refl
same true false e = e
same false true e = sym e
same false false e = refl

if_equal : {t : Bool} (a b : ℕ) → eqb a b && t ≡ false → a ≡ b → t ≡ false
if_equal a b e q = rw (eq-eqb a b q) at e

fits_of : (p3 p2 p1 b : ℕ) → misfit p3 p2 p1 b ≡ false → Fits p3 p2 p1 b
unfolding misfit
fits_of p3 p2 p1 b e7 =
    let x0 = not (beq (leb 0xC0 p1 || leb 0xE0 p2 || leb 0xF0 p3) (leb 0x80 b && ltb b 0xC0)) in
    let x1 = x0 || eqb p1 0xC0 in
    let x2 = x1 || eqb p1 0xC1 in
    let x3 = x2 || leb 0xF5 p1 in
    let x4 = x3 || (eqb p1 0xE0 && ltb b 0xA0) in
    let x5 = x4 || (eqb p1 0xED && leb 0xA0 b) in
    let x6 = x5 || (eqb p1 0xF0 && ltb b 0x90) in
    let e6 : x6 ≡ false = or_left x6 (eqb p1 0xF4 && leb 0x90 b) e7 in
    let e5 : x5 ≡ false = or_left x5 (eqb p1 0xF0 && ltb b 0x90) e6 in
    let e4 : x4 ≡ false = or_left x4 (eqb p1 0xED && leb 0xA0 b) e5 in
    let e3 : x3 ≡ false = or_left x3 (eqb p1 0xE0 && ltb b 0xA0) e4 in
    let e2 : x2 ≡ false = or_left x2 (leb 0xF5 p1) e3 in
    let e1 : x1 ≡ false = or_left x1 (eqb p1 0xC1) e2 in
    record {
      tail = same _ _ (or_left x0 (eqb p1 0xC0) e1);
      not_c0 = eqb-false p1 0xC0 (or_right x0 (eqb p1 0xC0) e1);
      not_c1 = eqb-false p1 0xC1 (or_right x1 (eqb p1 0xC1) e2);
      not_f5 = leb-false 0xF5 p1 (or_right x2 (leb 0xF5 p1) e3);
      e0 = λ q. ltb-false b 0xA0 (if_equal p1 0xE0 (or_right x3 (eqb p1 0xE0 && ltb b 0xA0) e4) q);
      ed = λ q. leb-false 0xA0 b (if_equal p1 0xED (or_right x4 (eqb p1 0xED && leb 0xA0 b) e5) q);
      f0 = λ q. ltb-false b 0x90 (if_equal p1 0xF0 (or_right x5 (eqb p1 0xF0 && ltb b 0x90) e6) q);
      f4 = λ q. leb-false 0x90 b (if_equal p1 0xF4 (or_right x6 (eqb p1 0xF4 && leb 0x90 b) e7) q);
    }

-- between two characters, as no byte of the three wants a tail
pub idle : (p3 p2 p1 : ℕ) → p3 < 0xF0 → p2 < 0xE0 → p1 < 0xC0 → trail p3 p2 p1 ≡ between
unfolding trail
idle p3 p2 p1 h3 h2 h1 = rw (lt-leb 0xC0 p1 h1, lt-leb 0xE0 p2 h2, lt-leb 0xF0 p3 h3)

-- after a tail the two bytes before it decide
trail_tail : (p2 p1 b : ℕ) → b < 0xC0 → trail p2 p1 b ≡ pick (leb 0xE0 p1) (pick (leb 0xF0 p1) two one) (pick (leb 0xF0 p2) one between)
unfolding trail
trail_tail p2 p1 b h = rw (lt-leb 0xC0 b h)

trail_lead : (p3 p2 p1 : ℕ) → 0xC0 ≤ p1 → trail p3 p2 p1 ≡ first p1
unfolding trail
trail_lead p3 p2 p1 h = rw (le-leb 0xC0 p1 h)

trail_four : (p3 p2 p1 : ℕ) → p1 < 0xC0 → 0xF0 ≤ p2 → trail p3 p2 p1 ≡ two
unfolding trail
trail_four p3 p2 p1 h g = rw (lt-leb 0xC0 p1 h, le-leb 0xE0 p2 (omega arith), le-leb 0xF0 p2 g)

trail_three : (p3 p2 p1 : ℕ) → p1 < 0xC0 → 0xE0 ≤ p2 → p2 < 0xF0 → trail p3 p2 p1 ≡ one
unfolding trail
trail_three p3 p2 p1 h g k = rw (lt-leb 0xC0 p1 h, le-leb 0xE0 p2 g, lt-leb 0xF0 p2 k)

trail_last : (p3 p2 p1 : ℕ) → p1 < 0xC0 → p2 < 0xE0 → leb 0xF0 p3 ≡ true → trail p3 p2 p1 ≡ one
unfolding trail
trail_last p3 p2 p1 h g e = rw (lt-leb 0xC0 p1 h, lt-leb 0xE0 p2 g, e)

-- the second byte of a character
module _ (p3 p2 p1 b : ℕ) (f : Fits p3 p2 p1 b) (lead : 0xC0 ≤ p1) (calm : p2 < 0xF0) (low : 0x80 ≤ b) (high : b < 0xC0) where
  of_two : p1 < 0xE0 → next (first p1) b ≡ trail p2 p1 b
  unfolding next
  of_two h =
      let n = f.not_c0 in
      let m = f.not_c1 in
      rw (trail_tail p2 p1 b high, lt-leb 0xE0 p1 h, lt-leb 0xF0 p2 calm, first_one p1 (omega arith) h, inside 0x80 0xBF b low (omega arith))

  of_three : 0xE0 ≤ p1 → p1 < 0xF0 → next (first p1) b ≡ one → next (first p1) b ≡ trail p2 p1 b
  of_three g h e = e ∙ sym (rw (trail_tail p2 p1 b high, le-leb 0xE0 p1 g, lt-leb 0xF0 p1 h))

  of_four : 0xF0 ≤ p1 → next (first p1) b ≡ two → next (first p1) b ≡ trail p2 p1 b
  of_four g e = e ∙ sym (rw (trail_tail p2 p1 b high, le-leb 0xE0 p1 (omega arith), le-leb 0xF0 p1 g))

  three_one : 0xE0 ≤ p1 → p1 < 0xF0 → (t : Bool) → eqb p1 0xE0 ≡ t → (u : Bool) → eqb p1 0xED ≡ u → next (first p1) b ≡ one
  unfolding next
  three_one g h true e u d = rw (first_e0 p1 (eqb-true _ _ e), inside 0xA0 0xBF b (f.e0 (eqb-true _ _ e)) (omega arith))
  three_one g h false e true d =
      let k = f.ed (eqb-true _ _ d) in
      rw (first_ed p1 (eqb-true _ _ d), inside 0x80 0x9F b low (omega arith))
  three_one g h false e false d =
      let n = eqb-false p1 0xE0 e in
      rw (first_two p1 (omega arith) h (eqb-false _ _ d), inside 0x80 0xBF b low (omega arith))

  four_two : 0xF0 ≤ p1 → (t : Bool) → eqb p1 0xF0 ≡ t → (u : Bool) → eqb p1 0xF4 ≡ u → next (first p1) b ≡ two
  unfolding next
  four_two g true e u d = rw (first_f0 p1 (eqb-true _ _ e), inside 0x90 0xBF b (f.f0 (eqb-true _ _ e)) (omega arith))
  four_two g false e true d =
      let k = f.f4 (eqb-true _ _ d) in
      rw (first_f4 p1 (eqb-true _ _ d), inside 0x80 0x8F b low (omega arith))
  four_two g false e false d =
      let n = eqb-false p1 0xF0 e in
      let m = eqb-false p1 0xF4 d in
      let l = f.not_f5 in
      rw (first_three p1 (omega arith) (omega arith), inside 0x80 0xBF b low (omega arith))

  second_byte : (t : Bool) → leb 0xE0 p1 ≡ t → (u : Bool) → leb 0xF0 p1 ≡ u → next (first p1) b ≡ trail p2 p1 b
  second_byte false e u d = of_two (leb-false _ _ e)
  second_byte true e false d =
      let g = leb-true 0xE0 p1 e in
      let h = leb-false 0xF0 p1 d in
      of_three g h (three_one g h (eqb p1 0xE0) refl (eqb p1 0xED) refl)
  second_byte true e true d =
      let g = leb-true 0xF0 p1 d in
      of_four g (four_two g (eqb p1 0xF0) refl (eqb p1 0xF4) refl)

-- a byte that is no tail stands between two characters
not_tail : (p3 p2 p1 b : ℕ) → Fits p3 p2 p1 b → leb 0x80 b && ltb b 0xC0 ≡ false → (p3 < 0xF0) × (p2 < 0xE0) × (p1 < 0xC0)
not_tail p3 p2 p1 b f e =
    let w = f.tail ∙ e in
    let v = or_left (leb 0xC0 p1 || leb 0xE0 p2) (leb 0xF0 p3) w in
    (leb-false 0xF0 p3 (or_right (leb 0xC0 p1 || leb 0xE0 p2) (leb 0xF0 p3) w), leb-false 0xE0 p2 (or_right (leb 0xC0 p1) (leb 0xE0 p2) v), leb-false 0xC0 p1 (or_left (leb 0xC0 p1) (leb 0xE0 p2) v))

no_tail : (b : ℕ) → 0xC0 ≤ b → leb 0x80 b && ltb b 0xC0 ≡ false
no_tail b h = rw (le-leb 0x80 b (omega arith), le-ltb b 0xC0 h)

pub before_lead : (p3 p2 p1 b : ℕ) → misfit p3 p2 p1 b ≡ false → 0xC0 ≤ b → trail p3 p2 p1 ≡ between
before_lead p3 p2 p1 b e h =
    let z = not_tail p3 p2 p1 b (fits_of p3 p2 p1 b e) (no_tail b h) in
    idle p3 p2 p1 z.0 z.1 z.2

-- the state after a byte that fits is told by it and the two before it
module _ (p3 p2 p1 b : ℕ) (f : Fits p3 p2 p1 b) (calm : 0xC0 ≤ p1 → p2 < 0xF0) where
  no_tail_step : leb 0x80 b && ltb b 0xC0 ≡ false → (t : Bool) → leb 0xC0 b ≡ t → next (trail p3 p2 p1) b ≡ trail p2 p1 b
  unfolding next
  no_tail_step e true d =
      let z = not_tail p3 p2 p1 b f e in
      rw (idle p3 p2 p1 z.0 z.1 z.2) (unfold trail in rw d)
  no_tail_step e false d =
      let z = not_tail p3 p2 p1 b f e in
      let l : b < 0x80 = low (leb 0x80 b) refl in
      rw (idle p3 p2 p1 z.0 z.1 z.2, first_ascii b l) (sym (idle p2 p1 b (omega arith) (omega arith) (omega arith)))
    where
      low : (t : Bool) → leb 0x80 b ≡ t → b < 0x80
      low false g = leb-false 0x80 b g
      low true g = let q = leb-false 0xC0 b d in absurd (true≢false ((rw (g, lt-ltb b 0xC0 q) at e)))

  tail_step : 0x80 ≤ b → b < 0xC0 → leb 0xC0 p1 || leb 0xE0 p2 || leb 0xF0 p3 ≡ true
      → (t : Bool) → leb 0xC0 p1 ≡ t → (u : Bool) → leb 0xE0 p2 ≡ u → (v : Bool) → leb 0xF0 p2 ≡ v → next (trail p3 p2 p1) b ≡ trail p2 p1 b
  unfolding next
  tail_step l h s true e u g v k =
      rw (trail_lead p3 p2 p1 (leb-true 0xC0 p1 e))
      (second_byte p3 p2 p1 b f (leb-true 0xC0 p1 e) (calm (leb-true 0xC0 p1 e)) l h (leb 0xE0 p1) refl (leb 0xF0 p1) refl)
  tail_step l h s false e true g true k =
      let q = leb-false 0xC0 p1 e in
      rw (trail_four p3 p2 p1 q (leb-true 0xF0 p2 k), inside 0x80 0xBF b l (omega arith), trail_tail p2 p1 b h, lt-leb 0xE0 p1 (omega arith), k)
  tail_step l h s false e true g false k =
      let q = leb-false 0xC0 p1 e in
      rw (trail_three p3 p2 p1 q (leb-true 0xE0 p2 g) (leb-false 0xF0 p2 k), inside 0x80 0xBF b l (omega arith), trail_tail p2 p1 b h, lt-leb 0xE0 p1 (omega arith), k)
  tail_step l h s false e false g v k =
      let q = leb-false 0xC0 p1 e in
      let r = leb-false 0xE0 p2 g in
      rw (trail_last p3 p2 p1 q r (rw (e, g) at s), inside 0x80 0xBF b l (omega arith), trail_tail p2 p1 b h, lt-leb 0xE0 p1 (omega arith), lt-leb 0xF0 p2 (omega arith))

  fit_step : next (trail p3 p2 p1) b ≡ trail p2 p1 b
  fit_step = go (leb 0x80 b && ltb b 0xC0) refl
    where
      go : (t : Bool) → leb 0x80 b && ltb b 0xC0 ≡ t → next (trail p3 p2 p1) b ≡ trail p2 p1 b
      go false e = no_tail_step e (leb 0xC0 b) refl
      go true e =
          tail_step (leb-true 0x80 b (and_left (leb 0x80 b) (ltb b 0xC0) e)) (ltb-true b 0xC0 (and_right (leb 0x80 b) (ltb b 0xC0) e)) (f.tail ∙ e)
          (leb 0xC0 p1) refl (leb 0xE0 p2) refl (leb 0xF0 p2) refl

-- ---- a block

-- where a reader stands after the `m` first bytes of the block
abbrev trail_at : List ℕ → ℕ → ℕ → State
trail_at t j m = trail (get_or t (j + m) 0) (get_or t (j + m + 1) 0) (get_or t (j + m + 2) 0)

module _ (t : List ℕ) (j : ℕ) (edge : Edge t j) (fitting : Fitting t j 32) (size : j + 35 ≤ length t) where
  fits_at : (m : ℕ) → m < 32 → Fits (get_or t (j + m) 0) (get_or t (j + m + 1) 0) (get_or t (j + m + 2) 0) (get_or t (j + m + 3) 0)
  fits_at m h = fits_of _ _ _ _ (fitting.fit m h)

  -- a first byte stands after no first byte of four
  calm_at : (m : ℕ) → m ≤ 32 → 0xC0 ≤ get_or t (j + m + 2) 0 → get_or t (j + m + 1) 0 < 0xF0
  calm_at zero h l = absurd (let q : j + 0 + 2 ≡ j + 2 = omega arith in let e = edge.last in let k = rw q at l in omega arith)
  calm_at (suc m) h l =
      let q : j + suc m + 2 ≡ j + m + 3 = omega arith in
      let r : j + suc m + 1 ≡ j + m + 2 = omega arith in
      let z = not_tail _ _ _ _ (fits_at m (omega arith)) (no_tail (get_or t (j + m + 3) 0) (rw q at l)) in
      let y : get_or t (j + m + 2) 0 < 0xC0 = z.2 in
      rw r (omega arith)

  block_after : (m : ℕ) → m ≤ 32 → after between (take m (drop (j + 3) t)) ≡ trail_at t j m
  unfolding after
  block_after zero h =
      let q : j + 0 ≡ j = omega arith in
      let e = edge in
      rw q (sym (idle (get_or t j 0) (get_or t (j + 1) 0) (get_or t (j + 2) 0) e.third e.second e.last))
  block_after (suc m) h =
      let q : j + 3 + m ≡ j + m + 3 = omega arith in
      let r : j + suc m ≡ j + m + 1 = omega arith in
      let r1 : j + m + 1 + 1 ≡ j + m + 2 = omega arith in
      let r2 : j + m + 1 + 2 ≡ j + m + 3 = omega arith in
      rw (sym (add-one m))
      (after_snoc between t (j + 3) m (omega arith)
      ∙ rw (block_after m (omega arith), q, add-one m, r, r1, r2) (fit_step _ _ _ _ (fits_at m (omega arith)) (calm_at m (omega arith))))

  ends : (m : ℕ) → m ≤ 32 → trail_at t j m ≡ between → Whole t (j + 3) m
  ends m h e = record { fits = omega arith; whole = unfold WellFormed in block_after m h ∙ e }

  pub ends_before : (m : ℕ) → m < 32 → 0xC0 ≤ get_or t (j + m + 3) 0 → Whole t (j + 3) m
  ends_before m h l = ends m (omega arith) (before_lead _ _ _ _ (fitting.fit m h) l)

  pub ends_after : get_or t (j + 32) 0 < 0xF0 → get_or t (j + 33) 0 < 0xE0 → get_or t (j + 34) 0 < 0xC0 → Whole t (j + 3) 32
  ends_after h3 h2 h1 =
      let q1 : j + 32 + 1 ≡ j + 33 = omega arith in
      let q2 : j + 32 + 2 ≡ j + 34 = omega arith in
      ends 32 (omega arith) (rw (q1, q2) (idle (get_or t (j + 32) 0) (get_or t (j + 33) 0) (get_or t (j + 34) 0) h3 h2 h1))

-- the test at the start of a block
pub edge_of : (t : List ℕ) (j : ℕ) → leb 0xC0 (get_or t (j + 2) 0) || leb 0xE0 (get_or t (j + 1) 0) || leb 0xF0 (get_or t j 0) ≡ false → Edge t j
edge_of t j e =
    let a = leb 0xC0 (get_or t (j + 2) 0) in
    let b = leb 0xE0 (get_or t (j + 1) 0) in
    let c = leb 0xF0 (get_or t j 0) in
    record { third = leb-false _ _ (or_right (a || b) c e); second = leb-false _ _ (or_right a b (or_left (a || b) c e)); last = leb-false _ _ (or_left a b (or_left (a || b) c e)) }
