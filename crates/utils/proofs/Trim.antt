-- Laws of the trims: what is left has no white space at that end, what is cut off is white space, UTF-8 is kept. Assumes nothing.
use mathlib.Core.Path.{◌≡◌, refl, sym, ◌∙◌, ap, subst}
use Prim.Native.Nat.{ℕ, zero, suc, ◌+◌, ◌-◌, ◌≤◌, ◌<◌}
use native.Mathlib.Omega.{arith}
use mathlib.Core.Bool.{Bool, true, false, ◌||◌}
use mathlib.Core.List.{List, [], ◌∷◌, reverse, reverse-append}
use lib.ListN.{length, take, drop, get_or, length-drop, drop_of_length-le}
use lib.Seq.{take-suc, take-length, get_or-drop}
use lib.Dec.{eqb, ltb}
use Rattle.text.specs.Bytes.{pick}
use Rattle.text.specs.Utf8.{WellFormed}
use Rattle.text.proofs.Utf8.{split_ascii}
use Rattle.text.proofs.Bytes.{contrary, pick_both}
use borrow.Author.Tests.{eqb-true, ltb-true, ltb-false}
use Rattle.utils.proofs.Rest.{byte_first, rest}
use Rattle.utils.specs.Trim.{is_whitespace, blanks, trim_start, trim_end, trim_spaces, part_of}
use Rattle.utils.specs.Blocks.{Blank, Skipped, kept, Dropped}
use Rattle.utils.specs.declared.Part.{Part}

-- ---- the start

-- a byte of white space is counted, and another ends the count
counted : (b : ℕ) (bs : List ℕ) → is_whitespace b ≡ true → blanks (b ∷ bs) ≡ suc (blanks bs)
unfolding blanks
counted b bs e = rw e

stopped : (b : ℕ) (bs : List ℕ) → is_whitespace b ≡ false → blanks (b ∷ bs) ≡ 0
unfolding blanks
stopped b bs e = rw e

module _ (t : List ℕ) (i : ℕ) where
  pub blank_on : i < length t → is_whitespace (get_or t i 0) ≡ true → i + blanks (drop i t) ≡ (i + 1) + blanks (drop (i + 1) t)
  blank_on h e = omega (arith, ap blanks (byte_first t i h), counted (get_or t i 0) (drop (i + 1) t) e)

  pub blank_stop : i < length t → is_whitespace (get_or t i 0) ≡ false → i + blanks (drop i t) ≡ i
  blank_stop h e = omega (arith, ap blanks (byte_first t i h), stopped (get_or t i 0) (drop (i + 1) t) e)

  pub blank_over : length t ≤ i → i + blanks (drop i t) ≡ i
  unfolding blanks
  blank_over h = omega (arith, ap blanks (drop_of_length-le t h))

-- by blocks
blank_past : (t : List ℕ) (i n : ℕ) → i + n ≤ length t → Blank t i n → i + blanks (drop i t) ≡ i + n + blanks (drop (i + n) t)
blank_past t i zero h c = let z : i ≡ i + 0 = omega arith in ap (λ (m : ℕ). m + blanks (drop m t)) z
blank_past t i (suc n) h c =
    let e : i + n + 1 ≡ i + suc n = omega arith in
    blank_past t i n (omega arith) (record { blank = λ k q. c.blank k (omega arith) })
    ∙ blank_on t (i + n) (omega arith) (c.blank n (omega arith))
    ∙ ap (λ (m : ℕ). m + blanks (drop m t)) e

pub skipped_block : (t : List ℕ) (i n : ℕ) → Skipped t i → i + n ≤ length t → Blank t i n → Skipped t (i + n)
skipped_block t i n p h c = record { fits = h; same = sym (blank_past t i n h c) ∙ p.same }

pub start_at : (t : List ℕ) (i : ℕ) → i ≡ blanks t → record { start = i; length = length t - i } ≡ trim_start t
unfolding trim_start
start_at t i e = ap (λ (n : ℕ). record { start = n; length = length t - n }) e

pub start_none : (t : List ℕ) → length t ≡ blanks t → record { start = length t; length = 0 } ≡ trim_start t
start_none t e =
    let none : 0 ≡ length t - length t = omega arith in
    ap (λ (n : ℕ). record { start = length t; length = n }) none ∙ start_at t (length t) e

-- ---- the end

module _ (t : List ℕ) (n : ℕ) (h : n < length t) where
  backwards : reverse (take (suc n) t) ≡ get_or t n 0 ∷ reverse (take n t)
  backwards = rw (take-suc t n 0 h) (reverse-append (take n t) (get_or t n 0 ∷ []))

  kept_suc : is_whitespace (get_or t n 0) ≡ true → kept t (suc n) ≡ kept t n
  kept_suc e = omega (arith, ap blanks backwards, counted (get_or t n 0) (reverse (take n t)) e)

  kept_all : is_whitespace (get_or t n 0) ≡ false → kept t (suc n) ≡ suc n
  kept_all e = omega (arith, ap blanks backwards, stopped (get_or t n 0) (reverse (take n t)) e)

module _ (t : List ℕ) (e : ℕ) (p : 0 < e) (h : e ≤ length t) where
  before : e ≡ suc (e - 1)
  before = omega arith

  pub kept_on : is_whitespace (get_or t (e - 1) 0) ≡ true → kept t e ≡ kept t (e - 1)
  kept_on w = ap (kept t) before ∙ kept_suc t (e - 1) (omega arith) w

  pub kept_stop : is_whitespace (get_or t (e - 1) 0) ≡ false → kept t e ≡ e
  kept_stop w = ap (kept t) before ∙ kept_all t (e - 1) (omega arith) w ∙ sym before

-- by blocks
kept_past : (t : List ℕ) (e n : ℕ) → n ≤ e → e ≤ length t → Blank t (e - n) n → kept t e ≡ kept t (e - n)
kept_past t e zero p h c = let z : e ≡ e - 0 = omega arith in ap (kept t) z
kept_past t e (suc n) p h c =
    let x : e - suc n + 0 ≡ e - n - 1 = omega arith in
    let y : e - n - 1 ≡ e - suc n = omega arith in
    kept_past t e n (omega arith) h
    (record { blank = λ k q. let z : e - suc n + (k + 1) ≡ e - n + k = omega arith in ap (λ (i : ℕ). is_whitespace (get_or t i 0)) (sym z) ∙ c.blank (k + 1) (omega arith) })
    ∙ kept_on t (e - n) (omega arith) (omega arith) (ap (λ (i : ℕ). is_whitespace (get_or t i 0)) (sym x) ∙ c.blank 0 (omega arith))
    ∙ ap (kept t) y

pub dropped_block : (t : List ℕ) (e n : ℕ) → Dropped t e → n ≤ e → Blank t (e - n) n → Dropped t (e - n)
dropped_block t e n p h c = record { fits = omega (arith, p.fits); same = sym (kept_past t e n h p.fits c) ∙ p.same }

kept_whole : (t : List ℕ) → kept t (length t) ≡ length t - blanks (reverse t)
kept_whole t = ap (λ (u : List ℕ). length t - blanks (reverse u)) (take-length t)

pub end_at : (t : List ℕ) (e : ℕ) → e ≡ length t - blanks (reverse t) → record { start = 0; length = e } ≡ trim_end t
unfolding trim_end
end_at t e q = ap (λ (n : ℕ). record { start = 0; length = n }) q

-- ---- both

pub blanks_le : (t : List ℕ) → blanks t ≤ length t
unfolding blanks
blanks_le [] = omega arith
blanks_le (b ∷ bs) = pick_both (λ (n : ℕ). n ≤ suc (length bs)) (is_whitespace b) {a = suc (blanks bs)} {b = 0} (omega (arith, blanks_le bs)) (omega arith)

pub start_fits : (t : List ℕ) (p : Part) → p ≡ trim_start t → p.start ≤ length t
unfolding trim_start
start_fits t p e = omega (arith, ap (λ (q : Part). q.start) e, blanks_le t)

module _ (t : List ℕ) (p q : Part) where
  pub spaces_at : p ≡ trim_start t → q ≡ trim_end (take (length t - p.start) (drop p.start t))
      → record { start = p.start; length = q.length } ≡ trim_spaces t
  unfolding trim_spaces trim_start
  spaces_at e f =
      ap (λ (r : Part). record { start = p.start; length = r.length }) (f ∙ ap trim_end (rest t p.start))
      ∙ ap (λ (r : Part). record { start = r.start; length = (trim_end (drop r.start t)).length }) e

-- ---- what the trims leave and cut off

-- the part begins with no white space, and nothing else stands before it
pub record TrimmedStart (t : List ℕ) (p : Part) : Type 0 where
  pub first : 0 < p.length → is_whitespace (get_or t p.start 0) ≡ false
  pub cut : (i : ℕ) → i < p.start → is_whitespace (get_or t i 0) ≡ true

-- the part ends with no white space, and nothing else stands behind it
pub record TrimmedEnd (t : List ℕ) (p : Part) : Type 0 where
  pub last : 0 < p.length → is_whitespace (get_or t (p.start + p.length - 1) 0) ≡ false
  pub cut : (i : ℕ) → p.start + p.length ≤ i → i < length t → is_whitespace (get_or t i 0) ≡ true

first_black : (t : List ℕ) → blanks t < length t → is_whitespace (get_or t (blanks t) 0) ≡ false
unfolding blanks
first_black [] h = absurd (omega arith)
first_black (b ∷ bs) h = go (is_whitespace b) refl (first_black bs) h
  where
    go : (w : Bool) → is_whitespace b ≡ w → (blanks bs < length bs → is_whitespace (get_or bs (blanks bs) 0) ≡ false)
        → pick w (suc (blanks bs)) 0 < suc (length bs) → is_whitespace (get_or (b ∷ bs) (pick w (suc (blanks bs)) 0) 0) ≡ false
    go true e ih k = ih (omega arith)
    go false e ih k = e

before_white : (t : List ℕ) (i : ℕ) → i < blanks t → is_whitespace (get_or t i 0) ≡ true
unfolding blanks
before_white [] i h = absurd (omega arith)
before_white (b ∷ bs) i h = go (is_whitespace b) refl i (before_white bs) h
  where
    go : (w : Bool) → is_whitespace b ≡ w → (i : ℕ) → ((i : ℕ) → i < blanks bs → is_whitespace (get_or bs i 0) ≡ true)
        → i < pick w (suc (blanks bs)) 0 → is_whitespace (get_or (b ∷ bs) i 0) ≡ true
    go true e zero ih k = e
    go true e (suc i) ih k = ih i (omega arith)
    go false e i ih k = absurd (omega arith)

-- of the first `e` bytes, `k` are kept
record Kept (t : List ℕ) (e k : ℕ) : Type 0 where
  last : 0 < k → is_whitespace (get_or t (k - 1) 0) ≡ false
  cut : (i : ℕ) → k ≤ i → i < e → is_whitespace (get_or t i 0) ≡ true
  fits : k ≤ e
  whole : WellFormed (take e t) → WellFormed (take k t)

white_ascii : (b : ℕ) → is_whitespace b ≡ true → b < 0x80
white_ascii b e = go (eqb b 32) (eqb b 9) (eqb b 13) (eqb b 10) refl refl refl refl e
  where
    go : (p q r s : Bool) → eqb b 32 ≡ p → eqb b 9 ≡ q → eqb b 13 ≡ r → eqb b 10 ≡ s → p || q || r || s ≡ true → b < 0x80
    go true q r s f g h k w = omega (arith, eqb-true b 32 f)
    go false true r s f g h k w = omega (arith, eqb-true b 9 g)
    go false false true s f g h k w = omega (arith, eqb-true b 13 h)
    go false false false true f g h k w = omega (arith, eqb-true b 10 k)
    go false false false false f g h k w = contrary w refl

cut_more : (t : List ℕ) (n k : ℕ) → is_whitespace (get_or t n 0) ≡ true → ((i : ℕ) → k ≤ i → i < n → is_whitespace (get_or t i 0) ≡ true)
    → (i : ℕ) → k ≤ i → i < suc n → is_whitespace (get_or t i 0) ≡ true
cut_more t n k e f i p q = go (ltb i n) refl
  where
    go : (w : Bool) → ltb i n ≡ w → is_whitespace (get_or t i 0) ≡ true
    go true r = f i p (ltb-true i n r)
    go false r = let z : i ≡ n = omega (arith, ltb-false i n r) in rw z e

kept_is : (t : List ℕ) (e : ℕ) → e ≤ length t → Kept t e (kept t e)
unfolding blanks
kept_is t zero h = record { last = λ p. absurd (omega arith); cut = λ i p q. absurd (omega arith); fits = omega arith; whole = λ w. w }
kept_is t (suc n) h = go (is_whitespace (get_or t n 0)) refl (kept_is t n (omega arith))
  where
    go : (w : Bool) → is_whitespace (get_or t n 0) ≡ w → Kept t n (kept t n) → Kept t (suc n) (kept t (suc n))
    go true e ih = rw (kept_suc t n (omega arith) e) (record {
      last = ih.last;
      cut = cut_more t n (kept t n) e ih.cut;
      fits = omega (arith, ih.fits);
      whole = λ w. ih.whole (split_ascii (take n t) [] (get_or t n 0) (white_ascii (get_or t n 0) e) (rw (take-suc t n 0 (omega arith)) at w)).0;
    })
    go false e ih = rw (kept_all t n (omega arith) e) (record { last = λ p. let z : suc n - 1 ≡ n = omega arith in rw z e; cut = λ i p q. absurd (omega arith); fits = omega arith; whole = λ w. w })

-- The start trimmed: the part begins with no white space, and only white space is cut off.
pub trim_start_lem : (t : List ℕ) → TrimmedStart t (trim_start t)
unfolding trim_start
trim_start_lem t = record { first = λ p. first_black t (omega (arith, blanks_le t)); cut = before_white t }

-- The start trimmed: the part ends where the text ends.
pub trim_start_fits : (t : List ℕ) → (trim_start t).start + (trim_start t).length ≡ length t
unfolding trim_start
trim_start_fits t = omega (arith, blanks_le t)

-- what is kept of the text from `s` on
rest_kept : (u : List ℕ) → Kept u (length u) (trim_end u).length
unfolding trim_end
rest_kept u = rw (kept_whole u) at (kept_is u (length u) (omega arith))

trimmed_end : (t : List ℕ) (s k : ℕ) → Kept (drop s t) (length (drop s t)) k → TrimmedEnd t (record { start = s; length = k })
trimmed_end t s k h = record {
  last = λ p.
      let e : s + k - 1 ≡ s + (k - 1) = omega arith in
      ap (λ (i : ℕ). is_whitespace (get_or t i 0)) e ∙ ap is_whitespace (sym (get_or-drop s t (k - 1) 0)) ∙ h.last p;
  cut = λ i p q.
      let e : i ≡ s + (i - s) = omega arith in
      ap (λ (n : ℕ). is_whitespace (get_or t n 0)) e ∙ ap is_whitespace (sym (get_or-drop s t (i - s) 0))
      ∙ h.cut (i - s) (omega arith) (omega (arith, length-drop s t));
}

-- The end trimmed: the part ends with no white space, and only white space is cut off.
pub trim_end_lem : (t : List ℕ) → TrimmedEnd t (trim_end t)
unfolding trim_end
trim_end_lem t = trimmed_end t 0 (length t - blanks (reverse t)) (rest_kept t)

-- The end trimmed: the part lies in the text.
pub trim_end_fits : (t : List ℕ) → (trim_end t).start + (trim_end t).length ≤ length t
unfolding trim_end
trim_end_fits t = omega arith

-- Both ends trimmed: the part ends with no white space, and only white space is cut off there.
pub trim_spaces_end : (t : List ℕ) → TrimmedEnd t (trim_spaces t)
unfolding trim_spaces
trim_spaces_end t = trimmed_end t (blanks t) (trim_end (drop (blanks t) t)).length (rest_kept (drop (blanks t) t))

-- Both ends trimmed: the part lies in the text.
pub trim_spaces_fits : (t : List ℕ) → (trim_spaces t).start + (trim_spaces t).length ≤ length t
unfolding trim_spaces
trim_spaces_fits t = omega (arith, (rest_kept (drop (blanks t) t)).fits, length-drop (blanks t) t, blanks_le t)

-- Both ends trimmed: the part begins with no white space, and only white space is cut off there.
pub trim_spaces_start : (t : List ℕ) → TrimmedStart t (trim_spaces t)
unfolding trim_spaces
trim_spaces_start t = record {
  first = λ p. first_black t (omega (arith, (rest_kept (drop (blanks t) t)).fits, length-drop (blanks t) t, blanks_le t));
  cut = before_white t;
}

-- ---- UTF-8

drop_blanks : (t : List ℕ) → WellFormed t → WellFormed (drop (blanks t) t)
unfolding blanks
drop_blanks [] w = w
drop_blanks (b ∷ bs) w = go (is_whitespace b) refl (drop_blanks bs)
  where
    go : (v : Bool) → is_whitespace b ≡ v → (WellFormed bs → WellFormed (drop (blanks bs) bs)) → WellFormed (drop (pick v (suc (blanks bs)) 0) (b ∷ bs))
    go true e ih = ih (split_ascii [] bs b (white_ascii b e) w).1
    go false e ih = w

end_whole : (u : List ℕ) → WellFormed u → WellFormed (take (trim_end u).length u)
end_whole u w = (rest_kept u).whole (subst WellFormed (sym (take-length u)) w)

-- The start of a UTF-8 text trimmed: the part is UTF-8.
pub trim_start_whole : (t : List ℕ) → WellFormed t → WellFormed (part_of t (trim_start t))
unfolding trim_start
trim_start_whole t w = rw (rest t (blanks t)) (drop_blanks t w)

-- The end of a UTF-8 text trimmed: the part is UTF-8.
pub trim_end_whole : (t : List ℕ) → WellFormed t → WellFormed (part_of t (trim_end t))
unfolding trim_end
trim_end_whole t w = end_whole t w

-- Both ends of a UTF-8 text trimmed: the part is UTF-8.
pub trim_spaces_whole : (t : List ℕ) → WellFormed t → WellFormed (part_of t (trim_spaces t))
unfolding trim_spaces
trim_spaces_whole t w = end_whole (drop (blanks t) t) (drop_blanks t w)
