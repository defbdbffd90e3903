-- Names: how they go on, character by character (`chars_on`), and that line ends leave them (`name_past`). Assumes nothing.
use mathlib.Core.Path.{◌≡◌, refl, sym, ap, ap₂, ◌∙◌, subst}
use mathlib.Core.Bool.{Bool}
use mathlib.Core.List.{List, [], ◌∷◌, ◌++◌, append_assoc}
use Prim.Native.Nat.{ℕ, zero, suc, ◌+◌, ◌-◌, ◌≤◌, ◌<◌}
use native.Mathlib.Omega.{arith}
use native.Mathlib.Nat.{le_refl}
use lib.ListN.{length, take, drop, get_or, length-drop, drop_of_length-le}
use lib.Seq.{length-take-le, drop-drop, take-nil}
use Rattle.text.specs.Version.{Rule, xml10}
use Rattle.text.proofs.Patterns.{at_head}
use Rattle.eols.specs.LineEnds.{eols_from}
use Rattle.eols.specs.Stops.{rule_for}
use Rattle.table_names.specs.NameChars.{is_name_start, is_name_char, char_width, name_chars, name_length}
use Rattle.table_names.specs.NameTerms.{left}
use Rattle.table_names.proofs.CharWidths.{Past, width_past, width_kept}

pub start_past : Past is_name_start
unfolding is_name_start
start_past = record { lf = refl; cr = refl; next_line = refl; line_separator = refl }

pub char_past : Past is_name_char
unfolding is_name_char
char_past = record { lf = refl; cr = refl; next_line = refl; line_separator = refl }

-- ---- how name characters go on

pub chars_skip : (w : ℕ) (bs : List ℕ) → w ≤ length bs → name_chars w bs ≡ w + name_chars 0 (drop w bs)
chars_skip zero bs h = omega arith
chars_skip (suc w) [] h = absurd (omega arith)
chars_skip (suc w) (b ∷ bs) h = unfolded ∙ ap suc (chars_skip w bs (omega arith)) ∙ omega arith
  where
    unfolded : name_chars (suc w) (b ∷ bs) ≡ suc (name_chars w bs)
    unfolded = unfold name_chars in refl

chars_front : (front rest : List ℕ) → name_chars (length front) (front ++ rest) ≡ length front + name_chars 0 rest
chars_front [] rest = omega arith
chars_front (b ∷ front) rest = unfolded ∙ ap suc (chars_front front rest) ∙ omega arith
  where
    unfolded : name_chars (suc (length front)) (b ∷ (front ++ rest)) ≡ suc (name_chars (length front) (front ++ rest))
    unfolded = unfold name_chars in refl

pub chars_none : (b : ℕ) (bs : List ℕ) → char_width is_name_char (b ∷ bs) ≡ 0 → name_chars 0 (b ∷ bs) ≡ 0
unfolding name_chars
chars_none b bs e = rw (e, name_chars)

pub chars_some : (b w : ℕ) (bs : List ℕ) → char_width is_name_char (b ∷ bs) ≡ suc w → name_chars 0 (b ∷ bs) ≡ suc (name_chars w bs)
unfolding name_chars
chars_some b w bs e = rw (e, name_chars)

pub chars_nothing : name_chars 0 [] ≡ 0
unfolding name_chars
chars_nothing = refl

pub length_none : (b : ℕ) (bs : List ℕ) → char_width is_name_start (b ∷ bs) ≡ 0 → name_length (b ∷ bs) ≡ 0
unfolding name_length
length_none b bs e = rw (e, name_length)

pub length_some : (b w : ℕ) (bs : List ℕ) → char_width is_name_start (b ∷ bs) ≡ suc w → name_length (b ∷ bs) ≡ suc (name_chars w bs)
unfolding name_length
length_some b w bs e = rw (e, name_length)

pub length_nothing : name_length [] ≡ 0
unfolding name_length
length_nothing = refl

-- ---- at a place of the text

module _ (r : Rule) (t : List ℕ) (i : ℕ) (h : i < length t) where
  pub chars_stop : {w : ℕ} → w ≡ char_width is_name_char (drop i t) → w ≡ 0 → name_chars 0 (drop i t) ≡ 0
  chars_stop e z = ap (name_chars 0) (at_head t i h) ∙ chars_none (get_or t i 0) (drop (i + 1) t) (sym (ap (char_width is_name_char) (at_head t i h)) ∙ sym e ∙ z)

  pub length_stop : {w : ℕ} → w ≡ char_width is_name_start (drop i t) → w ≡ 0 → name_length (drop i t) ≡ 0
  length_stop e z = ap name_length (at_head t i h) ∙ length_none (get_or t i 0) (drop (i + 1) t) (sym (ap (char_width is_name_start) (at_head t i h)) ∙ sym e ∙ z)

  pub record On (whole w : ℕ) : Type 0 where
    pub fits : i + w ≤ length t
    pub on : whole ≡ w + name_chars 0 (drop (i + w) t)

  pub chars_on : (w : ℕ) → w ≡ char_width is_name_char (drop i t) → (w ≡ 0 → ⊥) → On (name_chars 0 (drop i t)) w
  chars_on zero e n = absurd (n refl)
  chars_on (suc w) e n =
      let b = get_or t i 0 in
      let bs = drop (i + 1) t in
      let f : char_width is_name_char (b ∷ bs) ≡ suc w = sym (ap (char_width is_name_char) (at_head t i h)) ∙ sym e in
      let s = (width_kept is_name_char char_past r b w bs f).fits in
      let d : drop w bs ≡ drop (i + suc w) t = drop-drop w (i + 1) t ∙ ap (λ (k : ℕ). drop k t) {x = i + 1 + w} {y = i + suc w} (omega arith) in
      record {
        fits = omega (arith, s, length-drop (i + 1) t);
        on =
            ap (name_chars 0) (at_head t i h) ∙ chars_some b w bs f ∙ ap suc (chars_skip w bs s) ∙ ap (λ (l : List ℕ). suc (w + name_chars 0 l)) d ∙ omega arith;
      }

  pub length_on : (w : ℕ) → w ≡ char_width is_name_start (drop i t) → (w ≡ 0 → ⊥) → On (name_length (drop i t)) w
  length_on zero e n = absurd (n refl)
  length_on (suc w) e n =
      let b = get_or t i 0 in
      let bs = drop (i + 1) t in
      let f : char_width is_name_start (b ∷ bs) ≡ suc w = sym (ap (char_width is_name_start) (at_head t i h)) ∙ sym e in
      let s = (width_kept is_name_start start_past r b w bs f).fits in
      let d : drop w bs ≡ drop (i + suc w) t = drop-drop w (i + 1) t ∙ ap (λ (k : ℕ). drop k t) {x = i + 1 + w} {y = i + suc w} (omega arith) in
      record {
        fits = omega (arith, s, length-drop (i + 1) t);
        on =
            ap name_length (at_head t i h) ∙ length_some b w bs f ∙ ap suc (chars_skip w bs s) ∙ ap (λ (l : List ℕ). suc (w + name_chars 0 l)) d ∙ omega arith;
      }

pub chars_over : (t : List ℕ) (i : ℕ) → length t ≤ i → name_chars 0 (drop i t) ≡ 0
chars_over t i h = ap (name_chars 0) (drop_of_length-le t h) ∙ chars_nothing

pub length_over : (t : List ℕ) (i : ℕ) → length t ≤ i → name_length (drop i t) ≡ 0
length_over t i h = ap name_length (drop_of_length-le t h) ∙ length_nothing

-- ---- names and line ends

-- so many bytes at the head are the same after line ends
pub record Same (r : Rule) (n : ℕ) (xs : List ℕ) : Type 0 where
  pub fits : n ≤ length xs
  pub kept : eols_from r 0 xs ≡ take n xs ++ eols_from r 0 (drop n xs)

same_none : (r : Rule) (xs : List ℕ) → Same r 0 xs
same_none r xs = record { fits = omega arith; kept = refl }

pub take_more : (w n : ℕ) (bs : List ℕ) → take w bs ++ take n (drop w bs) ≡ take (w + n) bs
take_more zero n bs = ap (λ (k : ℕ). take k bs) {x = n} {y = 0 + n} (omega arith)
take_more (suc w) n [] = take-nil n ∙ sym (take-nil (suc w + n))
take_more (suc w) n (b ∷ bs) = ap (λ (l : List ℕ). b ∷ l) (take_more w n bs) ∙ ap (λ (k : ℕ). take k (b ∷ bs)) {x = suc (w + n)} {y = suc w + n} (omega arith)

same_more : (r : Rule) (b w n : ℕ) (bs : List ℕ) → w ≤ length bs → eols_from r 0 (b ∷ bs) ≡ b ∷ (take w bs ++ eols_from r 0 (drop w bs)) → Same r n (drop w bs) → Same r (suc (w + n)) (b ∷ bs)
same_more r b w n bs h k s =
    record {
      fits = omega (arith, s.fits, length-drop w bs);
      kept =
          k
          ∙ ap (λ (l : List ℕ). b ∷ (take w bs ++ l)) (s.kept ∙ ap (λ (l : List ℕ). take n (drop w bs) ++ eols_from r 0 l) (drop-drop n w bs))
          ∙ ap (λ (l : List ℕ). b ∷ l) (sym (append_assoc (take w bs) (take n (drop w bs)) (eols_from r 0 (drop (w + n) bs))))
          ∙ ap (λ (l : List ℕ). b ∷ (l ++ eols_from r 0 (drop (w + n) bs))) (take_more w n bs);
    }

pub record NamePast (r : Rule) (n m : ℕ) (xs : List ℕ) : Type 0 where
  pub equal : m ≡ n
  pub same : Same r n xs

-- the same of lists
none_past : (b : ℕ) (bs ys : List ℕ) → char_width is_name_char ys ≡ char_width is_name_char (b ∷ bs) → char_width is_name_char (b ∷ bs) ≡ 0 → name_chars 0 ys ≡ name_chars 0 (b ∷ bs)
none_past b bs [] e f = chars_nothing ∙ sym (chars_none b bs f)
none_past b bs (c ∷ cs) e f = chars_none c cs (e ∙ f) ∙ sym (chars_none b bs f)

length_none_past : (b : ℕ) (bs ys : List ℕ) → char_width is_name_start ys ≡ char_width is_name_start (b ∷ bs) → char_width is_name_start (b ∷ bs) ≡ 0 → name_length ys ≡ name_length (b ∷ bs)
length_none_past b bs [] e f = length_nothing ∙ sym (length_none b bs f)
length_none_past b bs (c ∷ cs) e f = length_none c cs (e ∙ f) ∙ sym (length_none b bs f)

module _ (r : Rule) where
  -- after a character that stands there whole
  rest_past : (b w : ℕ) (bs : List ℕ) → w ≤ length bs → name_chars 0 (eols_from r 0 (drop w bs)) ≡ name_chars 0 (drop w bs) → name_chars w (take w bs ++ eols_from r 0 (drop w bs)) ≡ name_chars w bs
  rest_past b w bs h e =
      let n = length-take-le w bs h in
      ap (λ (k : ℕ). name_chars k (take w bs ++ eols_from r 0 (drop w bs))) (sym n)
      ∙ chars_front (take w bs) (eols_from r 0 (drop w bs))
      ∙ ap₂ (λ (k m : ℕ). k + m) n e
      ∙ sym (chars_skip w bs h)

  chars_nil : NamePast r (name_chars 0 []) (name_chars 0 (eols_from r 0 [])) []
  chars_nil = record { equal = ap (name_chars 0) (unfold eols_from in refl); same = subst (λ (n : ℕ). Same r n []) (sym chars_nothing) (same_none r []) }

  chars_zero : (xs : List ℕ) → length xs ≤ 0 → NamePast r (name_chars 0 xs) (name_chars 0 (eols_from r 0 xs)) xs
  chars_zero [] h = chars_nil
  chars_zero (b ∷ bs) h = absurd (omega arith)

  chars_turn : (k : ℕ) → ((ys : List ℕ) → length ys ≤ k → NamePast r (name_chars 0 ys) (name_chars 0 (eols_from r 0 ys)) ys) → (xs : List ℕ) → length xs ≤ suc k
      → NamePast r (name_chars 0 xs) (name_chars 0 (eols_from r 0 xs)) xs
  chars_turn k again [] h = chars_nil
  chars_turn k again (b ∷ bs) h = go (char_width is_name_char (b ∷ bs)) refl
    where
      go : (w : ℕ) → char_width is_name_char (b ∷ bs) ≡ w → NamePast r (name_chars 0 (b ∷ bs)) (name_chars 0 (eols_from r 0 (b ∷ bs))) (b ∷ bs)
      go zero e =
          record {
            equal = none_past b bs (eols_from r 0 (b ∷ bs)) (width_past is_name_char char_past r (b ∷ bs)) e;
            same = subst (λ (n : ℕ). Same r n (b ∷ bs)) (sym (chars_none b bs e)) (same_none r (b ∷ bs));
          }
      go (suc w) e =
          let s = width_kept is_name_char char_past r b w bs e in
          let ih = again (drop w bs) (omega (arith, length-drop w bs, h)) in
          let f : char_width is_name_char (b ∷ (take w bs ++ eols_from r 0 (drop w bs))) ≡ suc w = sym (ap (char_width is_name_char) s.kept) ∙ width_past is_name_char char_past r (b ∷ bs) ∙ e in
          let n : name_chars 0 (b ∷ bs) ≡ suc (w + name_chars 0 (drop w bs)) = chars_some b w bs e ∙ ap suc (chars_skip w bs s.fits) in
          record {
            equal =
                ap (name_chars 0) s.kept ∙ chars_some b w (take w bs ++ eols_from r 0 (drop w bs)) f
                ∙ ap suc (rest_past b w bs s.fits ih.equal) ∙ sym (chars_some b w bs e);
            same = subst (λ (m : ℕ). Same r m (b ∷ bs)) (sym n) (same_more r b w (name_chars 0 (drop w bs)) bs s.fits s.kept ih.same);
          }

  chars_past : (k : ℕ) (xs : List ℕ) → length xs ≤ k → NamePast r (name_chars 0 xs) (name_chars 0 (eols_from r 0 xs)) xs
  chars_past zero xs h = chars_zero xs h
  chars_past (suc k) xs h = chars_turn k (λ ys l. chars_past k ys l) xs h

  length_past : (xs : List ℕ) → NamePast r (name_length xs) (name_length (eols_from r 0 xs)) xs
  length_past [] = record { equal = ap name_length (unfold eols_from in refl); same = subst (λ (n : ℕ). Same r n []) (sym length_nothing) (same_none r []) }
  length_past (b ∷ bs) = go (char_width is_name_start (b ∷ bs)) refl
    where
      go : (w : ℕ) → char_width is_name_start (b ∷ bs) ≡ w → NamePast r (name_length (b ∷ bs)) (name_length (eols_from r 0 (b ∷ bs))) (b ∷ bs)
      go zero e =
          record {
            equal = length_none_past b bs (eols_from r 0 (b ∷ bs)) (width_past is_name_start start_past r (b ∷ bs)) e;
            same = subst (λ (n : ℕ). Same r n (b ∷ bs)) (sym (length_none b bs e)) (same_none r (b ∷ bs));
          }
      go (suc w) e =
          let s = width_kept is_name_start start_past r b w bs e in
          let ih = chars_past (length (drop w bs)) (drop w bs) (le_refl (length (drop w bs))) in
          let f : char_width is_name_start (b ∷ (take w bs ++ eols_from r 0 (drop w bs))) ≡ suc w = sym (ap (char_width is_name_start) s.kept) ∙ width_past is_name_start start_past r (b ∷ bs) ∙ e in
          let n : name_length (b ∷ bs) ≡ suc (w + name_chars 0 (drop w bs)) = length_some b w bs e ∙ ap suc (chars_skip w bs s.fits) in
          record {
            equal =
                ap name_length s.kept ∙ length_some b w (take w bs ++ eols_from r 0 (drop w bs)) f
                ∙ ap suc (rest_past b w bs s.fits ih.equal) ∙ sym (length_some b w bs e);
            same = subst (λ (m : ℕ). Same r m (b ∷ bs)) (sym n) (same_more r b w (name_chars 0 (drop w bs)) bs s.fits s.kept ih.same);
          }

-- at a place: the name that ends at `e` is the name of what is left, and lies there as it stands
pub record NameAt (newer : Bool) (t : List ℕ) (i e : ℕ) : Type 0 where
  pub from : i ≤ e
  pub to : e ≤ length t
  pub size : name_length (left newer t i) ≡ e - i
  pub kept : left newer t i ≡ take (e - i) (drop i t) ++ left newer t e

pub name_past : (newer : Bool) (t : List ℕ) (i e : ℕ) → i ≤ length t → e ≡ i + name_length (drop i t) → NameAt newer t i e
name_past newer t i e h q =
    let p = length_past (rule_for newer) (drop i t) in
    let n : name_length (drop i t) ≡ e - i = omega (arith, q) in
    let k : i + name_length (drop i t) ≡ e = sym q in
    record {
      from = omega (arith, q);
      to = omega (arith, q, p.same.fits, length-drop i t);
      size = p.equal ∙ n;
      kept =
          p.same.kept ∙ ap (λ (l : List ℕ). take (name_length (drop i t)) (drop i t) ++ eols_from (rule_for newer) 0 l) (drop-drop (name_length (drop i t)) i t)
          ∙ ap₂ (λ (a b : ℕ). take a (drop i t) ++ left newer t b) n k;
    }

-- a name lies in the text
pub name_fits : (t : List ℕ) → name_length t ≤ length t
name_fits t = (length_past xml10 t).same.fits
