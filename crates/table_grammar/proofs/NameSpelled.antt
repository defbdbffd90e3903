-- Names: what is read is one of the standard's (`name_spelled`), and each of these is read, where no name character follows (`name_taken`).
-- Assumes nothing.
use mathlib.Core.Path.{◌≡◌, refl, sym, ap, ap₂, subst, ◌∙◌}
use mathlib.Core.Bool.{Bool, true, false}
use mathlib.Core.List.{List, [], ◌∷◌, ◌++◌, append_assoc}
use Prim.Native.Nat.{ℕ, zero, suc, ◌+◌, ◌≤◌}
use native.Mathlib.Omega.{arith}
use native.Mathlib.Nat.{le_refl}
use lib.ListN.{length, take, drop, length-append, length-drop}
use lib.Seq.{take-nil, drop-append_seam, take-append_seam}
use Rattle.text.specs.Version.{xml10}
use Rattle.charref.specs.CharRef.{encode}
use Rattle.charref.proofs.Encoding.{encode_at_least}
use Rattle.table_names.specs.NameChars.{is_name_start, is_name_char, char_width, name_chars, name_length}
use Rattle.table_names.proofs.CharWidths.{width_kept}
use Rattle.table_names.proofs.NamesPast.{start_past, char_past, chars_skip, chars_none, chars_some, length_none, length_some, length_nothing, take_more}
use Rattle.table_names.proofs.WideNames.{Scalar, name_scalar}
use Rattle.table_names.proofs.Spelled.{width_spelled, width_encoded}
use Rattle.table_grammar.specs.EntityValue.{read, name, name_of}
use Rattle.table_grammar.specs.Productions.{NameChars, no_char, name_char, Name, name_start}

start_scalar : Scalar is_name_start
start_scalar = name_scalar true

char_scalar : Scalar is_name_char
char_scalar = name_scalar false

-- ---- what is read

-- a character that passes, and name characters behind it
with_char : (test : ℕ → Bool) (s : Scalar test) (b w n : ℕ) (bs : List ℕ) → char_width test (b ∷ bs) ≡ suc w → (P : List ℕ → Type 0)
    → ((c : ℕ) → test c ≡ true → P (encode c ++ take n (drop w bs))) → P (take (suc w + n) (b ∷ bs))
with_char test s b w n bs e P f =
    let x = width_spelled test s b w bs e in
    subst P (ap (λ (l : List ℕ). l ++ take n (drop w bs)) (sym x.bytes) ∙ take_more (suc w) n (b ∷ bs)) (f x.number x.passed)

chars_turn : (k : ℕ) → ((ys : List ℕ) → length ys ≤ k → NameChars (take (name_chars 0 ys) ys)) → (xs : List ℕ) → length xs ≤ suc k
    → NameChars (take (name_chars 0 xs) xs)
chars_turn k again [] h = subst NameChars (sym (take-nil (name_chars 0 []))) no_char
chars_turn k again (b ∷ bs) h = go (char_width is_name_char (b ∷ bs)) refl
  where
    go : (w : ℕ) → char_width is_name_char (b ∷ bs) ≡ w → NameChars (take (name_chars 0 (b ∷ bs)) (b ∷ bs))
    go zero e = subst (λ (n : ℕ). NameChars (take n (b ∷ bs))) (sym (chars_none b bs e)) no_char
    go (suc w) e =
        let n = name_chars 0 (drop w bs) in
        let q : name_chars 0 (b ∷ bs) ≡ suc w + n = chars_some b w bs e ∙ ap suc (chars_skip w bs (width_kept is_name_char char_past xml10 b w bs e).fits) ∙ omega arith in
        subst (λ (m : ℕ). NameChars (take m (b ∷ bs))) (sym q)
        (with_char is_name_char char_scalar b w n bs e NameChars (λ c p. name_char c (take n (drop w bs)) p (again (drop w bs) (omega (arith, length-drop w bs, h)))))

chars_by : (k : ℕ) (xs : List ℕ) → length xs ≤ k → NameChars (take (name_chars 0 xs) xs)
chars_by zero [] h = subst NameChars (sym (take-nil (name_chars 0 []))) no_char
chars_by zero (b ∷ bs) h = absurd (omega arith)
chars_by (suc k) xs h = chars_turn k (λ ys l. chars_by k ys l) xs h

-- [5]: the bytes of a name that is read
pub name_spelled : (t : List ℕ) (n : ℕ) → name_length t ≡ suc n → Name (take (suc n) t)
name_spelled [] n e = absurd (omega (arith, sym length_nothing ∙ e))
name_spelled (b ∷ bs) n e = go (char_width is_name_start (b ∷ bs)) refl
  where
    go : (w : ℕ) → char_width is_name_start (b ∷ bs) ≡ w → Name (take (suc n) (b ∷ bs))
    go zero f = absurd (omega (arith, sym (length_none b bs f) ∙ e))
    go (suc w) f =
        let m = name_chars 0 (drop w bs) in
        let q : suc w + m ≡ suc n =
        omega (arith, sym e ∙ length_some b w bs f, chars_skip w bs (width_kept is_name_start start_past xml10 b w bs f).fits) in
        subst (λ (k : ℕ). Name (take k (b ∷ bs))) q
        (with_char is_name_start start_scalar b w m bs f Name (λ c p. name_start c (take m (drop w bs)) p (chars_by (length (drop w bs)) (drop w bs) (le_refl (length (drop w bs))))))

-- ---- what is taken

-- a width at the head, and the name characters behind it
chars_width : (xs : List ℕ) (w : ℕ) → char_width is_name_char xs ≡ suc w → name_chars 0 xs ≡ suc w + name_chars 0 (drop (suc w) xs)
chars_width [] w e = absurd (omega (arith, sym (nothing is_name_char) ∙ e))
  where
    nothing : (test : ℕ → Bool) → char_width test [] ≡ 0
    nothing test = unfold char_width in refl
chars_width (b ∷ bs) w e = chars_some b w bs e ∙ ap suc (chars_skip w bs (width_kept is_name_char char_past xml10 b w bs e).fits) ∙ omega arith

length_width : (xs : List ℕ) (w : ℕ) → char_width is_name_start xs ≡ suc w → name_length xs ≡ suc w + name_chars 0 (drop (suc w) xs)
length_width [] w e = absurd (omega (arith, sym (nothing is_name_start) ∙ e))
  where
    nothing : (test : ℕ → Bool) → char_width test [] ≡ 0
    nothing test = unfold char_width in refl
length_width (b ∷ bs) w e = length_some b w bs e ∙ ap suc (chars_skip w bs (width_kept is_name_start start_past xml10 b w bs e).fits) ∙ omega arith

-- behind a character
behind : (c : ℕ) (w rest : List ℕ) {n : ℕ} → length (encode c) ≡ n → drop n ((encode c ++ w) ++ rest) ≡ w ++ rest
behind c w rest e = ap (λ (n : ℕ). drop n ((encode c ++ w) ++ rest)) (sym e) ∙ ap (drop (length (encode c))) (append_assoc (encode c) w rest) ∙ drop-append_seam (encode c) (w ++ rest)

chars_taken : {w : List ℕ} → NameChars w → (rest : List ℕ) → name_chars 0 rest ≡ 0 → name_chars 0 (w ++ rest) ≡ length w
chars_taken no_char rest e = e
chars_taken (name_char c w p x) rest e = go (length (encode c)) refl (encode_at_least c) (chars_taken x rest e)
  where
    go : (n : ℕ) → length (encode c) ≡ n → 1 ≤ n → name_chars 0 (w ++ rest) ≡ length w → name_chars 0 ((encode c ++ w) ++ rest) ≡ length (encode c ++ w)
    go zero f h d = absurd (omega arith)
    go (suc n) f h d =
        let q = ap (char_width is_name_char) (append_assoc (encode c) w rest) ∙ width_encoded is_name_char char_scalar c (w ++ rest) p ∙ f in
        chars_width ((encode c ++ w) ++ rest) n q ∙ omega (arith, ap (name_chars 0) (behind c w rest f) ∙ d, f, length-append (encode c) w)

length_taken : {w : List ℕ} → Name w → (rest : List ℕ) → name_chars 0 rest ≡ 0 → name_length (w ++ rest) ≡ length w
length_taken (name_start c w p x) rest e = go (length (encode c)) refl (encode_at_least c) (chars_taken x rest e)
  where
    go : (n : ℕ) → length (encode c) ≡ n → 1 ≤ n → name_chars 0 (w ++ rest) ≡ length w → name_length ((encode c ++ w) ++ rest) ≡ length (encode c ++ w)
    go zero f h d = absurd (omega arith)
    go (suc n) f h d =
        let q = ap (char_width is_name_start) (append_assoc (encode c) w rest) ∙ width_encoded is_name_start start_scalar c (w ++ rest) p ∙ f in
        length_width ((encode c ++ w) ++ rest) n q ∙ omega (arith, ap (name_chars 0) (behind c w rest f) ∙ d, f, length-append (encode c) w)

name_some : {w : List ℕ} → Name w → 1 ≤ length w
name_some (name_start c w p x) = omega (arith, encode_at_least c, length-append (encode c) w)

-- [5]: a name is read whole where no name character follows
pub name_taken : {w : List ℕ} → Name w → (rest : List ℕ) → name_chars 0 rest ≡ 0 → name (w ++ rest) ≡ read w rest
name_taken {w} x rest e = go (length w) refl (name_some x)
  where
    by : (n : ℕ) → name_length (w ++ rest) ≡ n → name (w ++ rest) ≡ name_of n (w ++ rest)
    by n q = unfold name in ap (λ (k : ℕ). name_of k (w ++ rest)) q

    go : (n : ℕ) → length w ≡ n → 1 ≤ n → name (w ++ rest) ≡ read w rest
    go zero f h = absurd (omega arith)
    go (suc n) f h =
        by (suc n) (length_taken x rest e ∙ f)
        ∙ ap₂ (λ (a b : List ℕ). read a b) (ap (λ (k : ℕ). take k (w ++ rest)) (sym f) ∙ take-append_seam w rest) (ap (λ (k : ℕ). drop k (w ++ rest)) (sym f) ∙ drop-append_seam w rest)
