-- Patterns at an index of a text: a byte (`begins_one`), two of them (`begins_two`, `begins_not`), the text's end (`begins_out`),
-- and that a pattern fits (`begins_fits`). Assumes nothing.
use mathlib.Core.Path.{◌≡◌, refl, sym, ap, ◌∙◌}
use mathlib.Core.Bool.{Bool, true, false, ◌&&◌, true≢false}
use mathlib.Core.List.{List, [], ◌∷◌}
use Prim.Native.Nat.{ℕ, ◌+◌, ◌≤◌, ◌<◌, zero-le, suc-le-suc}
use native.Mathlib.Numerals.{add-one}
use lib.Dec.{eqb}
use lib.ListN.{length, drop, get_or, drop_of_length-le}
use lib.Seq.{drop-cons, drop-drop}
use Rattle.text.specs.Bytes.{begins}
use Rattle.text.proofs.Bytes.{and_true, and_right}

pub at_head : (t : List ℕ) (i : ℕ) → i < length t → drop i t ≡ get_or t i 0 ∷ drop (i + 1) t
at_head t i h = rw (add-one i, drop-cons t i 0 h)

pub begins_out : (p : ℕ) (ps t : List ℕ) (i : ℕ) → length t ≤ i → false ≡ begins (p ∷ ps) (drop i t)
begins_out p ps t i h = sym (rw (drop_of_length-le t h))

pub begins_one : (p : ℕ) (t : List ℕ) (i : ℕ) → i < length t → eqb (get_or t i 0) p ≡ begins (p ∷ []) (drop i t)
begins_one p t i h = sym (rw (at_head t i h) (and_true (eqb (get_or t i 0) p)))

-- a pattern by its first byte
begins_head : (p : ℕ) (ps l : List ℕ) → begins (p ∷ ps) l ≡ begins (p ∷ []) l && begins ps (drop 1 l)
begins_head p ps [] = refl
begins_head p ps (b ∷ bs) = ap (λ (t : Bool). t && begins ps bs) (sym (and_true (eqb b p)))

-- and at an index
pub begins_cons : (p : ℕ) (ps t : List ℕ) (i : ℕ) → begins (p ∷ ps) (drop i t) ≡ begins (p ∷ []) (drop i t) && begins ps (drop (i + 1) t)
begins_cons p ps t i =
    begins_head p ps (drop i t) ∙ ap (λ (l : List ℕ). begins (p ∷ []) (drop i t) && begins ps l) (drop-drop 1 i t)

pub begins_two : (a b : ℕ) (t : List ℕ) (i : ℕ) → begins (a ∷ []) (drop i t) ≡ true → begins (b ∷ []) (drop (i + 1) t) ≡ begins (a ∷ b ∷ []) (drop i t)
begins_two a b t i e =
    sym (begins_cons a (b ∷ []) t i ∙ ap (λ (u : Bool). u && begins (b ∷ []) (drop (i + 1) t)) e)

pub begins_not : (a b : ℕ) (t : List ℕ) (i : ℕ) → begins (a ∷ []) (drop i t) ≡ false → false ≡ begins (a ∷ b ∷ []) (drop i t)
begins_not a b t i e =
    sym (begins_cons a (b ∷ []) t i ∙ ap (λ (u : Bool). u && begins (b ∷ []) (drop (i + 1) t)) e)

-- a pattern is no longer than the text that begins with it
pub begins_fits : (p t : List ℕ) → begins p t ≡ true → length p ≤ length t
begins_fits [] t e = zero-le
begins_fits (p ∷ ps) [] e = absurd (true≢false (sym e))
begins_fits (p ∷ ps) (b ∷ bs) e = suc-le-suc (begins_fits ps bs (and_right (eqb b p) (begins ps bs) e))
