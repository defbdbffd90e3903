-- A name at a place of the text: none (`name_none`), or the bytes up to its end (`name_some`). Assumes nothing.
use mathlib.Core.Path.{◌≡◌, refl, sym, ap, ap₂, ◌∙◌}
use mathlib.Core.Bool.{Bool}
use mathlib.Core.List.{List}
use Prim.Native.Nat.{ℕ, zero, suc, ◌-◌, ◌<◌}
use native.Mathlib.Omega.{arith}
use lib.ListN.{length, take, drop, length-drop}
use lib.Seq.{length-take-le, take-append_seam, drop-append_seam}
use Rattle.table_names.specs.NameChars.{name_length}
use Rattle.table_grammar.specs.EntityValue.{read, departs, name, name_of}
use Rattle.table_names.specs.NameTerms.{left}
use Rattle.table_names.proofs.NamesPast.{NameAt}

name_of_lem : (t : List ℕ) (n : ℕ) → name_length t ≡ n → name t ≡ name_of n t
unfolding name
name_of_lem t n e = ap (λ (k : ℕ). name_of k t) e

module _ {newer : Bool} {t : List ℕ} {i e : ℕ} (x : NameAt newer t i e) where
  pub part_size : length (take (e - i) (drop i t)) ≡ e - i
  part_size = length-take-le (e - i) (drop i t) (rw (length-drop i t) (omega (arith, x.to)))

  pub name_none : e ≡ i → name (left newer t i) ≡ departs (left newer t e)
  name_none q = name_of_lem (left newer t i) 0 (x.size ∙ omega arith) ∙ ap (λ (k : ℕ). departs (left newer t k)) (sym q)

  pub name_some : i < e → name (left newer t i) ≡ read (take (e - i) (drop i t)) (left newer t e)
  name_some h = go (e - i) refl
    where
      p : List ℕ
      p = take (e - i) (drop i t)

      go : (n : ℕ) → e - i ≡ n → name (left newer t i) ≡ read (take (e - i) (drop i t)) (left newer t e)
      go zero q = absurd (omega arith)
      go (suc n) q =
          let s : length (take (e - i) (drop i t)) ≡ suc n = part_size ∙ q in
          name_of_lem (left newer t i) (suc n) (x.size ∙ q)
          ∙ ap (λ (l : List ℕ). read (take (suc n) l) (drop (suc n) l)) x.kept
          ∙ ap₂ (λ (a b : List ℕ). read a b) (rw s at (take-append_seam (take (e - i) (drop i t)) (left newer t e))) (rw s at (drop-append_seam (take (e - i) (drop i t)) (left newer t e)))
