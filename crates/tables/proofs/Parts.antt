-- Refusals 8 and 9 of a declaration. Assumes nothing.
use mathlib.Core.Path.{◌≡◌, refl, ap, sym, ◌∙◌}
use mathlib.Core.Bool.{Bool, true, false, ◌&&◌, ◌||◌, not}
use mathlib.Core.List.{List}
use Prim.Native.Nat.{ℕ, ◌+◌, ◌-◌, ◌≤◌, zero-le}
use native.Mathlib.Omega.{arith}
use native.Mathlib.Nat.{add-sub_cancel_left}
use lib.Dec.{eqb, leb}
use lib.ListN.{length, take, drop}
use borrow.Author.Tests.{eq-eqb, ne_eqb, leb-true, le-ltb, not-true}
use Rattle.text.specs.Utf8.{utf8_end, well_formed}
use Rattle.text.specs.Call.{passed}
use Rattle.text.specs.Blocks.{Ascii}
use Rattle.text.specs.Answers.{Refused}
use Rattle.text.proofs.Bytes.{contrary, and_left, and_right}
use Rattle.text.proofs.Utf8.{tested, testable}
use Rattle.text.proofs.Blocks.{ascii_inside}
use Rattle.text.proofs.Longest.{end_whole, whole_end}
use Rattle.entity.specs.Table.{part, inside, outside, Declaration, ill_formed, declaration_check}
use Rattle.entity.proofs.Parts.{part_length, past, name_fits}

-- from start to end, and so many from the start
part_span : (pool : List ℕ) (start size : ℕ) → take (start + size - start) (drop start pool) ≡ part pool start size
unfolding part
part_span pool start size = ap (λ (n : ℕ). take n (drop start pool)) (add-sub_cancel_left start size)

-- a part inside the pool's ASCII start
part_ascii : (pool : List ℕ) (start size a : ℕ) → Ascii pool a → start + size ≤ a → well_formed (part pool start size) ≡ true
unfolding part
part_ascii pool start size a p h = testable (take size (drop start pool)) (ascii_inside pool a start size p h).whole

-- the test of the end is the test of the text
pub utf8_tested : (t : List ℕ) {end : ℕ} → end ≡ utf8_end t → eqb end (length t) ≡ well_formed t
utf8_tested t {end} e = go (well_formed t) refl
  where
    go : (x : Bool) → well_formed t ≡ x → eqb end (length t) ≡ well_formed t
    go true h = eq-eqb end (length t) (e ∙ whole_end t (tested t h)) ∙ sym h
    go false h = ne_eqb end (length t) (λ q. contrary (testable t (end_whole t (sym e ∙ q))) h) ∙ sym h

-- a declaration's tests as the code has them; the refusal's number is asked by itself, so that a wrong one is refused as a number
module _ (pool : List ℕ) (name n text t : ℕ) where
  abbrev declared : Declaration
  declared = record { name_start = name; name_length = n; body = inside text t }

  abbrev ill : Bool
  ill =
      eqb (length (take (name + n - name) (drop name pool))) 0
      || not (well_formed (take (name + n - name) (drop name pool)))
      || not (well_formed (take (text + t - text) (drop text pool)))

  ill_is : past pool name n text t ≡ false → ill ≡ ill_formed pool declared
  unfolding ill_formed
  ill_is e = rw (part_span pool name n, part_span pool text t, part_length pool name n (name_fits pool name n text t e))

  pub past_refused : (at : ℕ) {number : ℕ} → number ≡ 8 → past pool name n text t ≡ true → Refused number at 0 ≡ declaration_check pool at declared passed
  unfolding declaration_check
  past_refused at is e = rw (is, e)

  pub ill_refused : (at : ℕ) {number : ℕ} → number ≡ 9 → past pool name n text t ≡ false → true ≡ ill → Refused number at 0 ≡ declaration_check pool at declared passed
  unfolding declaration_check
  ill_refused at is e i = let j : ill_formed pool declared ≡ true = sym (i ∙ ill_is e) in rw (is, e, j)

  pub well_passed : (at : ℕ) → past pool name n text t ≡ false → false ≡ ill → passed ≡ declaration_check pool at declared passed
  unfolding declaration_check
  well_passed at e i = let j : ill_formed pool declared ≡ false = sym (i ∙ ill_is e) in rw (e, j)

  -- name and text inside the pool's ASCII start; where they end is asked by itself, so that a wrong end is refused as a number
  pub ascii_passed : (at a : ℕ) {nameEnd textEnd : ℕ} → Ascii pool a → past pool name n text t ≡ false → leb nameEnd a && leb textEnd a && not (eqb n 0) ≡ true
      → name + n ≤ nameEnd → text + t ≤ textEnd → passed ≡ declaration_check pool at declared passed
  unfolding declaration_check
  ascii_passed at a {nameEnd} {textEnd} p e i nameIn textIn =
      let both = leb nameEnd a && leb textEnd a in
      let b = and_left both (not (eqb n 0)) i in
      let nameTo = leb-true nameEnd a (and_left (leb nameEnd a) (leb textEnd a) b) in
      let textTo = leb-true textEnd a (and_right (leb nameEnd a) (leb textEnd a) b) in
      let nameIs = part_ascii pool name n a p (omega (arith, nameTo, nameIn)) in
      let textIs = part_ascii pool text t a p (omega (arith, textTo, textIn)) in
      let j : ill_formed pool declared ≡ false = unfold ill_formed in rw (not-true (eqb n 0) (and_right both (not (eqb n 0)) i), nameIs, textIs) in
      rw (e, j)

-- an external entity is checked as one with an empty text
pub outside_empty : (pool : List ℕ) (at name n : ℕ) → declaration_check pool at (record { name_start = name; name_length = n; body = inside 0 0 }) passed
    ≡ declaration_check pool at (record { name_start = name; name_length = n; body = outside }) passed
unfolding declaration_check
outside_empty pool at name n = rw (le-ltb (length pool) 0 zero-le)
