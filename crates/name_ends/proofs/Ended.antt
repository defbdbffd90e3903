-- The end of a name by the search for `;`: no byte before it ends the name (`ended_outer`), nor does a `&` where there is none (`ended_inner`).
-- Assumes nothing.
use mathlib.Core.Path.{◌≡◌, refl, sym, ap, ◌∙◌}
use mathlib.Core.Bool.{Bool, true, false, ◌&&◌}
use mathlib.Core.List.{List}
use Prim.Native.Nat.{ℕ, zero, suc, ◌+◌, ◌-◌, ◌≤◌, ◌<◌, zero-le}
use native.Mathlib.Omega.{arith}
use lib.Dec.{eqb, ltb}
use lib.ListN.{length, get_or, take, drop, length-drop}
use lib.Seq.{get_or-drop, get_or-take, length-take-le}
use borrow.Author.Tests.{eqb-true, eqb-false, ltb-true, ltb-false}
use Rattle.output.specs.Runs.{Plain}
use Rattle.runs.specs.RunEnds.{RunEnd}
use Rattle.tokens.specs.Walking.{NameEnd}
use Rattle.tokens.proofs.Names.{Passed, passed_start, passed_over, passed_end, passed_byte}
use Rattle.name_ends.specs.OneByte.{is_byte}

module _ (inner : Bool) (text : List ℕ) (from : ℕ) where
  -- what a name's byte must not be
  abbrev Inside : ℕ → Type 0
  Inside k = (eqb (get_or text k 0) 59 ≡ false) × ((inner && eqb (get_or text k 0) 38) ≡ false)

  passed_all : (n : ℕ) → from + n ≤ length text → ((k : ℕ) → from ≤ k → k < from + n → Inside k) → Passed inner text from (from + n)
  passed_all zero h f =
      let z : from + 0 ≡ from = omega arith in
      rw z (passed_start inner text from (omega (arith, h)))
  passed_all (suc n) h f =
      let b = f (from + n) (omega arith) (omega arith) in
      let z : from + suc n ≡ from + n + 1 = omega arith in
      rw z (passed_byte inner text (passed_all n (omega (arith, h)) (λ k g l. f k g (omega (arith, l)))) (omega (arith, h)) (eqb-false (get_or text (from + n) 0) 59 b.0) b.1)

  -- the first `;` ends the name, where no byte before it does
  ended_by : {e : ℕ} → RunEnd (is_byte 59) text from e → ((k : ℕ) → from ≤ k → k < e → (inner && eqb (get_or text k 0) 38) ≡ false) → NameEnd inner text from e
  ended_by {e} r f =
      let k : from + (e - from) ≡ e = omega (arith, r.run.from) in
      let p : Passed inner text from e =
      rw k at (passed_all (e - from) (omega (arith, r.run.from, r.run.to)) (λ j g l. (r.run.none j g (omega (arith, l, r.run.from)), f j g (omega (arith, l, r.run.from))))) in
      go p (ltb e (length text)) refl
    where
      go : Passed inner text from e → (t : Bool) → ltb e (length text) ≡ t → NameEnd inner text from e
      go p true q =
          let h = ltb-true e (length text) q in
          passed_end inner text p h (eqb-true (get_or text e 0) 59 (r.ends h))
      go p false q = passed_over inner text p (ltb-false e (length text) q)

pub ended_outer : (text : List ℕ) {from e : ℕ} → RunEnd (is_byte 59) text from e → NameEnd false text from e
ended_outer text {from} r = ended_by false text from r (λ k g l. refl)

-- a byte of a part is the text's
part_byte : (text : List ℕ) {from e : ℕ} (k : ℕ) → from ≤ k → k < e → get_or (take (e - from) (drop from text)) (k - from) 0 ≡ get_or text k 0
part_byte text {from} {e} k g l =
    let q : from + (k - from) ≡ k = omega (arith, g) in
    get_or-take (e - from) (drop from text) (k - from) 0 (omega (arith, g, l)) ∙ get_or-drop from text (k - from) 0 ∙ ap (λ (m : ℕ). get_or text m 0) q

pub ended_inner : (text : List ℕ) {from e : ℕ} → RunEnd (is_byte 59) text from e
    → Plain (is_byte 38) (take (e - from) (drop from text)) 0 (length (take (e - from) (drop from text))) → NameEnd true text from e
ended_inner text {from} {e} r p =
    let n : length (take (e - from) (drop from text)) ≡ e - from = length-take-le (e - from) (drop from text) (rw length-drop (omega (arith, r.run.from, r.run.to))) in
    ended_by true text from r (λ k g l. ap (is_byte 38) (sym (part_byte text k g l)) ∙ p.none (k - from) zero-le (omega (arith, n, g, l)))
