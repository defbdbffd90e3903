-- A part of a value written again after it: the laws of `over` for one byte more, and for a buffer that is full. Assumes nothing.
use mathlib.Core.Path.{◌≡◌, refl, sym, ap, subst, ◌∙◌}
use mathlib.Core.List.{List, [], ◌∷◌, ◌++◌, append-nil, append_assoc}
use Prim.Native.Nat.{ℕ, zero, suc, ◌+◌, ◌≤◌, ◌<◌}
use native.Mathlib.Omega.{arith}
use native.Mathlib.Nat.{not-suc-le-zero, le_of_suc-le-suc}
use native.Mathlib.Numerals.{add-one}
use lib.ListN.{length, get_or, set, take, drop, length-append, length-drop}
use lib.Seq.{length-take-le, take-suc, get_or-drop}
use Rattle.output.specs.Over.{over}
use Rattle.output.proofs.Clip.{over_nothing, over_byte, length_over}
use Rattle.tokens.specs.Seen.{Repeated, Recalled}
use Rattle.std.specs.Prelude.{Option, Some, None}
use Rattle.tokens.specs.declared.Next.{Next}

-- the value's own byte, where there is room for it
pub over_get : (value more whole : List ℕ) (k : ℕ) → k < length value → k < length whole → get_or (over (value ++ more) whole) k 0 ≡ get_or value k 0
over_get [] more whole k h g = absurd (not-suc-le-zero h)
over_get (v ∷ vs) more [] k h g = absurd (not-suc-le-zero g)
over_get (v ∷ vs) more (o ∷ os) zero h g = refl
over_get (v ∷ vs) more (o ∷ os) (suc k) h g = over_get vs more os k (le_of_suc-le-suc h) (le_of_suc-le-suc g)

-- a buffer that the value fills has no room for more
pub over_full : (value more whole : List ℕ) → length whole ≤ length value → over (value ++ more) whole ≡ over value whole
over_full [] more [] h = over_nothing more
over_full [] more (o ∷ os) h = absurd (not-suc-le-zero h)
over_full (v ∷ vs) more [] h = refl
over_full (v ∷ vs) more (o ∷ os) h = ap (λ (l : List ℕ). v ∷ l) (over_full vs more os (le_of_suc-le-suc h))

-- one byte more of the part
pub again_byte : (value whole : List ℕ) (from at k : ℕ) {out : List ℕ} → length value ≡ at → from + k < at → at ≤ length whole
    → out ≡ over (value ++ take k (drop from value)) whole
    → set out (at + k) (get_or out (from + k) 0) ≡ over (value ++ take (k + 1) (drop from value)) whole
again_byte value whole from at k e h g now =
    let part = take k (drop from value) in
    let b = get_or value (from + k) 0 in
    let rest : k < length (drop from value) = rw length-drop (omega arith) in
    let n : at + k ≡ length (value ++ part) = omega (arith, length-append value part, length-take-le k (drop from value) (omega (arith, rest))) in
    let more : part ++ (b ∷ []) ≡ take (k + 1) (drop from value) = rw (add-one k, take-suc (drop from value) k 0 rest, get_or-drop) in
    let byte : get_or (over (value ++ part) whole) (from + k) 0 ≡ b = over_get value part whole (from + k) (omega arith) (omega arith) in
    ap (λ (o : List ℕ). set o (at + k) (get_or o (from + k) 0)) now
    ∙ ap (λ (x : ℕ). set (over (value ++ part) whole) (at + k) x) byte
    ∙ ap (λ (x : ℕ). set (over (value ++ part) whole) x b) n
    ∙ over_byte (value ++ part) whole b
    ∙ ap (λ (l : List ℕ). over l whole) (append_assoc value part (b ∷ []) ∙ ap (λ (l : List ℕ). value ++ l) more)

-- where there is no room for any of the part, nothing is written
pub again_none : (value more whole : List ℕ) (len : ℕ) {out : List ℕ} → out ≡ over value whole → length value ≡ len → length out ≤ len → out ≡ over (value ++ more) whole
again_none value more whole len e n h = e ∙ sym (over_full value more whole (omega (arith, ap length e, length_over value whole)))

-- a part of one byte
pub again_one : (value whole : List ℕ) (from at count : ℕ) {out : List ℕ} → count ≡ 1 → length value ≡ at → from < at → at ≤ length whole
    → out ≡ over value whole → set out at (get_or out from 0) ≡ over (value ++ take count (drop from value)) whole
again_one value whole from at count {out} c n h g e =
    let x : from + 0 ≡ from = omega arith in
    let y : at + 0 ≡ at = omega arith in
    let z : 0 + 1 ≡ count = omega arith in
    let f : from + 0 < at = omega arith in
    ap (λ (i : ℕ). set out i (get_or out from 0)) (sym y)
    ∙ ap (λ (i : ℕ). set out (at + 0) (get_or out i 0)) (sym x)
    ∙ again_byte value whole from at 0 n f g (e ∙ ap (λ (l : List ℕ). over l whole) (sym (append-nil value)))
    ∙ ap (λ (k : ℕ). over (value ++ take k (drop from value)) whole) z

-- a reference that is kept is repeated, and one that is not leaves the output
module _ (text : List ℕ) (at len openings limit : ℕ) (seen : List ℕ) {old new : List ℕ} {r : Option Next} where
  pub repeated : {n : Next} → r ≡ Some n → Recalled text at len openings limit seen old new r
      → Repeated text at len openings limit seen old new n.at n.len n.openings
  repeated e h = subst (Recalled text at len openings limit seen old new) e h

  pub unwritten : r ≡ None → Recalled text at len openings limit seen old new r → new ≡ old
  unwritten e h = subst (Recalled text at len openings limit seen old new) e h
