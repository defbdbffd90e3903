-- Writing that clips: the laws of `over`, as much of a value in the first bytes of a buffer as there is room for. Assumes nothing.
use mathlib.Core.Path.{◌≡◌, refl, sym, ap, ◌∙◌}
use mathlib.Core.List.{List, [], ◌∷◌, ◌++◌}
use Prim.Native.Nat.{ℕ, zero, suc, ◌-◌, ◌≤◌, min}
use native.Mathlib.Omega.{arith}
use native.Mathlib.Nat.{not-suc-le-zero, le_of_suc-le-suc}
use lib.ListN.{length, take, drop, set, length-take}
use lib.Seq.{take-nil}
use borrow.Rule.Slice.PartMut.{mid_of, put_mid}
use Rattle.text.specs.Call.{laid}
use Rattle.output.specs.Over.{over}
use Rattle.output.proofs.Laid.{rest_part, rest_put}

pub over_nothing : (value : List ℕ) → over value [] ≡ []
over_nothing [] = refl
over_nothing (v ∷ vs) = refl

-- nothing is written over no bytes
pub over_empty : (value old : List ℕ) → length old ≡ 0 → old ≡ over value old
over_empty value [] e = sym (over_nothing value)
over_empty value (o ∷ os) e = absurd (omega arith)

-- the buffer keeps its length
pub length_over : (value old : List ℕ) → length (over value old) ≡ length old
length_over [] old = refl
length_over (v ∷ vs) [] = refl
length_over (v ∷ vs) (o ∷ os) = ap suc (length_over vs os)

-- where there is room the whole value is laid over the buffer
pub over_fits : (value old : List ℕ) → length value ≤ length old → over value old ≡ laid value old
over_fits [] old h = refl
over_fits (v ∷ vs) [] h = absurd (not-suc-le-zero h)
over_fits (v ∷ vs) (o ∷ os) h = ap (λ (l : List ℕ). v ∷ l) (over_fits vs os (le_of_suc-le-suc h))

-- a value after a value
pub over_append : (value more old : List ℕ)
    → take (length value) (over value old) ++ over more (drop (length value) (over value old)) ≡ over (value ++ more) old
over_append [] more old = refl
over_append (v ∷ vs) more [] = over_nothing more
over_append (v ∷ vs) more (o ∷ os) = ap (λ (l : List ℕ). v ∷ l) (over_append vs more os)

-- one byte after a value
pub over_byte : (value old : List ℕ) (b : ℕ) → set (over value old) (length value) b ≡ over (value ++ (b ∷ [])) old
over_byte [] [] b = refl
over_byte [] (o ∷ os) b = refl
over_byte (v ∷ vs) [] b = refl
over_byte (v ∷ vs) (o ∷ os) b = ap (λ (l : List ℕ). v ∷ l) (over_byte vs os b)

-- a place past the end stands for the end
take_clip : (n : ℕ) (l : List ℕ) → take (length (take n l)) l ≡ take n l
take_clip zero l = refl
take_clip (suc n) [] = refl
take_clip (suc n) (x ∷ l) = ap (λ (m : List ℕ). x ∷ m) (take_clip n l)

drop_clip : (n : ℕ) (l : List ℕ) → drop (length (take n l)) l ≡ drop n l
drop_clip zero l = refl
drop_clip (suc n) [] = refl
drop_clip (suc n) (x ∷ l) = drop_clip n l

take_least : (n : ℕ) (l : List ℕ) {w : ℕ} → w ≡ min n (length l) → take w l ≡ take n l
take_least n l e = ap (λ (k : ℕ). take k l) (e ∙ sym (length-take n l)) ∙ take_clip n l

drop_least : (n : ℕ) (l : List ℕ) {w : ℕ} → w ≡ min n (length l) → drop w l ≡ drop n l
drop_least n l e = ap (λ (k : ℕ). drop k l) (e ∙ sym (length-take n l)) ∙ drop_clip n l

-- the part of the value that fits, laid over the buffer
over_fitting : (value old : List ℕ) → laid (take (length old) value) old ≡ over value old
over_fitting [] old = rw (take-nil (length old))
over_fitting (v ∷ vs) [] = refl
over_fitting (v ∷ vs) (o ∷ os) = ap (λ (l : List ℕ). v ∷ l) (over_fitting vs os)

pub over_clipped : (value old : List ℕ) {n : ℕ} → n ≡ min (length value) (length old) → laid (take n value) old ≡ over value old
over_clipped value old {n} e =
    let q : n ≡ min (length old) (length value) = omega arith in
    rw (take_least (length old) value q) (over_fitting value old)

-- after a call that is lent the rest of the output, `&mut out[w..]`, where w is the place or, if that is less, the output's end
pub over_more : (value more old : List ℕ) {at w : ℕ} {buffer part : List ℕ}
    → buffer ≡ over value old → at ≡ length value → w ≡ min at (length buffer) → part ≡ over more (mid_of w (length buffer - w) buffer)
    → put_mid w (length buffer - w) buffer part ≡ over (value ++ more) old
over_more value more old {at} {w} {buffer} {part} e q m p =
    let n : w ≡ min (length value) (length buffer) = rw q at m in
    let front = take_least (length value) buffer n in
    let back = drop_least (length value) buffer n in
    rest_put w buffer part
    ∙ rw (p, rest_part w buffer, front, back, e) (over_append value more old)
