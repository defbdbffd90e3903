-- Writing after what is already written: the laws of `laid`, a value in the first bytes of a buffer whose rest keeps its bytes. Assumes nothing.
use mathlib.Core.Path.{◌≡◌, refl, sym, ap, ◌∙◌}
use mathlib.Core.List.{List, [], ◌∷◌, ◌++◌, append_assoc, append-nil}
use Prim.Native.Nat.{ℕ, suc, ◌+◌, ◌-◌, ◌≤◌, ◌<◌, zero-le}
use native.Mathlib.Omega.{arith}
use native.Mathlib.Nat.{le_refl}
use native.Mathlib.Numerals.{add-one}
use lib.ListN.{length, take, drop, get_or, set, length-set, length-append, length-drop, drop_of_length-le, take-append-drop}
use lib.Seq.{length-take-le, take-suc, take-add, take_all, take-length, take-take, take-append-le, take-append_seam, drop-append-add, drop-append_seam, drop-drop, drop-cons, set-append_seam}
use borrow.Rule.Slice.PartMut.{mid_of, put_mid}
use Rattle.text.specs.Call.{laid}

-- the buffer keeps its length
pub laid_length : (value old : List ℕ) → length value ≤ length old → length (laid value old) ≡ length old
laid_length value old h = rw (length-append, length-drop) (omega arith)

-- what lies behind the value is what lay there
pub laid_rest : (value old : List ℕ) → drop (length value) (laid value old) ≡ drop (length value) old
laid_rest value old = drop-append_seam value (drop (length value) old)

-- and the value is what lies before it
pub laid_front : (value old : List ℕ) {new : List ℕ} → new ≡ laid value old → take (length value) new ≡ value
laid_front value old e = ap (take (length value)) e ∙ take-append_seam value (drop (length value) old)

pub laid_append : (value more old : List ℕ) → value ++ laid more (drop (length value) old) ≡ laid (value ++ more) old
laid_append value more old = rw (drop-drop, length-append, append_assoc)

-- the part of a buffer from `at` to its end, and the buffer with another list in its place
pub rest_part : (at : ℕ) (buffer : List ℕ) → mid_of at (length buffer - at) buffer ≡ drop at buffer
rest_part at buffer = take_all (length buffer - at) (drop at buffer) (rw length-drop (le_refl _))

pub rest_put : (at : ℕ) (buffer ys : List ℕ) → put_mid at (length buffer - at) buffer ys ≡ take at buffer ++ ys
rest_put at buffer ys =
    let e : drop (length buffer - at) (drop at buffer) ≡ [] = drop_of_length-le (drop at buffer) {i = length buffer - at} (rw length-drop (le_refl _)) in
    rw (e, append-nil)

-- after a call that is lent the rest of the output, `&mut out[at..]`, and writes `more` at its start
pub laid_more : (value more old : List ℕ) {at : ℕ} {buffer part : List ℕ}
    → buffer ≡ laid value old → at ≡ length value → part ≡ laid more (mid_of at (length buffer - at) buffer)
    → put_mid at (length buffer - at) buffer part ≡ laid (value ++ more) old
laid_more value more old {at} {buffer} {part} e q p =
    rest_put at buffer part
    ∙ rw (p, rest_part at buffer, e, q, laid_rest value old, take-append_seam value (drop (length value) old)) (laid_append value more old)

-- after the store of one byte
pub laid_byte : (value old : List ℕ) (b : ℕ) → length value < length old → set (laid value old) (length value) b ≡ laid (value ++ (b ∷ [])) old
laid_byte value old b h =
    rw (drop-cons old (length value) 0 h, set-append_seam value (get_or old (length value) 0) (drop (suc (length value)) old) b, length-append, append_assoc, add-one)

-- after one byte more of a run
pub laid_next : (run old : List ℕ) (i : ℕ) → i < length run → i < length old → set (laid (take i run) old) i (get_or run i 0) ≡ laid (take (i + 1) run) old
laid_next run old i h g =
    let e : length (take i run) ≡ i = length-take-le i run (omega arith) in
    rw (add-one i, take-suc run i 0 h) (ap (λ (n : ℕ). set (laid (take i run) old) n (get_or run i 0)) (sym e) ∙ laid_byte (take i run) old (get_or run i 0) (rw e g))

-- the first `i` bytes of a run lie at the start of the output, which keeps its length
pub record Laying (run old out : List ℕ) (i : ℕ) : Type 0 where
  pub to : i ≤ length run
  pub holds : out ≡ laid (take i run) old
  pub size : length out ≡ length old

pub laying_none : (run old : List ℕ) → Laying run old old 0
laying_none run old = record { to = zero-le; holds = refl; size = refl }

pub laying_next : (run old : List ℕ) {out : List ℕ} {i : ℕ} → Laying run old out i → i < length run → length run ≤ length old
    → Laying run old (set out i (get_or run i 0)) (i + 1)
laying_next run old {out} {i} l h g =
    record {
      to = omega arith;
      holds = ap (λ (o : List ℕ). set o i (get_or run i 0)) l.holds ∙ laid_next run old i h (omega arith);
      size = length-set out i (get_or run i 0) ∙ l.size;
    }

pub laying_all : (run old : List ℕ) {out : List ℕ} {i : ℕ} → Laying run old out i → length run ≤ i → out ≡ laid run old
laying_all run old {out} {i} l h = l.holds ∙ ap (λ (s : List ℕ). laid s old) (take_all i run h)

-- after a part of a run more, by a call that is lent the rest of the output
pub laid_part : (run old : List ℕ) (i e : ℕ) {buffer part : List ℕ} → i ≤ e → e ≤ length run
    → buffer ≡ laid (take i run) old → part ≡ laid (mid_of i (e - i) run) (mid_of i (length buffer - i) buffer)
    → put_mid i (length buffer - i) buffer part ≡ laid (take e run) old
laid_part run old i e h g b p =
    let q : e ≡ i + (e - i) = omega arith in
    laid_more (take i run) (mid_of i (e - i) run) old b (sym (length-take-le i run (omega arith))) p
    ∙ ap (λ (l : List ℕ). laid l old) (sym (ap (λ (n : ℕ). take n run) q ∙ take-add i (e - i) run))

-- a value over a shorter one
laid_twice : (some all old : List ℕ) → length some ≤ length all → laid all (laid some old) ≡ laid all old
laid_twice some all old h =
    let rest = length all - length some in
    let q : length all ≡ length some + rest = omega arith in
    ap (λ (l : List ℕ). all ++ l)
    (ap (λ (n : ℕ). drop n (laid some old)) q
    ∙ drop-append-add some (drop (length some) old) rest
    ∙ drop-drop rest (length some) old
    ∙ ap (λ (n : ℕ). drop n old) (sym q))

-- the start of a run over more of it
laid_start : (run old : List ℕ) (i e : ℕ) → i ≤ e → e ≤ length run → laid (take e run) old ≡ laid (take i run) (laid (take e run) old)
laid_start run old i e h g =
    let new = laid (take e run) old in
    let inside : i ≤ length (take e run) = rw (length-take-le e run g) h in
    let front = take-append-le i (take e run) (drop (length (take e run)) old) inside ∙ take-take i e run h in
    sym (take-append-drop i new)
    ∙ ap (λ (l : List ℕ). l ++ drop i new) front
    ∙ ap (λ (n : ℕ). take i run ++ drop n new) (sym (length-take-le i run (omega arith)))

-- after two parts of a run that may overlap: the first m bytes, and then those from a place among them on
pub laid_ends : (run old : List ℕ) (m at : ℕ) {buffer part : List ℕ} → at ≤ m → m ≤ length run
    → buffer ≡ laid (take m run) old → part ≡ laid (mid_of at (length run - at) run) (mid_of at (length buffer - at) buffer)
    → put_mid at (length buffer - at) buffer part ≡ laid run old
laid_ends run old m at {buffer} h g b p =
    laid_part run buffer at (length run) (omega arith) (le_refl _)
    (b ∙ laid_start run old at m h g ∙ ap (λ (l : List ℕ). laid (take at run) l) (sym b)) p
    ∙ ap (λ (l : List ℕ). laid l buffer) (take-length run)
    ∙ ap (λ (l : List ℕ). laid run l) b
    ∙ laid_twice (take m run) run old (rw (length-take-le m run g) g)
