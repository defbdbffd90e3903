-- A reference that is remembered: what is written into one of the four places of the memory, and what stays (`remembered`). Assumes nothing.
use mathlib.Core.Path.{◌≡◌, refl, ap, ◌∙◌}
use mathlib.Core.Logic.{◌≢◌}
use mathlib.Core.Bool.{Bool, true, false, ◌||◌}
use mathlib.Core.List.{List}
use Prim.Native.Nat.{ℕ, ◌+◌, ◌-◌, ◌*◌, ◌≤◌, ◌<◌}
use native.Mathlib.Omega.{arith}
use lib.Dec.{eqb, ltb, lit≤}
use lib.ListN.{length, get_or, set, length-set}
use lib.Seq.{get_or-set_same, get_or-set_other}
use borrow.Author.Tests.{ltb-false, eqb-true, eqb-false}
use Rattle.text.proofs.Bytes.{or_left, or_right}
use Rattle.tokens.specs.Seen.{met_at, met_of, key_at, stays, enters, Entered, Remembered}

-- the reference is short, and eight bytes stand at its place
pub short_reference : (text : List ℕ) (place width : ℕ) → (ltb 8 width || ltb (length text - place) 8) ≡ false → (width ≤ 8) × (8 ≤ length text - place)
short_reference text place width e =
    let a = ltb 8 width in
    let b = ltb (length text - place) 8 in
    (ltb-false 8 width (or_left a b e), ltb-false (length text - place) 8 (or_right a b e))

-- the place of the next one, after the last of the four the first again
pub next_first : (n : ℕ) → n ≡ 0 → n < 4
next_first n e = omega arith

pub next_after : (slot n : ℕ) → slot < 4 → slot ≢ 3 → n ≡ slot + 1 → n < 4
next_after slot n h d e = omega arith

-- ---- the memory has five rows of four, and the place of the next one: where two of its words stand apart

under : (k s b : ℕ) → k < 4 → 4 ≤ b → k ≢ s + b
under k s b l h q = omega arith

past : (k s a : ℕ) → s < 4 → 4 ≤ a → k + a ≢ s
past k s a l h q = omega arith

lower : (k s a b : ℕ) → k < 4 → a + 4 ≤ b → k + a ≢ s + b
lower k s a b l h q = omega arith

higher : (k s a b : ℕ) → s < 4 → b + 4 ≤ a → k + a ≢ s + b
higher k s a b l h q = omega arith

alike : (k s a : ℕ) → k ≢ s → k + a ≢ s + a
alike k s a n q = n (omega arith)

last : (k a : ℕ) → k < 4 → a + 4 ≤ 20 → k + a ≢ 20
last k a l h q = omega arith

-- what is written into one of four places, and the place of the next one after them
module _ (seen : List ℕ) (size : length seen ≡ 21) (s key shift start count opened next : ℕ) (h : s < 4) where
  abbrev l1 : List ℕ
  l1 = set seen s key

  abbrev l2 : List ℕ
  l2 = set l1 (s + 4) shift

  abbrev l3 : List ℕ
  l3 = set l2 (s + 8) start

  abbrev l4 : List ℕ
  l4 = set l3 (s + 12) count

  abbrev l5 : List ℕ
  l5 = set l4 (s + 16) opened

  abbrev l6 : List ℕ
  l6 = set l5 20 next

  pub size1 : length l1 ≡ 21
  size1 = length-set seen s key ∙ size

  pub size2 : length l2 ≡ 21
  size2 = length-set l1 (s + 4) shift ∙ size1

  pub size3 : length l3 ≡ 21
  size3 = length-set l2 (s + 8) start ∙ size2

  pub size4 : length l4 ≡ 21
  size4 = length-set l3 (s + 12) count ∙ size3

  pub size5 : length l5 ≡ 21
  size5 = length-set l4 (s + 16) opened ∙ size4

  pub size6 : length l6 ≡ 21
  size6 = length-set l5 20 next ∙ size5

  next_read : get_or l6 20 0 ≡ next
  next_read = get_or-set_same l5 20 next 0 (omega (arith, size5))

  -- what was written
  new_read : met_at l6 s ≡ record { key = key; shift = shift; start = start; count = count; opened = opened }
  new_read =
      let m : (j : ℕ) → j < 20 → get_or l6 j 0 ≡ get_or l5 j 0 = λ j l. get_or-set_other l5 20 j next 0 (λ q. omega arith) in
      let r5 : get_or l6 (s + 16) 0 ≡ opened = m (s + 16) (omega arith) ∙ get_or-set_same l4 (s + 16) opened 0 (omega (arith, size4)) in
      let n : (j : ℕ) → j < s + 16 → get_or l6 j 0 ≡ get_or l4 j 0 = λ j l. m j (omega arith) ∙ get_or-set_other l4 (s + 16) j opened 0 (λ q. omega arith) in
      let r4 : get_or l6 (s + 12) 0 ≡ count = n (s + 12) (omega arith) ∙ get_or-set_same l3 (s + 12) count 0 (omega (arith, size3)) in
      let o : (j : ℕ) → j < s + 12 → get_or l6 j 0 ≡ get_or l3 j 0 = λ j l. n j (omega arith) ∙ get_or-set_other l3 (s + 12) j count 0 (λ q. omega arith) in
      let r3 : get_or l6 (s + 8) 0 ≡ start = o (s + 8) (omega arith) ∙ get_or-set_same l2 (s + 8) start 0 (omega (arith, size2)) in
      let p : (j : ℕ) → j < s + 8 → get_or l6 j 0 ≡ get_or l2 j 0 = λ j l. o j (omega arith) ∙ get_or-set_other l2 (s + 8) j start 0 (λ q. omega arith) in
      let r2 : get_or l6 (s + 4) 0 ≡ shift = p (s + 4) (omega arith) ∙ get_or-set_same l1 (s + 4) shift 0 (omega (arith, size1)) in
      let r1 : get_or l6 s 0 ≡ key =
      p s (omega arith) ∙ get_or-set_other l1 (s + 4) s shift 0 (λ q. omega arith) ∙ get_or-set_same seen s key 0 (omega (arith, size)) in
      cc

  -- what was not
  old_read : (k : ℕ) → k < 4 → k ≢ s → met_at l6 k ≡ met_at seen k
  old_read k l ne =
      let r1 : get_or l6 k 0 ≡ get_or seen k 0 =
      go k ne (under k s 4 l (lit≤ tt)) (under k s 8 l (lit≤ tt)) (under k s 12 l (lit≤ tt)) (under k s 16 l (lit≤ tt)) (λ q. omega (arith, l, q)) in
      let r2 : get_or l6 (k + 4) 0 ≡ get_or seen (k + 4) 0 =
      go (k + 4) (past k s 4 h (lit≤ tt)) (alike k s 4 ne) (lower k s 4 8 l (lit≤ tt)) (lower k s 4 12 l (lit≤ tt)) (lower k s 4 16 l (lit≤ tt)) (last k 4 l (lit≤ tt)) in
      let r3 : get_or l6 (k + 8) 0 ≡ get_or seen (k + 8) 0 =
      go (k + 8) (past k s 8 h (lit≤ tt)) (higher k s 8 4 h (lit≤ tt)) (alike k s 8 ne) (lower k s 8 12 l (lit≤ tt)) (lower k s 8 16 l (lit≤ tt)) (last k 8 l (lit≤ tt)) in
      let r4 : get_or l6 (k + 12) 0 ≡ get_or seen (k + 12) 0 =
      go (k + 12) (past k s 12 h (lit≤ tt)) (higher k s 12 4 h (lit≤ tt)) (higher k s 12 8 h (lit≤ tt)) (alike k s 12 ne) (lower k s 12 16 l (lit≤ tt))
      (last k 12 l (lit≤ tt)) in
      let r5 : get_or l6 (k + 16) 0 ≡ get_or seen (k + 16) 0 =
      go (k + 16) (past k s 16 h (lit≤ tt)) (higher k s 16 4 h (lit≤ tt)) (higher k s 16 8 h (lit≤ tt)) (higher k s 16 12 h (lit≤ tt)) (alike k s 16 ne)
      (last k 16 l (lit≤ tt)) in
      cc
    where
      go : (j : ℕ) → j ≢ s → j ≢ s + 4 → j ≢ s + 8 → j ≢ s + 12 → j ≢ s + 16 → j ≢ 20 → get_or l6 j 0 ≡ get_or seen j 0
      go j a b c d e f =
          get_or-set_other l5 20 j next 0 f
          ∙ get_or-set_other l4 (s + 16) j opened 0 e
          ∙ get_or-set_other l3 (s + 12) j count 0 d
          ∙ get_or-set_other l2 (s + 8) j start 0 c
          ∙ get_or-set_other l1 (s + 4) j shift 0 b
          ∙ get_or-set_other seen s j key 0 a

  pub remembered : (text : List ℕ) (place width : ℕ) → width ≤ 8 → 8 ≤ length text - place → shift ≡ 64 - 8 * width → key ≡ key_at shift text place → next < 4
      → Remembered text place width start count opened seen l6
  remembered text place width w r e f n = record { size = size6; next = rw next_read n; entries = λ k l. go k (eqb k s) refl l }
    where
      go : (k : ℕ) (t : Bool) → eqb k s ≡ t → k < 4 → Entered text place width (met_of text place width start count opened) (met_at seen k) (met_at l6 k)
      go k false q l = stays (old_read k l (eqb-false k s q))
      go k true q l =
          enters w (omega arith)
          (ap (met_at l6) (eqb-true k s q)
          ∙ new_read
          ∙ ap (λ (x : ℕ). record { key = x; shift = shift; start = start; count = count; opened = opened }) f
          ∙ ap (λ (x : ℕ). record { key = key_at x text place; shift = x; start = start; count = count; opened = opened }) e)
