-- Laws of a choice by a test, of ranges and of tests on bytes. Assumes nothing.
use mathlib.Core.Path.{◌≡◌, refl, sym, ◌∙◌, ap, ap₂}
use Prim.Native.Nat.{ℕ, ◌+◌, ◌-◌, ◌≤◌, ◌<◌}
use native.Mathlib.Omega.{arith}
use mathlib.Core.Bool.{Bool, true, false, ◌&&◌, ◌||◌, true≢false}
use mathlib.Core.List.{List, [], ◌∷◌, ◌++◌}
use lib.Dec.{eqb, leb}
use lib.ListN.{length, get_or, take, drop}
use lib.Seq.{get_or-take, get_or-drop}
use Rattle.std.proofs.Common.{length-take}
use borrow.Author.Tests.{eqb-true, eq-eqb, leb-true, leb-false, le-leb, lt-leb}
use Rattle.text.specs.Bytes.{pick, within, same_bytes, begins}

-- what holds of both holds of the one that is picked
pub pick_both {ℓ ℓ'} : {X : Type ℓ} (P : X → Type ℓ') (t : Bool) {a b : X} → P a → P b → P (pick t a b)
pick_both P true x y = x
pick_both P false x y = y

-- what holds of each, with the test's answer in hand, holds of the one that is picked
pub pick_by {ℓ ℓ'} : {X : Type ℓ} (P : X → Type ℓ') (t : Bool) {a b : X} → (t ≡ true → P a) → (t ≡ false → P b) → P (pick t a b)
pick_by P true f g = f refl
pick_by P false f g = g refl

-- a test that holds and does not
pub contrary {ℓ} : {X : Type ℓ} {t : Bool} → t ≡ true → t ≡ false → X
contrary p q = absurd (true≢false (sym p ∙ q))

pub and_left : (a b : Bool) → a && b ≡ true → a ≡ true
and_left true b e = refl
and_left false b e = e

pub and_right : (a b : Bool) → a && b ≡ true → b ≡ true
and_right true b e = e
and_right false b e = absurd (true≢false (sym e))

pub and_true : (t : Bool) → t && true ≡ t
and_true true = refl
and_true false = refl

pub or_left : (a b : Bool) → a || b ≡ false → a ≡ false
or_left true b e = e
or_left false b e = refl

pub or_right : (a b : Bool) → a || b ≡ false → b ≡ false
or_right true b e = absurd (true≢false e)
or_right false b e = e

-- lo ≤ b ≤ hi
pub inside : (lo hi b : ℕ) → lo ≤ b → b ≤ hi → within lo hi b ≡ true
inside lo hi b g h = rw (le-leb lo b g, le-leb b hi h)

pub within_low : (lo hi b : ℕ) → within lo hi b ≡ true → lo ≤ b
within_low lo hi b e = leb-true lo b (and_left (leb lo b) (leb b hi) e)

pub within_top : (lo hi b : ℕ) → within lo hi b ≡ true → b ≤ hi
within_top lo hi b e = leb-true b hi (and_right (leb lo b) (leb b hi) e)

pub above : (lo hi b : ℕ) → hi < b → within lo hi b ≡ false
above lo hi b h = go (leb lo b) (lt-leb b hi h)
  where
    go : (t : Bool) → leb b hi ≡ false → t && leb b hi ≡ false
    go true e = e
    go false e = refl

pub below : (lo hi b : ℕ) → b < lo → within lo hi b ≡ false
below lo hi b h = rw (lt-leb lo b h)

-- a number outside a range is below or above it
pub either : {X : Type 0} (lo hi n : ℕ) → within lo hi n ≡ false → (n < lo → X) → (hi < n → X) → X
either {X} lo hi n e under over = go (leb lo n) refl
  where
    go : (t : Bool) → leb lo n ≡ t → X
    go true h = over (leb-false n hi (rw h at e))
    go false h = under (leb-false lo n h)

-- the test of two names, and their equality
pub same_equal : (a b : List ℕ) → same_bytes a b ≡ true → a ≡ b
same_equal [] [] e = refl
same_equal [] (y ∷ ys) e = absurd (true≢false (sym e))
same_equal (x ∷ xs) [] e = absurd (true≢false (sym e))
same_equal (x ∷ xs) (y ∷ ys) e = go (λ h. same_equal xs ys h) (eqb x y) refl
  where
    go : (same_bytes xs ys ≡ true → xs ≡ ys) → (t : Bool) → eqb x y ≡ t → x ∷ xs ≡ y ∷ ys
    go ih true q = ap₂ ◌∷◌ (eqb-true x y q) (ih (rw q at e))
    go ih false q = absurd (true≢false (sym (rw q at e)))

pub equal_same : (a : List ℕ) → same_bytes a a ≡ true
equal_same [] = refl
equal_same (x ∷ xs) = rw (eq-eqb x x refl) (equal_same xs)

-- a text that begins with a pattern is the pattern and what follows it
pub begins_split : (p t : List ℕ) → begins p t ≡ true → t ≡ p ++ drop (length p) t
begins_split [] t e = refl
begins_split (p ∷ ps) [] e = absurd (true≢false (sym e))
begins_split (p ∷ ps) (b ∷ bs) e =
    let q : b ≡ p = eqb-true b p (and_left (eqb b p) (begins ps bs) e) in
    rw q (ap (λ (l : List ℕ). p ∷ l) (begins_split ps bs (and_right (eqb b p) (begins ps bs) e)))

-- a byte of a part of a text
pub part_byte : (text : List ℕ) (i count k : ℕ) → k < length (take (i + count - i) (drop i text))
    → get_or (take (i + count - i) (drop i text)) k 0 ≡ get_or text (i + k) 0
part_byte text i count k h =
    get_or-take (i + count - i) (drop i text) k 0 (omega (arith, h, length-take (i + count - i) (drop i text))) ∙ get_or-drop i text k 0
