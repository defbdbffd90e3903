-- Where U+0085 and U+2028 stand (`special_bytes`), and how runs without them grow. Assumes nothing.
use mathlib.Core.Path.{◌≡◌, refl, ap, ◌∙◌}
use mathlib.Core.Bool.{Bool, true, false, ◌&&◌, ◌||◌}
use mathlib.Core.List.{List, [], ◌∷◌}
use Prim.Native.Nat.{ℕ, suc, ◌+◌, ◌-◌, ◌≤◌, ◌<◌}
use native.Mathlib.Omega.{arith}
use native.Mathlib.Numerals.{add-one}
use lib.Dec.{eqb, ltb}
use lib.ListN.{length, drop, get_or}
use lib.Seq.{drop-cons}
use borrow.Author.Tests.{ltb-true, ltb-false}
use Rattle.text.specs.Bytes.{begins}
use Rattle.text.specs.Version.{Rule, xml11}
use Rattle.text.proofs.Bytes.{or_left, or_right, and_true}
use Rattle.runs.specs.Specials.{special, Common}

-- ---- where one of the two stands

module _ (l : List ℕ) where
  pub special_nel : begins (0xC2 ∷ 0x85 ∷ []) l ≡ true → special xml11 l ≡ 2
  special_nel e = rw e

  pub special_ls : begins (0xC2 ∷ 0x85 ∷ []) l ≡ false → begins (0xE2 ∷ 0x80 ∷ 0xA8 ∷ []) l ≡ true → special xml11 l ≡ 3
  special_ls e f = rw (e, f)

  pub special_none : begins (0xC2 ∷ 0x85 ∷ []) l ≡ false → begins (0xE2 ∷ 0x80 ∷ 0xA8 ∷ []) l ≡ false → special xml11 l ≡ 0
  special_none e f = rw (e, f)

-- three bytes that are neither
pub special_bytes : (t : List ℕ) (i : ℕ) → i + 3 ≤ length t
    → (eqb (get_or t i 0) 0xC2 && eqb (get_or t (i + 1) 0) 0x85) || ((eqb (get_or t i 0) 0xE2 && eqb (get_or t (i + 1) 0) 0x80) && eqb (get_or t (i + 2) 0) 0xA8) ≡ false
    → special xml11 (drop i t) ≡ 0
special_bytes t i h e =
    let a = get_or t i 0 in
    let b = get_or t (i + 1) 0 in
    let c = get_or t (i + 2) 0 in
    let one : drop i t ≡ a ∷ drop (i + 1) t = rw (add-one i, drop-cons t i 0 (omega (arith, h))) in
    let two : drop (i + 1) t ≡ b ∷ drop (i + 2) t = let q : suc (i + 1) ≡ i + 2 = omega arith in rw (drop-cons t (i + 1) 0 (omega (arith, h)), q) in
    let three : drop (i + 2) t ≡ c ∷ drop (suc (i + 2)) t = drop-cons t (i + 2) 0 (omega (arith, h)) in
    rw (one, two, three)
    (special_none (a ∷ b ∷ c ∷ drop (suc (i + 2)) t)
    (ap (λ (u : Bool). eqb a 0xC2 && u) (and_true (eqb b 0x85)) ∙ or_left (eqb a 0xC2 && eqb b 0x85) ((eqb a 0xE2 && eqb b 0x80) && eqb c 0xA8) e)
    (shift (eqb a 0xE2) (eqb b 0x80) (eqb c 0xA8) ∙ or_right (eqb a 0xC2 && eqb b 0x85) ((eqb a 0xE2 && eqb b 0x80) && eqb c 0xA8) e))
  where
    shift : (x y z : Bool) → x && (y && (z && true)) ≡ (x && y) && z
    shift true true true = refl
    shift true true false = refl
    shift true false z = refl
    shift false y z = refl

-- ---- runs

pub common_of : (r : Rule) (t : List ℕ) (i n : ℕ) → i + n ≤ length t → ((m : ℕ) → m < n → special r (drop (i + m) t) ≡ 0) → Common r t i (i + n)
common_of r t i n h f =
    record {
      from = omega arith;
      to = h;
      none = λ k a b. let q : i + (k - i) ≡ k = omega (arith, a) in rw q at (f (k - i) (omega (arith, a, b)));
    }

pub common_join : (r : Rule) (t : List ℕ) (i j e : ℕ) → Common r t i j → Common r t j e → Common r t i e
common_join r t i j e p q =
    record {
      from = omega (arith, p.from, q.from);
      to = q.to;
      none = λ k a b. go k a b (ltb k j) refl;
    }
  where
    go : (k : ℕ) → i ≤ k → k < e → (b : Bool) → ltb k j ≡ b → special r (drop k t) ≡ 0
    go k a b true h = p.none k a (ltb-true k j h)
    go k a b false h = q.none k (ltb-false k j h) b

pub common_one : (r : Rule) (t : List ℕ) (i : ℕ) → i < length t → special r (drop i t) ≡ 0 → Common r t i (i + 1)
common_one r t i h e =
    record {
      from = omega arith;
      to = omega (arith, h);
      none = λ k a b. let q : k ≡ i = omega (arith, a, b) in rw q e;
    }
