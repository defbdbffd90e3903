-- Texts that stand for themselves are well-formed UTF-8 (`simple_well_formed`, `simple_end`), and how such a part of a text grows. Assumes nothing.
use mathlib.Core.Path.{◌≡◌, refl}
use mathlib.Core.Bool.{Bool, true, false, ◌||◌, true≢false}
use mathlib.Core.List.{List}
use Prim.Native.Nat.{ℕ, ◌+◌, ◌-◌, ◌≤◌, ◌<◌, zero-le}
use native.Mathlib.Omega.{arith}
use native.Mathlib.Nat.{le_refl}
use lib.Dec.{eqb, ltb}
use lib.ListN.{length, get_or}
use lib.Seq.{take-length}
use borrow.Author.Tests.{ltb-true, ltb-false, eqb-false}
use Rattle.text.specs.Utf8.{WellFormed, utf8_end}
use Rattle.text.specs.Blocks.{AtMost}
use Rattle.text.specs.Simple.{special, SimplePart, Simple}
use Rattle.text.proofs.Bytes.{or_left, or_right}
use Rattle.text.proofs.Blocks.{ascii_whole}
use Rattle.text.proofs.Longest.{whole_end}

-- ---- a byte that is not special

module _ {b : ℕ} (e : special b ≡ false) where
  pub not_control : 32 ≤ b
  not_control = ltb-false b 32 (or_left (ltb b 32) (ltb 126 b) (or_left (ltb b 32 || ltb 126 b) (eqb b 38) e))

  pub not_above : b ≤ 126
  not_above = ltb-false 126 b (or_right (ltb b 32) (ltb 126 b) (or_left (ltb b 32 || ltb 126 b) (eqb b 38) e))

  pub not_amp : b ≡ 38 → ⊥
  not_amp = eqb-false b 38 (or_right (ltb b 32 || ltb 126 b) (eqb b 38) e)

-- ---- parts

module _ (t : List ℕ) where
  pub simple_none : (i : ℕ) → i ≤ length t → SimplePart t i i
  simple_none i h = record { to = h; each = λ k g l. absurd (omega (arith, g, l)) }

  pub simple_join : {i k : ℕ} (j : ℕ) → SimplePart t i j → SimplePart t j k → SimplePart t i k
  simple_join {i} {k} j a b = record { to = b.to; each = λ m g h. go m (ltb m j) refl g h }
    where
      go : (m : ℕ) (x : Bool) → ltb m j ≡ x → i ≤ m → m < k → special (get_or t m 0) ≡ false
      go m true e g h = a.each m g (ltb-true m j e)
      go m false e g h = b.each m (ltb-false m j e) h

  pub simple_byte : (i : ℕ) → i < length t → special (get_or t i 0) ≡ false → SimplePart t i (i + 1)
  simple_byte i h e = record { to = omega (arith, h); each = λ k g l. let q : k ≡ i = omega (arith, g, l) in rw q e }

  -- where the last `size` bytes are simple, a rest that is no longer is
  pub simple_last : (i size : ℕ) → size ≤ length t → length t - i ≤ size → SimplePart t (length t - size) (length t - size + size)
      → SimplePart t i (length t)
  simple_last i size h g p = record { to = le_refl (length t); each = λ k a b. p.each k (omega arith) (omega arith) }

-- ---- a block test with an accumulator for each of two tests

-- both unset after a turn: they were so before it, and the turn set none
none_two : (o a x y : Bool) → o || x || (a || y) ≡ false → (o || a ≡ false) × (x || y ≡ false)
none_two false false false y e = (refl, e)
none_two false false true y e = absurd (true≢false e)
none_two false true false y e = absurd (true≢false e)
none_two false true true y e = absurd (true≢false e)
none_two true a x y e = absurd (true≢false e)

-- after k of `size` bytes
pub record LookedSimple (t : List ℕ) (i size : ℕ) (hit : Bool) (k : ℕ) : Type 0 where
  pub within : k ≤ size
  pub clear : hit ≡ false → SimplePart t i (i + k)

module _ (t : List ℕ) (i size : ℕ) (h : i + size ≤ length t) where
  pub looked_none : LookedSimple t i size false 0
  looked_none = let q : i + 0 ≡ i = omega arith in record { within = zero-le; clear = λ e. rw q (simple_none t i (omega arith)) }

  pub looked_more : (o a : Bool) (k : ℕ) → k < size → LookedSimple t i size (o || a) k
      → LookedSimple t i size (o || (ltb (get_or t (i + k) 0) 32 || ltb 126 (get_or t (i + k) 0)) || (a || eqb (get_or t (i + k) 0) 38)) (k + 1)
  looked_more o a k l p =
      let b = get_or t (i + k) 0 in
      let q : i + k + 1 ≡ i + (k + 1) = omega arith in
      record {
        within = omega arith;
        clear = λ e.
            let each = none_two o a (ltb b 32 || ltb 126 b) (eqb b 38) e in
            rw q at (simple_join t (i + k) (p.clear each.0) (simple_byte t (i + k) (omega arith) each.1));
      }

-- ---- the whole text

pub simple_well_formed : (t : List ℕ) → Simple t → WellFormed t
simple_well_formed t s = rw (take-length t) at (ascii_whole t 0 (length t) 0x7F ascii (omega arith) (omega arith)).whole
  where
    ascii : AtMost t 0 (length t) 0x7F
    ascii = record { at_most = λ k l. omega (arith, not_above {b = get_or t (0 + k) 0} (s.each (0 + k) zero-le (omega (arith, l)))) }

pub simple_end : (t : List ℕ) → Simple t → utf8_end t ≡ length t
simple_end t s = whole_end t (simple_well_formed t s)
