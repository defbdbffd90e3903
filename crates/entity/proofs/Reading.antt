-- A command's numbers, read at its offset in the list. Assumes nothing.
use mathlib.Core.Path.{◌≡◌, refl, ap₂}
use mathlib.Core.Logic.{◌≢◌}
use mathlib.Core.List.{List}
use Prim.Native.Nat.{ℕ, zero, suc, ◌+◌, ◌*◌, ◌<◌}
use native.Mathlib.Omega.{arith}
use native.Mathlib.Numerals.{add-one, unary_clauses}
use lib.Dec.{eqb}
use lib.ListN.{get_or, drop}
use lib.Seq.{get_or-drop}
use borrow.Author.Tests.{eq-eqb, ne_eqb}
use Rattle.text.specs.Bytes.{pick}
use Rattle.entity.specs.Table.{little_endian, Body, inside, outside}
use Rattle.entity.specs.Steps.{declaration_at}

module _ (bytes : List ℕ) (i : ℕ) where
  pub u8_is : little_endian bytes i 1 ≡ get_or bytes i 0
  unfolding little_endian
  u8_is = omega arith

  pub u16_sum : little_endian bytes i 2 ≡ get_or bytes i 0 + get_or bytes (i + 1) 0 * 0x100
  unfolding little_endian
  u16_sum = rw (add-one i) (omega arith)

  pub u32_sum : little_endian bytes i 4 ≡ get_or bytes i 0 + get_or bytes (i + 1) 0 * 0x100 + get_or bytes (i + 2) 0 * 0x10000 + get_or bytes (i + 3) 0 * 0x1000000
  unfolding little_endian
  u32_sum =
      let q2 : i + 2 ≡ suc (suc i) = omega arith in
      let q3 : i + 3 ≡ suc (suc (suc i)) = omega arith in
      rw (add-one i, q2, q3) (omega arith)

  -- of a list of bytes
  pub u16_small : ((k : ℕ) → get_or bytes k 0 < 0x100) → little_endian bytes i 2 < 0x10000
  u16_small small = omega (arith, u16_sum, small i, small (i + 1))

-- a number of the list's rest
pub little_drop : (k : ℕ) (bytes : List ℕ) (i width : ℕ) → little_endian (drop k bytes) i width ≡ little_endian bytes (k + i) width
unfolding little_endian
little_drop k bytes i zero = refl
little_drop k bytes i (suc width) =
    simp unary_clauses at
    (ap₂ (λ (a b : ℕ). a + 256 * b) (get_or-drop k bytes i 0) (little_drop k bytes (suc i) width))

-- what the command at `at` gives its name
abbrev pub body_at : List ℕ → ℕ → Body
body_at list at = pick (eqb (get_or list at 0) 1) (inside (little_endian list (at + 6) 4) (little_endian list (at + 10) 2)) outside

pub body_text : (list : List ℕ) (at : ℕ) → get_or list at 0 ≡ 1 → body_at list at ≡ inside (little_endian list (at + 6) 4) (little_endian list (at + 10) 2)
body_text list at one = rw (eq-eqb (get_or list at 0) 1 one)

pub body_outside : (list : List ℕ) (at : ℕ) → get_or list at 0 ≢ 1 → body_at list at ≡ outside
body_outside list at other = rw (ne_eqb (get_or list at 0) 1 other)

pub declaration_at_lem : (list : List ℕ) (at : ℕ) → declaration_at list at
    ≡ record { name_start = little_endian list (at + 1) 4; name_length = get_or list (at + 5) 0; body = body_at list at }
unfolding declaration_at
declaration_at_lem list at =
    let q0 : at + 1 + 0 ≡ at + 1 = omega arith in
    let q4 : at + 1 + 4 ≡ at + 5 = omega arith in
    let q5 : at + 1 + 5 ≡ at + 6 = omega arith in
    let q9 : at + 1 + 9 ≡ at + 10 = omega arith in
    let s0 = rw q0 at (little_drop (at + 1) list 0 4) in
    let s4 = rw q4 at (little_drop (at + 1) list 4 1) in
    let s5 = rw q5 at (little_drop (at + 1) list 5 4) in
    let s9 = rw q9 at (little_drop (at + 1) list 9 2) in
    rw (s0, s4, u8_is list (at + 5), s5, s9)
