-- Eight bytes as one number: where no highest bit is set, each byte is ASCII. Assumes nothing.
use mathlib.Core.Path.{◌≡◌, refl, sym, ◌∙◌, ap}
use mathlib.Core.List.{List}
use Prim.Native.Nat.{ℕ, ◌+◌, ◌*◌, ◌-◌, ◌^◌, ◌≤◌, ◌<◌}
use native.Mathlib.Omega.{arith}
use native.Mathlib.Nat.{add-zero}
use lib.Bits.{bit_and, bit_or, and_block, and_zero_r, or_add_and, and_le_l, and_le_r}
use lib.Dec.{leb, ltb}
use mathlib.Core.Bool.{Bool, true, false}
use borrow.Author.Tests.{leb-true, leb-false, ltb-true, ltb-false}
use lib.ListN.{get_or}
use borrow.Author.Count.{below_none, below_more}
use Rattle.text.specs.Blocks.{AtMost, word_at}

-- of a byte: the bit 80
low_byte : (r : ℕ) → r < 0x100 → bit_and r 0x80 ≡ 0 → r ≤ 0x7F
low_byte r h e = go (leb r 0x7F) refl
  where
    high : (k : ℕ) → k < 0x80 → bit_and (1 * 2 ^ 7 + k) (1 * 2 ^ 7 + 0) ≡ 0x80
    high k l = and_block 7 1 1 k 0 l (omega arith) ∙ rw (and_zero_r k)

    go : (t : Bool) → leb r 0x7F ≡ t → r ≤ 0x7F
    go true d = leb-true r 0x7F d
    go false d =
        let g = leb-false r 0x7F d in
        let q : 1 * 2 ^ 7 + (r - 0x80) ≡ r = omega arith in
        let z : ◌≡◌ {A = ℕ} 0x80 0 = sym (high (r - 0x80) (omega arith)) ∙ ap (λ (n : ℕ). bit_and n 0x80) q ∙ e in
        absurd (omega arith)

-- of a byte and what stands above it
step : (a m r : ℕ) → r < 0x100 → bit_and (a * 2 ^ 8 + r) (m * 2 ^ 8 + 0x80) ≡ 0 → (bit_and a m ≡ 0) × (r ≤ 0x7F)
step a m r h e =
    let q : bit_and a m * 2 ^ 8 + bit_and r 0x80 ≡ 0 = sym (and_block 8 a m r 0x80 h (omega arith)) ∙ e in
    (omega arith, low_byte r h (omega arith))

-- of eight bytes
pub low_word : (t : List ℕ) (i : ℕ) → ((k : ℕ) → get_or t k 0 < 0x100) → bit_and (word_at t i) 0x8080808080808080 ≡ 0 → AtMost t i 8 0x7F
low_word t i small e =
    let b0 = get_or t i 0 in
    let b1 = get_or t (i + 1) 0 in
    let b2 = get_or t (i + 2) 0 in
    let b3 = get_or t (i + 3) 0 in
    let b4 = get_or t (i + 4) 0 in
    let b5 = get_or t (i + 5) 0 in
    let b6 = get_or t (i + 6) 0 in
    let b7 = get_or t (i + 7) 0 in
    let w7 = b7 in
    let w6 = b6 + b7 * 0x100 in
    let w5 = b5 + b6 * 0x100 + b7 * 0x10000 in
    let w4 = b4 + b5 * 0x100 + b6 * 0x10000 + b7 * 0x1000000 in
    let w3 = b3 + b4 * 0x100 + b5 * 0x10000 + b6 * 0x1000000 + b7 * 0x100000000 in
    let w2 = b2 + b3 * 0x100 + b4 * 0x10000 + b5 * 0x1000000 + b6 * 0x100000000 + b7 * 0x10000000000 in
    let w1 = b1 + b2 * 0x100 + b3 * 0x10000 + b4 * 0x1000000 + b5 * 0x100000000 + b6 * 0x10000000000 + b7 * 0x1000000000000 in
    let q0 : w1 * 2 ^ 8 + b0 ≡ word_at t i = omega arith in
    let s0 = step w1 0x80808080808080 b0 (small i) (rw q0 e) in
    let q1 : w2 * 2 ^ 8 + b1 ≡ w1 = omega arith in
    let s1 = step w2 0x808080808080 b1 (small (i + 1)) (rw q1 s0.0) in
    let q2 : w3 * 2 ^ 8 + b2 ≡ w2 = omega arith in
    let s2 = step w3 0x8080808080 b2 (small (i + 2)) (rw q2 s1.0) in
    let q3 : w4 * 2 ^ 8 + b3 ≡ w3 = omega arith in
    let s3 = step w4 0x80808080 b3 (small (i + 3)) (rw q3 s2.0) in
    let q4 : w5 * 2 ^ 8 + b4 ≡ w4 = omega arith in
    let s4 = step w5 0x808080 b4 (small (i + 4)) (rw q4 s3.0) in
    let q5 : w6 * 2 ^ 8 + b5 ≡ w5 = omega arith in
    let s5 = step w6 0x8080 b5 (small (i + 5)) (rw q5 s4.0) in
    let q6 : w7 * 2 ^ 8 + b6 ≡ w6 = omega arith in
    let s6 = step w7 0x80 b6 (small (i + 6)) (rw q6 s5.0) in
    let s7 : b7 ≤ 0x7F = low_byte b7 (small (i + 7)) s6.0 in
    let P : ℕ → Type 0 = λ k. get_or t (i + k) 0 ≤ 0x7F in
    let z : get_or t (i + 0) 0 ≤ 0x7F = rw (add-zero i) s0.1 in
    record { at_most = below_more P 7 (below_more P 6 (below_more P 5 (below_more P 4 (below_more P 3 (below_more P 2 (below_more P 1 (below_more P 0 (below_none P) z) s1.1) s2.1) s3.1) s4.1) s5.1) s6.1) s7 }

-- nothing set in the two joined: nothing in either
pub or_none : (a b : ℕ) → bit_or a b ≡ 0 → (a ≡ 0) × (b ≡ 0)
or_none a b e = (omega (arith, or_add_and a b, and_le_r a b), omega (arith, or_add_and a b, and_le_l a b))

-- one stretch after the other
pub at_most_append : (t : List ℕ) (i n m top : ℕ) → AtMost t i n top → AtMost t (i + n) m top → AtMost t i (n + m) top
at_most_append t i n m top a b = record { at_most = λ k h. go (ltb k n) refl h }
  where
    go : {k : ℕ} (x : Bool) → ltb k n ≡ x → k < n + m → get_or t (i + k) 0 ≤ top
    go {k} true e h = a.at_most k (ltb-true k n e)
    go {k} false e h =
        let g = ltb-false k n e in
        let q : i + n + (k - n) ≡ i + k = omega arith in
        rw q at (b.at_most (k - n) (omega arith))
