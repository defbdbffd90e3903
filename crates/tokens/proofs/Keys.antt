-- Keys of references met before: the bytes are the same where their keys are, and the key of a reference is not 0. Assumes nothing.
use mathlib.Core.Path.{◌≡◌, sym, ap, ◌∙◌}
use mathlib.Core.List.{List}
use Prim.Native.Nat.{ℕ, ◌+◌, ◌-◌, ◌*◌, ◌/◌, ◌%◌, ◌^◌, ◌≤◌, ◌<◌}
use native.Mathlib.Nat.{add-zero}
use native.Mathlib.Omega.{arith}
use lib.ListN.{get_or}
use lib.Pow.{high, low, field, shl-shr, mod-mod-pow}
use borrow.Author.Count.{below_none, below_more}
use Rattle.text.specs.Blocks.{word_at}
use Rattle.tokens.specs.Seen.{moved_up, key_at}

-- a byte of a number that was moved up and is not lost
moved_byte : (n w k : ℕ) → w ≤ 8 → k < w → moved_up (64 - 8 * w) n / 2 ^ (64 - 8 * w) / 2 ^ (8 * k) % 2 ^ 8 ≡ n / 2 ^ (8 * k) % 2 ^ 8
moved_byte n w k h l =
    let s = 64 - 8 * w in
    let j = 8 * (w - k - 1) in
    let q : 64 ≡ j + 8 + 8 * k + s = omega arith in
    ap (λ (x : ℕ). (n * 2 ^ s) % 2 ^ x / 2 ^ s / 2 ^ (8 * k) % 2 ^ 8) q
    ∙ ap (λ (x : ℕ). x / 2 ^ (8 * k) % 2 ^ 8) (field (n * 2 ^ s) (j + 8 + 8 * k) s ∙ ap (λ (x : ℕ). x % 2 ^ (j + 8 + 8 * k)) (shl-shr n s))
    ∙ ap (λ (x : ℕ). x % 2 ^ 8) (field n (j + 8) (8 * k))
    ∙ mod-mod-pow (n / 2 ^ (8 * k)) j 8

-- a byte of a number, by what stands above and below it
split_byte : (n high_part low_part b k : ℕ) → b < 2 ^ 8 → low_part < 2 ^ k → n ≡ (high_part * 2 ^ 8 + b) * 2 ^ k + low_part → n / 2 ^ k % 2 ^ 8 ≡ b
split_byte n high_part low_part b k h l e =
    ap (λ (x : ℕ). x / 2 ^ k % 2 ^ 8) e ∙ ap (λ (x : ℕ). x % 2 ^ 8) (high (high_part * 2 ^ 8 + b) k l) ∙ low high_part 8 h

module _ (text : List ℕ) (bytes : (k : ℕ) → get_or text k 0 < 256) where
  word_byte : (i k : ℕ) → k < 8 → word_at text i / 2 ^ (8 * k) % 2 ^ 8 ≡ get_or text (i + k) 0
  word_byte i =
      let n = word_at text i in
      let a0 = get_or text i 0 in
      let a1 = get_or text (i + 1) 0 in
      let a2 = get_or text (i + 2) 0 in
      let a3 = get_or text (i + 3) 0 in
      let a4 = get_or text (i + 4) 0 in
      let a5 = get_or text (i + 5) 0 in
      let a6 = get_or text (i + 6) 0 in
      let a7 = get_or text (i + 7) 0 in
      let h0 = bytes i in
      let h1 = bytes (i + 1) in
      let h2 = bytes (i + 2) in
      let h3 = bytes (i + 3) in
      let h4 = bytes (i + 4) in
      let h5 = bytes (i + 5) in
      let h6 = bytes (i + 6) in
      let h7 = bytes (i + 7) in
      -- what stands above each byte
      let v6 = a7 in
      let v5 = v6 * 0x100 + a6 in
      let v4 = v5 * 0x100 + a5 in
      let v3 = v4 * 0x100 + a4 in
      let v2 = v3 * 0x100 + a3 in
      let v1 = v2 * 0x100 + a2 in
      let v0 = v1 * 0x100 + a1 in
      -- what stands below each byte
      let u2 = a1 * 0x100 + a0 in
      let u3 = a2 * 0x10000 + u2 in
      let u4 = a3 * 0x1000000 + u3 in
      let u5 = a4 * 0x100000000 + u4 in
      let u6 = a5 * 0x10000000000 + u5 in
      let u7 = a6 * 0x1000000000000 + u6 in
      let l2 : u2 < 0x10000 = omega (arith, h0, h1) in
      let l3 : u3 < 0x1000000 = omega (arith, h2, l2) in
      let l4 : u4 < 0x100000000 = omega (arith, h3, l3) in
      let l5 : u5 < 0x10000000000 = omega (arith, h4, l4) in
      let l6 : u6 < 0x1000000000000 = omega (arith, h5, l5) in
      let l7 : u7 < 0x100000000000000 = omega (arith, h6, l6) in
      let P : ℕ → Type 0 = λ k. word_at text i / 2 ^ (8 * k) % 2 ^ 8 ≡ get_or text (i + k) 0 in
      let s0 : P 0 = split_byte n v0 0 a0 0 h0 (omega arith) (omega arith) ∙ ap (λ (x : ℕ). get_or text x 0) (sym (add-zero i)) in
      let s1 : P 1 = split_byte n v1 a0 a1 8 h1 h0 (omega arith) in
      let s2 : P 2 = split_byte n v2 u2 a2 16 h2 l2 (omega arith) in
      let s3 : P 3 = split_byte n v3 u3 a3 24 h3 l3 (omega arith) in
      let s4 : P 4 = split_byte n v4 u4 a4 32 h4 l4 (omega arith) in
      let s5 : P 5 = split_byte n v5 u5 a5 40 h5 l5 (omega arith) in
      let s6 : P 6 = split_byte n v6 u6 a6 48 h6 l6 (omega arith) in
      let s7 : P 7 = split_byte n 0 u7 a7 56 h7 l7 (omega arith) in
      below_more P 7 (below_more P 6 (below_more P 5 (below_more P 4 (below_more P 3 (below_more P 2 (below_more P 1 (below_more P 0 (below_none P) s0) s1) s2) s3) s4) s5) s6) s7

-- where the keys of so many bytes are the same, the bytes are
pub key_same : (text : List ℕ) (e p w : ℕ) → 1 ≤ w → w ≤ 8 → ((k : ℕ) → get_or text k 0 < 256)
    → key_at (64 - 8 * w) text e ≡ key_at (64 - 8 * w) text p
    → (k : ℕ) → k < w → get_or text (e + k) 0 ≡ get_or text (p + k) 0
key_same text e p w h g bytes same k l =
    let s = 64 - 8 * w in
    let in_word : k < 8 = omega arith in
    sym (word_byte text bytes e k in_word)
    ∙ sym (moved_byte (word_at text e) w k g l)
    ∙ ap (λ (x : ℕ). x / 2 ^ s / 2 ^ (8 * k) % 2 ^ 8) same
    ∙ moved_byte (word_at text p) w k g l
    ∙ word_byte text bytes p k in_word

-- the key of eight bytes, the first an ampersand, is not 0
pub key_some : (text : List ℕ) (e shift : ℕ) → shift ≡ 0 → get_or text e 0 ≡ 38 → ((k : ℕ) → get_or text k 0 < 256) → key_at shift text e ≡ 0 → ⊥
key_some text e shift none amp bytes zeroed =
    let q : key_at 0 text e ≡ 0 = ap (λ (x : ℕ). key_at x text e) (sym none) ∙ zeroed in
    let b1 = bytes (e + 1) in
    let b2 = bytes (e + 2) in
    let b3 = bytes (e + 3) in
    let b4 = bytes (e + 4) in
    let b5 = bytes (e + 5) in
    let b6 = bytes (e + 6) in
    let b7 = bytes (e + 7) in
    let r : (word_at text e * 1) % 0x10000000000000000 ≡ 0 = q in
    omega (arith, amp, b1, b2, b3, b4, b5, b6, b7, r)

-- from the number of bytes to the shift and back
pub shift_width : (w : ℕ) → 1 ≤ w → w ≤ 8 → (64 - 8 * w < 64) × (8 - (64 - 8 * w) / 8 ≡ w)
shift_width w h g = (omega arith, omega arith)
