-- Bytes as one number: eight are the same where their numbers are, and the numbers of four where they are. Assumes nothing.
use mathlib.Core.Path.{◌≡◌}
use mathlib.Core.List.{List}
use Prim.Native.Nat.{ℕ, ◌+◌, ◌*◌, ◌<◌}
use native.Mathlib.Omega.{arith}
use native.Mathlib.Nat.{add-zero}
use lib.ListN.{get_or}
use borrow.Author.Count.{below_none, below_more}
use Rattle.text.specs.Blocks.{word_at}
use Rattle.entity.specs.Table.{little_endian}
use Rattle.entity.proofs.Reading.{u32_sum}

-- the lowest byte, and what stands above it
pub lowest : (a b x y : ℕ) → a < 0x100 → b < 0x100 → a + x * 0x100 ≡ b + y * 0x100 → (a ≡ b) × (x ≡ y)
lowest a b x y h k e = (omega arith, omega arith)

module _ (t u : List ℕ) (i j : ℕ) where
  pub word_bytes : ((k : ℕ) → get_or t k 0 < 0x100) → ((k : ℕ) → get_or u k 0 < 0x100) → word_at t i ≡ word_at u j
      → (k : ℕ) → k < 8 → get_or t (i + k) 0 ≡ get_or u (j + k) 0
  word_bytes ts us e =
      let a0 = get_or t i 0 in
      let a1 = get_or t (i + 1) 0 in
      let a2 = get_or t (i + 2) 0 in
      let a3 = get_or t (i + 3) 0 in
      let a4 = get_or t (i + 4) 0 in
      let a5 = get_or t (i + 5) 0 in
      let a6 = get_or t (i + 6) 0 in
      let a7 = get_or t (i + 7) 0 in
      let b0 = get_or u j 0 in
      let b1 = get_or u (j + 1) 0 in
      let b2 = get_or u (j + 2) 0 in
      let b3 = get_or u (j + 3) 0 in
      let b4 = get_or u (j + 4) 0 in
      let b5 = get_or u (j + 5) 0 in
      let b6 = get_or u (j + 6) 0 in
      let b7 = get_or u (j + 7) 0 in
      let v6 = a6 + a7 * 0x100 in
      let v5 = a5 + v6 * 0x100 in
      let v4 = a4 + v5 * 0x100 in
      let v3 = a3 + v4 * 0x100 in
      let v2 = a2 + v3 * 0x100 in
      let v1 = a1 + v2 * 0x100 in
      let w6 = b6 + b7 * 0x100 in
      let w5 = b5 + w6 * 0x100 in
      let w4 = b4 + w5 * 0x100 in
      let w3 = b3 + w4 * 0x100 in
      let w2 = b2 + w3 * 0x100 in
      let w1 = b1 + w2 * 0x100 in
      let q : a0 + v1 * 0x100 ≡ b0 + w1 * 0x100 = omega arith in
      let s0 = lowest a0 b0 v1 w1 (ts i) (us j) q in
      let s1 = lowest a1 b1 v2 w2 (ts (i + 1)) (us (j + 1)) s0.1 in
      let s2 = lowest a2 b2 v3 w3 (ts (i + 2)) (us (j + 2)) s1.1 in
      let s3 = lowest a3 b3 v4 w4 (ts (i + 3)) (us (j + 3)) s2.1 in
      let s4 = lowest a4 b4 v5 w5 (ts (i + 4)) (us (j + 4)) s3.1 in
      let s5 = lowest a5 b5 v6 w6 (ts (i + 5)) (us (j + 5)) s4.1 in
      let s6 = lowest a6 b6 a7 b7 (ts (i + 6)) (us (j + 6)) s5.1 in
      let P : ℕ → Type 0 = λ k. get_or t (i + k) 0 ≡ get_or u (j + k) 0 in
      let z : get_or t (i + 0) 0 ≡ get_or u (j + 0) 0 = rw (add-zero i, add-zero j) s0.0 in
      let c2 = below_more P 1 (below_more P 0 (below_none P) z) s1.0 in
      let c4 = below_more P 3 (below_more P 2 c2 s2.0) s3.0 in
      let c6 = below_more P 5 (below_more P 4 c4 s4.0) s5.0 in
      below_more P 7 (below_more P 6 c6 s6.0) s6.1

  pub same_u32 : ((k : ℕ) → k < 4 → get_or t (i + k) 0 ≡ get_or u (j + k) 0) → little_endian t i 4 ≡ little_endian u j 4
  same_u32 same =
      let z : get_or t i 0 ≡ get_or u j 0 = rw (add-zero i, add-zero j) at (same 0 (omega arith)) in
      rw (u32_sum t i, u32_sum u j, z, same 1 (omega arith), same 2 (omega arith), same 3 (omega arith))
