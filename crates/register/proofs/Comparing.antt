-- Two texts compared, byte by byte and by words of eight: `alike_all`, `differ_at`, `differ_word`. Assumes nothing.
use mathlib.Core.Path.{◌≡◌, refl, ap, sym, ◌∙◌}
use mathlib.Core.Bool.{Bool, true, false}
use mathlib.Core.List.{List}
use Prim.Native.Nat.{ℕ, ◌+◌, ◌-◌, ◌*◌, ◌≤◌, ◌<◌}
use native.Mathlib.Omega.{arith}
use native.Mathlib.Nat.{add-zero}
use lib.Dec.{eqb, ltb}
use lib.ListN.{length, get_or}
use lib.Seq.{ext_get_or}
use borrow.Author.Count.{below_none, below_more}
use borrow.Author.Tests.{eqb-true, eqb-false, eq-eqb, ne_eqb, ltb-true, ltb-false}
use Rattle.text.specs.Bytes.{same_bytes}
use Rattle.text.specs.Blocks.{word_at}
use Rattle.text.specs.Utf8.{utf8_end, well_formed}
use Rattle.text.proofs.Bytes.{same_equal, equal_same, contrary}
use Rattle.text.proofs.Longest.{end_whole, whole_end}
use Rattle.text.proofs.Utf8.{tested, testable}
use Rattle.register.specs.Places.{Small, Alike}

-- the test of UTF-8 by the end of the longest prefix
pub utf8_tested : (t : List ℕ) {end : ℕ} → end ≡ utf8_end t → eqb end (length t) ≡ well_formed t
utf8_tested t {end} e = go (well_formed t) refl
  where
    go : (x : Bool) → well_formed t ≡ x → eqb end (length t) ≡ well_formed t
    go true h = eq-eqb end (length t) (e ∙ whole_end t (tested t h)) ∙ sym h
    go false h = ne_eqb end (length t) (λ q. contrary (testable t (end_whole t (sym e ∙ q))) h) ∙ sym h

-- the lowest byte of a number, and what stands above it
lowest : (a b x y : ℕ) → a < 0x100 → b < 0x100 → a + x * 0x100 ≡ b + y * 0x100 → (a ≡ b) × (x ≡ y)
lowest a b x y h k e = (omega arith, omega arith)

module _ (a b : List ℕ) where
  differ : (a ≡ b → ⊥) → false ≡ same_bytes a b
  differ other = go (same_bytes a b) refl
    where
      go : (t : Bool) → same_bytes a b ≡ t → false ≡ same_bytes a b
      go true e = absurd (other (same_equal a b e))
      go false e = sym e

  pub differ_length : (length a ≡ length b → ⊥) → false ≡ same_bytes a b
  differ_length other = differ (λ e. other (ap length e))

  pub differ_at : (i : ℕ) → (get_or a i 0 ≡ get_or b i 0 → ⊥) → false ≡ same_bytes a b
  differ_at i other = differ (λ e. other (ap (λ (l : List ℕ). get_or l i 0) e))

  pub differ_word : (i : ℕ) → (word_at a i ≡ word_at b i → ⊥) → false ≡ same_bytes a b
  differ_word i other = differ (λ e. other (ap (λ (l : List ℕ). word_at l i) e))

  pub alike_none : Alike a b 0
  alike_none = record { each = below_none (λ k. get_or a k 0 ≡ get_or b k 0) }

  pub alike_more : (i : ℕ) → Alike a b i → get_or a i 0 ≡ get_or b i 0 → Alike a b (i + 1)
  alike_more i l e = record { each = below_more (λ k. get_or a k 0 ≡ get_or b k 0) i l.each e }

  pub alike_all : (i : ℕ) → length a ≡ length b → Alike a b i → length a ≤ i → true ≡ same_bytes a b
  alike_all i e l h =
      let q : a ≡ b = ext_get_or 0 a b e (λ k m. l.each k (omega arith)) in
      sym (ap (λ (x : List ℕ). same_bytes x b) q ∙ equal_same b)

  module _ (sa : Small a) (sb : Small b) where
    -- the bytes of equal words
    word_bytes : (i : ℕ) → word_at a i ≡ word_at b i → (k : ℕ) → k < 8 → get_or a (i + k) 0 ≡ get_or b (i + k) 0
    word_bytes i e =
        let a0 = get_or a i 0 in
        let a1 = get_or a (i + 1) 0 in
        let a2 = get_or a (i + 2) 0 in
        let a3 = get_or a (i + 3) 0 in
        let a4 = get_or a (i + 4) 0 in
        let a5 = get_or a (i + 5) 0 in
        let a6 = get_or a (i + 6) 0 in
        let a7 = get_or a (i + 7) 0 in
        let b0 = get_or b i 0 in
        let b1 = get_or b (i + 1) 0 in
        let b2 = get_or b (i + 2) 0 in
        let b3 = get_or b (i + 3) 0 in
        let b4 = get_or b (i + 4) 0 in
        let b5 = get_or b (i + 5) 0 in
        let b6 = get_or b (i + 6) 0 in
        let b7 = get_or b (i + 7) 0 in
        let v6 = a6 + a7 * 0x100 in
        let v5 = a5 + v6 * 0x100 in
        let v4 = a4 + v5 * 0x100 in
        let v3 = a3 + v4 * 0x100 in
        let v2 = a2 + v3 * 0x100 in
        let v1 = a1 + v2 * 0x100 in
        let w6 = b6 + b7 * 0x100 in
        let w5 = b5 + w6 * 0x100 in
        let w4 = b4 + w5 * 0x100 in
        let w3 = b3 + w4 * 0x100 in
        let w2 = b2 + w3 * 0x100 in
        let w1 = b1 + w2 * 0x100 in
        let q : a0 + v1 * 0x100 ≡ b0 + w1 * 0x100 = omega arith in
        let s0 = lowest a0 b0 v1 w1 (sa i) (sb i) q in
        let s1 = lowest a1 b1 v2 w2 (sa (i + 1)) (sb (i + 1)) s0.1 in
        let s2 = lowest a2 b2 v3 w3 (sa (i + 2)) (sb (i + 2)) s1.1 in
        let s3 = lowest a3 b3 v4 w4 (sa (i + 3)) (sb (i + 3)) s2.1 in
        let s4 = lowest a4 b4 v5 w5 (sa (i + 4)) (sb (i + 4)) s3.1 in
        let s5 = lowest a5 b5 v6 w6 (sa (i + 5)) (sb (i + 5)) s4.1 in
        let s6 = lowest a6 b6 a7 b7 (sa (i + 6)) (sb (i + 6)) s5.1 in
        let P : ℕ → Type 0 = λ k. get_or a (i + k) 0 ≡ get_or b (i + k) 0 in
        let z : get_or a (i + 0) 0 ≡ get_or b (i + 0) 0 = rw (add-zero i) s0.0 in
        let c2 = below_more P 1 (below_more P 0 (below_none P) z) s1.0 in
        let c4 = below_more P 3 (below_more P 2 c2 s2.0) s3.0 in
        let c6 = below_more P 5 (below_more P 4 c4 s4.0) s5.0 in
        below_more P 7 (below_more P 6 c6 s6.0) s6.1

    -- eight bytes from `i` on, which may be known already
    pub alike_word : (i j : ℕ) → Alike a b i → j ≤ i → word_at a j ≡ word_at b j → Alike a b (j + 8)
    alike_word i j l h e = record { each = λ k m. go (ltb k j) refl m }
      where
        go : {k : ℕ} (t : Bool) → ltb k j ≡ t → k < j + 8 → get_or a k 0 ≡ get_or b k 0
        go {k} true q m = l.each k (let g = ltb-true k j q in omega arith)
        go {k} false q m =
            let g = ltb-false k j q in
            let p : j + (k - j) ≡ k = omega arith in
            rw p at (word_bytes j e (k - j) (omega arith))

    -- the last word decides, where all before it are the same
    pub last_word : (i j : ℕ) → length a ≡ length b → Alike a b i → j ≤ i → j + 8 ≡ length a → eqb (word_at a j) (word_at b j) ≡ same_bytes a b
    last_word i j e l h q = go (eqb (word_at a j) (word_at b j)) refl
      where
        go : (t : Bool) → eqb (word_at a j) (word_at b j) ≡ t → t ≡ same_bytes a b
        go true w = alike_all (j + 8) e (alike_word i j l h (eqb-true (word_at a j) (word_at b j) w)) (omega arith)
        go false w = differ_word j (eqb-false (word_at a j) (word_at b j) w)
