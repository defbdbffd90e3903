-- Blocks that are tested byte by byte with no branch, `hit = hit | test`: what such a loop keeps, over any test (`missed_start`,
-- `missed_more`), and what it has shown at its end (`missed_all`). Assumes nothing.
use mathlib.Core.Path.{◌≡◌, sym, ◌∙◌}
use mathlib.Core.Bool.{Bool, false, ◌||◌}
use Prim.Native.Nat.{ℕ, ◌+◌, ◌≤◌, ◌<◌, zero-le}
use native.Mathlib.Omega.{arith}
use borrow.Author.Count.{below_none, below_more}
use Rattle.text.proofs.Bytes.{or_left, or_right}

-- of `count` places the first `k` were tested; where nothing hit, the test fails at each of them
pub record Missed (test : ℕ → Bool) (count : ℕ) (hit : Bool) (k : ℕ) : Type 0 where
  pub to : k ≤ count
  pub none : hit ≡ false → (m : ℕ) → m < k → test m ≡ false

module _ (test : ℕ → Bool) where
  pub missed_start : (count : ℕ) → Missed test count false 0
  missed_start count = record { to = zero-le; none = λ e. below_none (λ (m : ℕ). test m ≡ false) }

  pub missed_more : {count k : ℕ} {hit b : Bool} → Missed test count hit k → k < count → b ≡ test k → Missed test count (hit || b) (k + 1)
  missed_more {count} {k} {hit} {b} m h q =
      record {
        to = omega (arith, h);
        none = λ e. below_more (λ (m : ℕ). test m ≡ false) k (m.none (or_left hit b e)) (sym q ∙ or_right hit b e);
      }

  pub missed_all : {count k : ℕ} {hit : Bool} → Missed test count hit k → count ≤ k → hit ≡ false → (m : ℕ) → m < count → test m ≡ false
  missed_all m h e j l = m.none e j (omega (arith, h, l))
