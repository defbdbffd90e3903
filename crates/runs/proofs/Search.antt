-- The search for the next stop: the near bytes one by one, then blocks. Assumes nothing.
use mathlib.Core.Path.{◌≡◌}
use mathlib.Core.Bool.{Bool, false}
use mathlib.Core.List.{List}
use Prim.Native.Nat.{ℕ, ◌+◌, ◌≤◌, ◌<◌}
use native.Mathlib.Omega.{arith}
use lib.ListN.{length, get_or}
use Rattle.output.specs.Runs.{Plain}
use Rattle.output.proofs.Runs.{plain_byte, plain_join}
use Rattle.runs.specs.RunEnds.{RunEnd}

-- a part of a run
pub plain_part : {stops : ℕ → Bool} {text : List ℕ} {i f m n : ℕ} → Plain stops text i f → i ≤ m → m ≤ n → n ≤ f → Plain stops text m n
plain_part p h g l = record { from = g; to = omega (arith, p.to); none = λ k a b. p.none k (omega arith) (omega arith) }

module _ (stops : ℕ → Bool) (text : List ℕ) (i : ℕ) where
  -- one byte more
  pub plain_next : (k : ℕ) → i + k < length text → Plain stops text i (i + k) → stops (get_or text (i + k) 0) ≡ false → Plain stops text i (i + (k + 1))
  plain_next k h p e =
      let q : i + k + 1 ≡ i + (k + 1) = omega arith in
      rw q at (plain_join stops text i (i + k) (i + k + 1) p (plain_byte stops text (i + k) h e))

  -- the rest of a run
  pub end_after : {e f : ℕ} → Plain stops text i e → RunEnd stops text e f → RunEnd stops text i f
  end_after {e} {f} p r = record { run = plain_join stops text i e f p r.run; ends = r.ends }
