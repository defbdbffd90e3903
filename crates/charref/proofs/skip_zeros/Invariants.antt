use lib.ListN.{length, drop}
use Prim.Native.Nat.{ℕ, ◌≤◌, ◌-◌}
use mathlib.Core.Path.{◌≡◌}
use Rattle.charref.specs.CharRef.{number_from}
use Rattle.charref.proofs.skip_zeros.Given as goal

abbrev pub invariant-loop-i : goal.invariant-loop-i
invariant-loop-i l = (l.i ≤ length l.text) × ((base : ℕ) → 1 ≤ base → number_from base 0 (drop l.i l.text) ≡ number_from base 0 l.text)

abbrev pub decreases-loop-i : goal.decreases-loop-i
decreases-loop-i l = length l.text - l.i
