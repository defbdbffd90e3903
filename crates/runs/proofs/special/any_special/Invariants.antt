use mathlib.Core.Path.{◌≡◌}
use mathlib.Core.Bool.{false}
use Prim.Native.Nat.{ℕ, ◌+◌, ◌-◌, ◌≤◌, ◌<◌}
use lib.ListN.{drop}
use Rattle.text.specs.Version.{xml11}
use Rattle.runs.specs.Specials.{special}
use Rattle.runs.proofs.special.any_special.Given as goal

abbrev pub invariant-loop-k : goal.invariant-loop-k
invariant-loop-k l = (l.k ≤ 32) × (l.hit ≡ false → (m : ℕ) → m < l.k → special xml11 (drop (l.i + m) l.value) ≡ 0)

abbrev pub decreases-loop-k : goal.decreases-loop-k
decreases-loop-k l = 32 - l.k
