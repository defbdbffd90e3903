use Prim.Native.Nat.{ℕ, ◌+◌, ◌-◌}
use mathlib.Core.Bool.{◌&&◌}
use lib.ListN.{get_or}
use Rattle.text.proofs.Missed.{Missed}
use Rattle.collapse.specs.Collapse.{is_space}
use Rattle.collapse.proofs.any_pair.Given as goal

abbrev pub invariant-loop-k : goal.invariant-loop-k
invariant-loop-k l = Missed (λ (m : ℕ). is_space (get_or l.text (l.i + m) 0) && is_space (get_or l.text (l.i + m + 1) 0)) 16 l.hit l.k

abbrev pub decreases-loop-k : goal.decreases-loop-k
decreases-loop-k l = 16 - l.k
