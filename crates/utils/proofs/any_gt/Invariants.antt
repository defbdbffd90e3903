use Prim.Native.Nat.{ℕ, ◌+◌}
use lib.Dec.{eqb}
use lib.ListN.{get_or}
use Rattle.text.proofs.Missed.{Missed}
use Rattle.utils.proofs.any_gt.Given as goal

abbrev pub invariant-loop-b : goal.invariant-loop-b
invariant-loop-b l = Missed (λ (m : ℕ). eqb (get_or l.text (l.i + m + 2) 0) 62) l.count l.hit l.b-index
