use Prim.Native.Nat.{◌-◌}
use Rattle.text.proofs.Blocks.{misfit_at}
use Rattle.text.proofs.Missed.{Missed}
use Rattle.text.proofs.validate.any_misplaced.Given as goal

abbrev pub invariant-loop-k : goal.invariant-loop-k
invariant-loop-k l = Missed (misfit_at l.text l.j) 32 l.hit l.k

abbrev pub decreases-loop-k : goal.decreases-loop-k
decreases-loop-k l = 32 - l.k
