use Prim.Native.Nat.{◌-◌}
use lib.ListN.{length}
use Rattle.collapse.proofs.Stage.{Collapsing}
use Rattle.collapse.proofs.put_collapsed.Given as goal

abbrev pub invariant-loop-at : goal.invariant-loop-at
invariant-loop-at l = Collapsing l.value l.initial.out l.out l.at l.i

abbrev pub decreases-loop-at : goal.decreases-loop-at
decreases-loop-at l = length l.value - l.i
