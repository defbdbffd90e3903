use Prim.Native.Nat.{◌-◌}
use lib.ListN.{length}
use Rattle.collapse.specs.Stage.{Stays}
use Rattle.collapse.proofs.stay_end.Given as goal

abbrev pub invariant-loop-i : goal.invariant-loop-i
invariant-loop-i l = Stays l.text l.from l.i

abbrev pub decreases-loop-i : goal.decreases-loop-i
decreases-loop-i l = length l.text - l.i
