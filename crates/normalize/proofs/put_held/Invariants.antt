use Prim.Native.Nat.{◌-◌}
use lib.ListN.{length}
use Rattle.normalize.proofs.Held.{Holding}
use Rattle.normalize.proofs.put_held.Given as goal

abbrev pub invariant-loop-i : goal.invariant-loop-i
invariant-loop-i l = Holding l.src l.initial.out l.out l.last l.i

abbrev pub decreases-loop-i : goal.decreases-loop-i
decreases-loop-i l = length l.src - l.i
