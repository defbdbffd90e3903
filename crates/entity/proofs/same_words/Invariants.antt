use lib.ListN.{length}
use Prim.Native.Nat.{◌-◌}
use Rattle.entity.specs.Steps.{Agree}
use Rattle.entity.proofs.same_words.Given as goal

abbrev pub invariant-loop-i : goal.invariant-loop-i
invariant-loop-i l = Agree l.pool l.start l.name l.i

abbrev pub decreases-loop-i : goal.decreases-loop-i
decreases-loop-i l = length l.name - l.i
