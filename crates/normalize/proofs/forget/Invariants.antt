use Prim.Native.Nat.{◌-◌}
use Rattle.normalize.proofs.Rooms.{Forgetting}
use Rattle.normalize.proofs.forget.Given as goal

abbrev pub invariant-loop-k : goal.invariant-loop-k
invariant-loop-k l = Forgetting l.initial.room l.room l.k

abbrev pub decreases-loop-k : goal.decreases-loop-k
decreases-loop-k l = 16 - l.k
