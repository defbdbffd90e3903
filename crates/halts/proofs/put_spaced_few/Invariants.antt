use Prim.Native.Nat.{◌-◌, ◌≤◌}
use Rattle.halts.specs.Halts.{Laying}
use Rattle.halts.proofs.put_spaced_few.Given as goal

abbrev pub invariant-loop-k : goal.invariant-loop-k
invariant-loop-k l = (l.k ≤ 3) × Laying l.src l.initial.out l.out l.k

abbrev pub decreases-loop-k : goal.decreases-loop-k
decreases-loop-k l = 3 - l.k
