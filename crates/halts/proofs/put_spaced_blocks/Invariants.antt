use Prim.Native.Nat.{◌+◌, ◌-◌, ◌<◌}
use Rattle.halts.specs.Halts.{Laying}
use Rattle.halts.proofs.put_spaced_blocks.Given as goal

abbrev pub invariant-loop-i : goal.invariant-loop-i
invariant-loop-i l = (l.i < l.last + 16) × Laying l.src l.initial.out l.out l.i

abbrev pub decreases-loop-i : goal.decreases-loop-i
decreases-loop-i l = l.last + 16 - l.i
