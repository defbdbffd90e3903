use Prim.Native.Nat.{◌-◌}
use lib.ListN.{length}
use Rattle.table_values.proofs.WhiteSpace.{Spacing}
use Rattle.table_values.proofs.space.space_end.Given as goal

abbrev pub invariant-loop-i : goal.invariant-loop-i
invariant-loop-i l = Spacing l.newer l.text l.from l.i

abbrev pub decreases-loop-i : goal.decreases-loop-i
decreases-loop-i l = length l.text - l.i
