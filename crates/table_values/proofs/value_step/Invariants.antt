use Prim.Native.Nat.{◌-◌}
use lib.ListN.{length}
use Rattle.table_values.proofs.EntityValues.{Valuing}
use Rattle.table_values.proofs.value_step.Given as goal

abbrev pub invariant-loop-from : goal.invariant-loop-from
invariant-loop-from l = Valuing l.quote l.newer l.text l.from l.initial.out l.out l.i l.len

abbrev pub decreases-loop-from : goal.decreases-loop-from
decreases-loop-from l = length l.text - l.i
