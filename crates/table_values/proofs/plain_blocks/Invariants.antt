use Prim.Native.Nat.{◌-◌}
use lib.ListN.{length}
use Rattle.table_values.specs.ValueSteps.{value_stop}
use Rattle.output.specs.Runs.{Plain}
use Rattle.table_values.proofs.plain_blocks.Given as goal

abbrev pub invariant-loop-i : goal.invariant-loop-i
invariant-loop-i l = Plain (value_stop l.quote l.newer) l.text l.from l.i

abbrev pub decreases-loop-i : goal.decreases-loop-i
decreases-loop-i l = length l.text - l.i
