use Prim.Native.Nat.{◌-◌}
use lib.ListN.{length}
use Rattle.table_declarations.proofs.Gathering.{Gathered}
use Rattle.table_declarations.proofs.read_all.Given as goal

abbrev pub invariant-loop-i : goal.invariant-loop-i
invariant-loop-i l = Gathered l.newer l.text l.initial.list l.initial.pool l.list l.pool l.i l.count l.used

abbrev pub decreases-loop-i : goal.decreases-loop-i
decreases-loop-i l = length l.text - l.i
