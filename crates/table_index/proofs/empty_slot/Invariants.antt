use Rattle.table_index.specs.Index.{Emptying}
use Rattle.table_index.proofs.empty_slot.Given as goal

abbrev pub invariant-loop-k : goal.invariant-loop-k
invariant-loop-k l = Emptying l.index l.from l.k
