use Rattle.table_index.specs.Index.{Looking}
use Rattle.table_index.proofs.look_up.Given as goal

abbrev pub invariant-loop-k : goal.invariant-loop-k
invariant-loop-k l = Looking l.list l.pool l.name l.index l.from l.k
