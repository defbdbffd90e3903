use Rattle.std.proofs.Common.{◌-◌, ◌≤◌}
use Rattle.table_index.proofs.NameBlocks.{Differing}
use Rattle.table_index.proofs.differ_16.Given as goal

abbrev pub invariant-loop-k : goal.invariant-loop-k
invariant-loop-k l = (l.k ≤ 16) × Differing l.pool l.start l.name l.i l.k l.differ

abbrev pub decreases-loop-k : goal.decreases-loop-k
decreases-loop-k l = 16 - l.k
