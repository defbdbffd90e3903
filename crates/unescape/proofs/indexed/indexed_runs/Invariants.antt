use Prim.Native.Nat.{◌-◌}
use lib.ListN.{length}
use Rattle.unescape.proofs.Lending.{Indexed}
use Rattle.unescape.proofs.indexed.indexed_runs.Given as goal

abbrev pub invariant-loop-i : goal.invariant-loop-i
invariant-loop-i l = Indexed l.list l.pool l.text l.initial.index l.initial.out l.index l.out l.i l.len

abbrev pub decreases-loop-i : goal.decreases-loop-i
decreases-loop-i l = length l.text - l.i
