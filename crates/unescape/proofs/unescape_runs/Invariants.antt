use Prim.Native.Nat.{◌-◌}
use lib.ListN.{length}
use Rattle.entity.specs.Binding.{binding}
use Rattle.unescape.proofs.Turns.{Ran}
use Rattle.unescape.proofs.unescape_runs.Given as goal

abbrev pub invariant-loop-seen : goal.invariant-loop-seen
invariant-loop-seen l = Ran (binding l.list l.pool) l.text l.initial.out l.out l.seen l.i l.len

abbrev pub decreases-loop-seen : goal.decreases-loop-seen
decreases-loop-seen l = length l.text - l.i
