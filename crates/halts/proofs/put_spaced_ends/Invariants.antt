use Rattle.std.proofs.Common.{◌-◌, ◌≤◌}
use Rattle.halts.proofs.Spaces.{Reaching}
use Rattle.halts.proofs.put_spaced_ends.Given as goal

abbrev pub invariant-loop-i : goal.invariant-loop-i
invariant-loop-i g l = (l.i ≤ l.last) × Reaching l.src l.initial.out l.out g.row.N l.i

abbrev pub decreases-loop-i : goal.decreases-loop-i
decreases-loop-i g l = l.last - l.i
