use Rattle.std.proofs.Common.{length, ◌-◌}
use Rattle.walk_least_depth.proofs.NeedTurns.{Turns}
use Rattle.walk_least_depth.proofs.+least_depth.Given as goal

abbrev pub decreases-least_depth : goal.decreases-least_depth
decreases-least_depth l = l.allowed.depth

abbrev pub invariant-loop-all : goal.invariant-loop-all
invariant-loop-all l = Turns l.allowed l.list l.pool l.text l.openings l.initial.room l.room l.first l.at l.len l.made l.most

abbrev pub decreases-loop-all : goal.decreases-loop-all
decreases-loop-all l = length l.text - l.at
