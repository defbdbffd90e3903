use lib.ListN.{length, take, drop}
use Rattle.walk_forecast.proofs.Seeking.{Seeking}
use Prim.Native.Nat.{◌-◌}
use Rattle.walk_forecast.proofs.number_by_name.Given as goal

abbrev pub invariant-loop-command : goal.invariant-loop-command
invariant-loop-command l = Seeking l.list l.pool (take (l.end - l.start) (drop l.start l.pool)) l.at l.number

abbrev pub decreases-loop-command : goal.decreases-loop-command
decreases-loop-command l = length l.list - l.at
