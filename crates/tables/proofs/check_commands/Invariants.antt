use lib.ListN.{length}
use Prim.Native.Nat.{◌-◌}
use Rattle.tables.specs.Steps.{Standing}
use Rattle.tables.proofs.check_commands.Given as goal

abbrev pub invariant-loop-at : goal.invariant-loop-at
invariant-loop-at l = Standing l.list l.pool l.at l.count

abbrev pub decreases-loop-at : goal.decreases-loop-at
decreases-loop-at l = length l.list - l.at
