use Prim.Native.Nat.{◌-◌}
use lib.ListN.{length}
use Rattle.register.proofs.Checking.{Checking}
use Rattle.register.proofs.check_entries.Given as goal

abbrev pub invariant-loop-at : goal.invariant-loop-at
invariant-loop-at l = Checking l.register l.at l.number

abbrev pub decreases-loop-at : goal.decreases-loop-at
decreases-loop-at l = length l.register - l.at
