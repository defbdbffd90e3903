use Prim.Native.Nat.{◌-◌}
use lib.ListN.{length}
use Rattle.register.specs.Places.{entries_in}
use Rattle.register.proofs.Boundaries.{Passed}
use Rattle.register.proofs.find.Given as goal

abbrev pub invariant-loop-at : goal.invariant-loop-at
invariant-loop-at l = Passed l.form (entries_in l.register) l.at

abbrev pub decreases-loop-at : goal.decreases-loop-at
decreases-loop-at l = length l.register - l.at
