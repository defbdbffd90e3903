use Rattle.std.proofs.Common.{◌-◌, length}
use Rattle.register.specs.Places.{entries_in}
use Rattle.repeats.proofs.Clearing.{any_form}
use Rattle.repeats.proofs.Sifting.{Looking}
use Rattle.repeats.proofs.repeats_few.Given as goal

abbrev pub invariant-loop-at : goal.invariant-loop-at
invariant-loop-at l = Looking any_form (entries_in l.register) l.at

abbrev pub decreases-loop-at : goal.decreases-loop-at
decreases-loop-at l = length l.register - l.at
