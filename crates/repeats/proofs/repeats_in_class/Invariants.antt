use Rattle.std.proofs.Common.{◌≡◌, ◌-◌, length}
use Rattle.register.specs.Places.{entries_in}
use Rattle.repeats.proofs.Sifting.{Sifting}
use Rattle.repeats.proofs.repeats_in_class.Given as goal

abbrev pub invariant-loop-at : goal.invariant-loop-at
invariant-loop-at l = (length l.table ≡ length l.initial.table) × Sifting l.class l.classes (entries_in l.register) l.table l.at

abbrev pub decreases-loop-at : goal.decreases-loop-at
decreases-loop-at l = length l.register - l.at
