use Rattle.std.proofs.Common.{ℕ, ◌-◌, ◌<◌, []}
use Rattle.register.specs.Places.{entries_in}
use Rattle.repeats.specs.Hash.{in_class}
use Rattle.repeats.specs.Filter.{Clear}
use Rattle.repeats.proofs.repeats_many.Given as goal

abbrev pub invariant-loop-class : goal.invariant-loop-class
invariant-loop-class l = (q : ℕ) → q < l.class → Clear (in_class q l.classes) [] (entries_in l.register)

abbrev pub decreases-loop-class : goal.decreases-loop-class
decreases-loop-class l = l.classes - l.class
