use Rattle.std.proofs.Common.{◌≡◌, ◌-◌, length}
use Rattle.repeats.specs.Hash.{mixed}
use Rattle.repeats.proofs.Hashing.{words}
use Rattle.repeats.proofs.hash_long.Given as goal

abbrev pub invariant-loop-i : goal.invariant-loop-i
invariant-loop-i l = mixed (words l.last l.i) l.form l.i l.hash ≡ mixed (words l.last 0) l.form 0 (length l.form)

abbrev pub decreases-loop-i : goal.decreases-loop-i
decreases-loop-i l = length l.form - l.i
