use Prim.Native.Nat.{◌+◌, ◌-◌}
use Rattle.output.specs.Runs.{Plain}
use Rattle.name_ends.specs.OneByte.{is_byte}
use Rattle.name_ends.proofs.outer_end.Given as goal

abbrev pub invariant-loop-k : goal.invariant-loop-k
invariant-loop-k l = Plain (is_byte 59) l.text l.from (l.from + l.k)

abbrev pub decreases-loop-k : goal.decreases-loop-k
decreases-loop-k l = l.size - l.k
