use Prim.Native.Nat.{◌+◌}
use Rattle.output.specs.Runs.{Plain}
use Rattle.name_ends.specs.OneByte.{is_byte}
use Rattle.name_ends.proofs.next_byte.Given as goal

abbrev pub invariant-loop-k : goal.invariant-loop-k
invariant-loop-k l = Plain (is_byte l.b) l.text l.from (l.from + l.k)
