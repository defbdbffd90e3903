use Prim.Native.Nat.{◌+◌}
use Rattle.output.specs.Runs.{Plain}
use Rattle.runs.specs.RunEnds.{byte_stop}
use Rattle.runs.proofs.byte.near_byte.Given as goal

abbrev pub invariant-loop-k : goal.invariant-loop-k
invariant-loop-k g l = Plain (byte_stop l.b) l.text l.from (l.from + l.k)
