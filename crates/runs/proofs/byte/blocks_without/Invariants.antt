use Prim.Native.Nat.{◌-◌}
use lib.ListN.{length}
use Rattle.output.specs.Runs.{Plain}
use Rattle.runs.specs.RunEnds.{byte_stop}
use Rattle.runs.proofs.byte.blocks_without.Given as goal

abbrev pub invariant-loop-i : goal.invariant-loop-i
invariant-loop-i g l = Plain (byte_stop l.b) l.text l.from l.i

abbrev pub decreases-loop-i : goal.decreases-loop-i
decreases-loop-i g l = length l.text - l.i
