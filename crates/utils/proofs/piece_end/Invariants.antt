use Prim.Native.Nat.{◌-◌}
use lib.ListN.{length}
use Rattle.utils.specs.Blocks.{Passed}
use Rattle.utils.proofs.piece_end.Given as goal

abbrev pub invariant-loop-i : goal.invariant-loop-i
invariant-loop-i l = Passed l.text l.from l.i

abbrev pub decreases-loop-i : goal.decreases-loop-i
decreases-loop-i l = length l.text - l.i
