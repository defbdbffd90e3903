use Prim.Native.Nat.{◌-◌}
use lib.ListN.{length}
use Rattle.utils.specs.Blocks.{Skipped}
use Rattle.utils.proofs.skip_blanks.Given as goal

abbrev pub invariant-loop-i : goal.invariant-loop-i
invariant-loop-i l = Skipped l.text l.i

abbrev pub decreases-loop-i : goal.decreases-loop-i
decreases-loop-i l = length l.text - l.i
