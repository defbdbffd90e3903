use lib.ListN.{length}
use Prim.Native.Nat.{◌-◌}
use Rattle.charref.proofs.Reading.{Read}
use Rattle.charref.proofs.quick_digits.Given as goal

abbrev pub invariant-loop-i : goal.invariant-loop-i
invariant-loop-i l = Read l.base l.text l.from l.value l.i

abbrev pub decreases-loop-i : goal.decreases-loop-i
decreases-loop-i l = length l.text - l.i
