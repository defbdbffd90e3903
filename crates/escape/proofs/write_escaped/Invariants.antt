use Prim.Native.Nat.{◌-◌}
use lib.ListN.{length}
use Rattle.output.proofs.Writers.{Writing}
use Rattle.escape.specs.Escape.{write}
use Rattle.escape.specs.Scan.{chars_set, shown}
use Rattle.escape.proofs.write_escaped.Given as goal

abbrev pub invariant-loop-chars : goal.invariant-loop-chars
invariant-loop-chars l = Writing (write (chars_set l.chars)) (shown l.spaces l.text) l.initial.out l.out l.at l.i

abbrev pub decreases-loop-chars : goal.decreases-loop-chars
decreases-loop-chars l = length l.text - l.i
