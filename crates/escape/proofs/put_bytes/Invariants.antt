use Rattle.output.specs.Runs.{Copied, Room}
use Rattle.escape.specs.Scan.{escaped_by, shown}
use Rattle.escape.proofs.put_bytes.Given as goal

abbrev pub invariant-loop-i : goal.invariant-loop-i
invariant-loop-i l = Copied (escaped_by l.chars) (shown l.spaces l.text) l.initial.out l.out l.i × Room (escaped_by l.chars) (shown l.spaces l.text) l.initial.out
