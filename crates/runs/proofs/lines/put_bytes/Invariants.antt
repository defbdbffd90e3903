use Rattle.output.specs.Runs.{Copied, Room}
use Rattle.runs.specs.RunEnds.{line_stop}
use Rattle.runs.proofs.lines.put_bytes.Given as goal

abbrev pub invariant-loop-i : goal.invariant-loop-i
invariant-loop-i l = Copied (line_stop l.newer) l.text l.initial.out l.out l.i × Room (line_stop l.newer) l.text l.initial.out
