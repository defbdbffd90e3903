use Rattle.output.specs.Runs.{Plain}
use Rattle.runs.specs.RunEnds.{line_stop}
use Rattle.runs.proofs.lines.plain_end.Given as goal

abbrev pub invariant-loop-i : goal.invariant-loop-i
invariant-loop-i l = Plain (line_stop l.newer) l.text l.from l.i
