use Rattle.output.specs.Runs.{Plain}
use Rattle.runs.specs.RunEnds.{is_amp, Put}
use Rattle.runs.proofs.amp.put_bytes.Given as goal

abbrev pub invariant-loop-i : goal.invariant-loop-i
invariant-loop-i l = Plain is_amp l.text l.from l.i × Put l.text l.from l.i l.initial.out l.out
