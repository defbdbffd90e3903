use Rattle.output.specs.Runs.{Plain}
use Rattle.halts.specs.Halts.{suspect_byte}
use mathlib.Core.Bool.{false}
use Rattle.halts.proofs.older_bytes.Given as goal

abbrev pub invariant-loop-i : goal.invariant-loop-i
invariant-loop-i l = Plain (suspect_byte false) l.text l.from l.i
