-- `is_suspect`: a byte from 39 to C1 is none of the four. Assumes nothing.
use mathlib.Core.Path.{sym}
use Rattle.halts.proofs.Smooth.{common_unsuspected}
use Rattle.halts.proofs.is_suspect.Goals as goal

pub returns-then-b : goal.returns-then-b
returns-then-b c = sym (common_unsuspected c.args.b c.if-b.true)
