use mathlib.Core.Bool.{◌||◌}
use Rattle.legal.proofs.Clean.{Looked}
use Rattle.legal.proofs.any_suspect.Given as goal

abbrev pub invariant-loop-b : goal.invariant-loop-b
invariant-loop-b l = Looked l.text l.i (l.low || l.delete || l.two || l.three) l.b-index
