use mathlib.Core.Bool.{◌||◌}
use Rattle.text.proofs.Printable.{LookedSimple}
use Rattle.text.proofs.simple.any_special.Given as goal

abbrev pub invariant-loop-b : goal.invariant-loop-b
invariant-loop-b l = LookedSimple l.text l.i l.size (l.outside || l.amp) l.b-index
