use Rattle.register.specs.Places.{Alike}
use Rattle.register.proofs.same_short.Given as goal

abbrev pub invariant-loop-i : goal.invariant-loop-i
invariant-loop-i l = Alike l.a l.b l.i
