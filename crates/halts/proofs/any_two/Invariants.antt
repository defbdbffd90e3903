use Rattle.halts.proofs.Smooth.{Looked}
use Rattle.halts.proofs.any_two.Given as goal

abbrev pub invariant-loop-c : goal.invariant-loop-c
invariant-loop-c l = Looked l.c-items l.a l.b l.first l.second l.c-index
