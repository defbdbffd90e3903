use Rattle.legal.proofs.Clean.{Looked}
use Rattle.legal.proofs.any_unprintable.Given as goal

abbrev pub invariant-loop-b : goal.invariant-loop-b
invariant-loop-b l = Looked l.text l.i l.hit l.b-index
