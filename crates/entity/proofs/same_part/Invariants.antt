use Rattle.entity.specs.Steps.{Agree}
use Rattle.entity.proofs.same_part.Given as goal

abbrev pub invariant-loop-k : goal.invariant-loop-k
invariant-loop-k l = Agree l.pool l.start l.name l.k
