use Rattle.utils.specs.Blocks.{Dropped}
use Rattle.utils.proofs.drop_blanks.Given as goal

abbrev pub invariant-loop-end : goal.invariant-loop-end
invariant-loop-end l = Dropped l.text l.end

abbrev pub decreases-loop-end : goal.decreases-loop-end
decreases-loop-end l = l.end
