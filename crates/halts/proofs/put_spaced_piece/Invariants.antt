use Rattle.halts.proofs.Spaces.{Filled, Stored}
use Rattle.halts.proofs.put_spaced_piece.Given as goal

abbrev pub invariant-loop-k : goal.invariant-loop-k
invariant-loop-k g l = Filled l.src l.from g.row.N l.block l.k

abbrev pub invariant-loop-k-2 : goal.invariant-loop-k-2
invariant-loop-k-2 g l = Stored l.src l.from g.row.N l.b-items l.initial.out l.out l.k
