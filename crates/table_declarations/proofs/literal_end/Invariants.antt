use Rattle.table_declarations.proofs.Keyword.{Matching}
use Rattle.table_declarations.proofs.literal_end.Given as goal

abbrev pub invariant-loop-k : goal.invariant-loop-k
invariant-loop-k l = Matching l.newer l.text l.i l.word l.k
