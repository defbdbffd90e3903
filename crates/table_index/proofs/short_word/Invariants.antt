use Rattle.std.proofs.Common.{◌≡◌, drop}
use Rattle.table_index.specs.NameHash.{joined_from}
use Rattle.table_index.proofs.short_word.Given as goal

abbrev pub invariant-loop-b : goal.invariant-loop-b
invariant-loop-b l = joined_from l.word (drop l.b-index l.name) ≡ joined_from 0 l.name
