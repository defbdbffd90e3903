use Rattle.std.proofs.Common.{◌≡◌, drop}
use Rattle.repeats.specs.Hash.{joined}
use Rattle.repeats.proofs.hash_short.Given as goal

abbrev pub invariant-loop-b : goal.invariant-loop-b
invariant-loop-b l = joined l.word (drop l.b-index l.form) ≡ joined 0 l.form
