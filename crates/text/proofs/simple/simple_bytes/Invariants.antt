use Rattle.text.specs.Simple.{SimplePart}
use Rattle.text.proofs.simple.simple_bytes.Given as goal

abbrev pub invariant-loop-b : goal.invariant-loop-b
invariant-loop-b l = SimplePart l.text 0 l.b-index
