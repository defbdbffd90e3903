use Rattle.text.specs.Blocks.{Ascii}
use Rattle.text.proofs.validate.ascii_end.Given as goal

abbrev pub invariant-loop-i : goal.invariant-loop-i
invariant-loop-i l = Ascii l.text l.i
