use Rattle.utils.specs.Blocks.{Dropped}
use Rattle.utils.proofs.trim_xml_end.Given as goal

abbrev pub invariant-loop-i : goal.invariant-loop-i
invariant-loop-i l = Dropped l.text l.i
