use Rattle.utils.specs.Blocks.{Skipped}
use Rattle.utils.proofs.trim_xml_start.Given as goal

abbrev pub invariant-loop-i : goal.invariant-loop-i
invariant-loop-i l = Skipped l.text l.i
