use Rattle.text.specs.Version.{xml11}
use Rattle.runs.specs.Specials.{Common}
use Rattle.canonical.proofs.next_special.Given as goal

abbrev pub invariant-loop-i : goal.invariant-loop-i
invariant-loop-i l = Common xml11 l.value l.from l.i
