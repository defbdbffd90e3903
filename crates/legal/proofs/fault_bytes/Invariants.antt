use Rattle.legal.specs.FirstFault.{faults_by}
use Rattle.legal.proofs.Clean.{Searched}
use Rattle.legal.proofs.fault_bytes.Given as goal

abbrev pub invariant-loop-i : goal.invariant-loop-i
invariant-loop-i l = Searched (faults_by l.rule) l.text l.from l.to l.i
