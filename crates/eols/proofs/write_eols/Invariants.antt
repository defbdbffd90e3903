-- What is written of the first i bytes lies in the output, over what it held at the call.
use Rattle.std.proofs.Common.{◌-◌, ◌≤◌, length, drop}
use Rattle.eols.specs.LineEnds.{eols_from, eols}
use Rattle.eols.specs.Stops.{rule_for}
use Rattle.output.proofs.Written.{Written}
use Rattle.eols.proofs.write_eols.Given as goal

abbrev pub invariant-loop-i : goal.invariant-loop-i
invariant-loop-i l = record {
  inside : l.i ≤ length l.text;
  written : Written (eols (rule_for l.newer) l.text) (eols_from (rule_for l.newer) 0 (drop l.i l.text)) l.fn.out l.out l.at;
}

abbrev pub decreases-loop-i : goal.decreases-loop-i
decreases-loop-i l = length l.text - l.i
