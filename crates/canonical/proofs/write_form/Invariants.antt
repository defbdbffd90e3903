use Prim.Native.Nat.{◌-◌, ◌≤◌}
use lib.ListN.{length, drop}
use Rattle.eols.specs.Stops.{rule_for}
use Rattle.output.proofs.Written.{Written}
use Rattle.escape.specs.Scan.{shown}
use Rattle.canonical.specs.Canonical.{canonical_from, canonical}
use Rattle.canonical.proofs.write_form.Given as goal

abbrev pub invariant-loop-chars : goal.invariant-loop-chars
invariant-loop-chars l = (l.i ≤ length l.text)
    × Written (canonical (rule_for l.newer) (shown l.spaces l.text)) (canonical_from (rule_for l.newer) 0 (drop l.i (shown l.spaces l.text))) l.initial.out l.out l.at

abbrev pub decreases-loop-chars : goal.decreases-loop-chars
decreases-loop-chars l = length l.text - l.i
