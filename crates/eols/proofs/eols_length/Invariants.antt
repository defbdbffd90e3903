use mathlib.Core.Path.{◌≡◌}
use Prim.Native.Nat.{◌+◌, ◌-◌, ◌≤◌}
use lib.ListN.{length, drop}
use Rattle.eols.specs.LineEnds.{eols_from, eols}
use Rattle.eols.specs.Stops.{rule_for}
use Rattle.eols.proofs.eols_length.Given as goal

abbrev pub invariant-loop-i : goal.invariant-loop-i
invariant-loop-i l = (l.i ≤ length l.text) × (l.n ≤ l.i) × (length (eols (rule_for l.newer) l.text) ≡ l.n + length (eols_from (rule_for l.newer) 0 (drop l.i l.text)))

abbrev pub decreases-loop-i : goal.decreases-loop-i
decreases-loop-i l = length l.text - l.i
