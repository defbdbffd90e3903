use mathlib.Core.Path.{◌≡◌}
use Prim.Native.Nat.{◌+◌, ◌-◌, ◌*◌, ◌≤◌}
use lib.ListN.{length, drop}
use Rattle.eols.specs.Stops.{rule_for}
use Rattle.escape.specs.Scan.{shown}
use Rattle.canonical.specs.Canonical.{canonical_from, canonical}
use Rattle.canonical.proofs.form_length.Given as goal

abbrev pub invariant-loop-chars : goal.invariant-loop-chars
invariant-loop-chars l = (l.i ≤ length l.text)
    × (l.n ≤ 6 * l.i)
    × (length (canonical (rule_for l.newer) (shown l.spaces l.text)) ≡ l.n + length (canonical_from (rule_for l.newer) 0 (drop l.i (shown l.spaces l.text))))

abbrev pub decreases-loop-chars : goal.decreases-loop-chars
decreases-loop-chars l = length l.text - l.i
