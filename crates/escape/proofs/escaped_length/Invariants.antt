use mathlib.Core.Path.{◌≡◌}
use Prim.Native.Nat.{◌+◌, ◌*◌, ◌-◌, ◌≤◌}
use lib.ListN.{length, take}
use Rattle.escape.specs.Escape.{write}
use Rattle.escape.specs.Scan.{chars_set}
use Rattle.escape.proofs.escaped_length.Given as goal

abbrev pub invariant-loop-i : goal.invariant-loop-i
invariant-loop-i l = (l.i ≤ length l.text) × (l.n + l.i ≡ length (write (chars_set l.chars) (take l.i l.text))) × (l.n ≤ 255 * l.i)

abbrev pub decreases-loop-i : goal.decreases-loop-i
decreases-loop-i l = length l.text - l.i
