use mathlib.Core.Path.{◌≡◌}
use Prim.Native.Nat.{◌+◌, ◌*◌, ◌≤◌}
use lib.ListN.{length, take, drop}
use Rattle.escape.specs.Escape.{write}
use Rattle.escape.specs.Scan.{chars_set}
use Rattle.escape.proofs.added_rest.Given as goal

abbrev pub invariant-loop-b : goal.invariant-loop-b
invariant-loop-b l = (l.b-index ≤ l.count) × (l.n + l.b-index ≡ length (write (chars_set l.chars) (take l.b-index (drop l.i l.text)))) × (l.n ≤ 5 * l.b-index)
