use Rattle.std.proofs.Common.{◌≡◌, ◌+◌, ◌<◌, ℕ, false, get_or}
use Rattle.escape.specs.Scan.{escaped_by}
use Rattle.escape.proofs.any_escaped.Given as goal

abbrev pub invariant-loop-b : goal.invariant-loop-b
invariant-loop-b l = l.hit ≡ false → (m : ℕ) → m < l.b-index → escaped_by l.chars (get_or l.text (l.i + m) 0) ≡ false
