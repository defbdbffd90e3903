use Prim.Native.Nat.{ℕ, ◌+◌}
use mathlib.Core.Bool.{not}
use lib.ListN.{get_or}
use Rattle.text.proofs.Missed.{Missed}
use Rattle.utils.specs.Trim.{is_whitespace}
use Rattle.utils.proofs.any_other.Given as goal

abbrev pub invariant-loop-b : goal.invariant-loop-b
invariant-loop-b l = Missed (λ (m : ℕ). not (is_whitespace (get_or l.text (l.i + m) 0))) 32 l.hit l.b-index
