use Prim.Native.Nat.{ℕ, ◌+◌}
use lib.ListN.{get_or}
use Rattle.text.proofs.Missed.{Missed}
use Rattle.output.specs.Runs.{either_byte}
use Rattle.output.proofs.any_of.Given as goal

abbrev pub invariant-loop-c : goal.invariant-loop-c
invariant-loop-c l = Missed (λ (m : ℕ). either_byte l.a l.b (get_or l.text (l.i + m) 0)) l.size l.hit l.c-index
