use Prim.Native.Nat.{ℕ, ◌+◌, ◌-◌}
use Rattle.text.proofs.Missed.{Missed}
use Rattle.utils.specs.Blocks.{closes_at}
use Rattle.utils.proofs.any_closing.Given as goal

abbrev pub invariant-loop-k : goal.invariant-loop-k
invariant-loop-k l = Missed (λ (m : ℕ). closes_at l.text (l.i + m)) l.count l.hit l.k

abbrev pub decreases-loop-k : goal.decreases-loop-k
decreases-loop-k l = l.count - l.k
