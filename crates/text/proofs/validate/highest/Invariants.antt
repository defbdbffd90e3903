use Prim.Native.Nat.{◌≤◌}
use Rattle.text.specs.Blocks.{AtMost}
use Rattle.text.proofs.validate.highest.Given as goal

abbrev pub invariant-loop-b : goal.invariant-loop-b
invariant-loop-b l = (l.b-index ≤ 32) × AtMost l.text l.i l.b-index l.top
