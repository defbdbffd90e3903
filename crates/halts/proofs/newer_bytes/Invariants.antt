use mathlib.Core.Bool.{true}
use Rattle.halts.specs.Halts.{Smooth}
use Rattle.halts.proofs.newer_bytes.Given as goal

abbrev pub invariant-loop-i : goal.invariant-loop-i
invariant-loop-i l = Smooth true l.text l.from l.i
