use mathlib.Core.Bool.{false}
use Prim.Native.Nat.{◌-◌}
use Rattle.halts.specs.Halts.{suspect_byte}
use Rattle.halts.proofs.Smooth.{InBlock}
use Rattle.halts.proofs.near_older.Given as goal

abbrev pub invariant-loop-k : goal.invariant-loop-k
invariant-loop-k l = InBlock (suspect_byte false) l.text l.from l.k

abbrev pub decreases-loop-k : goal.decreases-loop-k
decreases-loop-k l = 16 - l.k
