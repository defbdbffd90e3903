use mathlib.Core.Bool.{◌||◌}
use Prim.Native.Nat.{◌-◌}
use Rattle.halts.proofs.Smooth.{LookedNewer}
use Rattle.halts.proofs.any_newer.Given as goal

abbrev pub invariant-loop-k : goal.invariant-loop-k
invariant-loop-k l = LookedNewer l.text l.i (l.amp || l.cr || l.two || l.three) l.k

abbrev pub decreases-loop-k : goal.decreases-loop-k
decreases-loop-k l = 16 - l.k
