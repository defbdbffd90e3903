use Prim.Native.Nat.{◌-◌}
use Rattle.memory.proofs.Levels.{place_of}
use lib.ListN.{length}
use Rattle.flat.proofs.Going.{Going}
use Rattle.flat.proofs.normalize_flat.Given as goal

abbrev pub invariant-loop-end : goal.invariant-loop-end
invariant-loop-end l = Going l.reading l.text l.list l.pool (place_of l.initial.at l.initial.len l.initial.made) l.initial.out l.initial.seen l.out l.seen l.at l.end l.len l.made l.met

abbrev pub decreases-loop-end : goal.decreases-loop-end
decreases-loop-end l = length l.text - l.at
