-- Four stores, one after the other.
use native.Mathlib.Omega.{arith}
use lib.ListN.{length-set}
use Rattle.walk_least_depth.proofs.know.Goals as goal

pub bounds-room-slot-2 : goal.bounds-room-slot-2
bounds-room-slot-2 c = simp length-set (omega (arith, c.requires))

pub bounds-room-slot-3 : goal.bounds-room-slot-3
bounds-room-slot-3 c = simp length-set (omega (arith, c.requires))

pub bounds-room-slot-4 : goal.bounds-room-slot-4
bounds-room-slot-4 c = simp length-set (omega (arith, c.requires))
