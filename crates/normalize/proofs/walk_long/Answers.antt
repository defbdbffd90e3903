-- `walk_long` lends words that are all 0, which say nothing yet (`room_new`).
use native.Mathlib.Omega.{arith}
use Prim.Native.Nat.{ℕ}
use lib.ListN.{length-replicate}
use Rattle.normalize.proofs.Rooms.{room_new}
use Rattle.normalize.proofs.walk_long.Goals as goal

pub walk_into-requires : goal.walk_into-requires
walk_into-requires c =
    let a = c.args in
    record { valid_table = c.requires.valid_table; base_value = c.requires.base_value; well_formed = c.requires.well_formed; in_bounds = (omega (arith, length-replicate {A = ℕ} 2133 0), room_new a.list.now a.pool.now 2049 (omega arith) (omega arith)) }
