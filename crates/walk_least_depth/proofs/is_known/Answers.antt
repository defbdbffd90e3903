-- The tests are those of a slot of the walk (`hit_tests` of memory), then the limit.
use native.Mathlib.Omega.{arith}
use mathlib.Core.Path.{sym}
use mathlib.Core.Bool.{true≢false}
use lib.ListN.{get_or}
use Prim.Native.Nat.{◌+◌}
use borrow.Author.Tests.{leb-true}
use Rattle.memory.proofs.Hits.{hit_tests}
use Rattle.walk_least_depth.proofs.is_known.Goals as goal

pub returns-then-room-slot : goal.returns-then-room-slot
returns-then-room-slot c = λ q. absurd (true≢false (sym q))

pub overflow_add-result-2 : goal.overflow_add-result-2
overflow_add-result-2 c =
    let a = c.args in
    let room = a.room.now in
    let hit = hit_tests (get_or room (a.slot + 84) 0) (a.command + 1) a.allowed.depth (get_or room (a.slot + 100) 0) c.if-room-slot.false in
    omega (arith, c.requires.opened hit.0, c.requires.few, c.requires.most)

pub returns : goal.returns
returns c =
    let a = c.args in
    let room = a.room.now in
    let hit = hit_tests (get_or room (a.slot + 84) 0) (a.command + 1) a.allowed.depth (get_or room (a.slot + 100) 0) c.if-room-slot.false in
    λ q. record { is = hit.0; allowed = hit.1; within = leb-true _ _ q }
