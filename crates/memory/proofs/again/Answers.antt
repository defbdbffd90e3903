-- `again` has a slot's value again where the slot is the command's, at a depth that is enough, within the limit (`hit_tests`), and where it is
-- the level's own and fits (`own_tests`), or where the buffer is full.
use mathlib.Core.Path.{refl}
use Prim.Native.Nat.{◌+◌, ◌-◌}
use native.Mathlib.Omega.{arith}
use lib.ListN.{length, get_or}
use Rattle.memory.proofs.Levels.{taken_full, taken_again}
use Rattle.memory.proofs.Hits.{hit_tests, own_tests}
use Rattle.memory.proofs.again.Goals as goal

pub bounds-seen-slot : goal.bounds-seen-slot
bounds-seen-slot c =
    omega (arith, c.requires.bounds.size c.if-seen-eq0.false, c.requires.command_bound)

pub bounds-seen-slot-2 : goal.bounds-seen-slot-2
bounds-seen-slot-2 c =
    omega (arith, c.requires.bounds.size c.if-seen-eq0.false, c.requires.command_bound)

pub bounds-seen-slot-3 : goal.bounds-seen-slot-3
bounds-seen-slot-3 c =
    omega (arith, c.requires.bounds.size c.if-seen-eq0.false, c.requires.command_bound)

pub bounds-seen-slot-4 : goal.bounds-seen-slot-4
bounds-seen-slot-4 c =
    omega (arith, c.requires.bounds.size c.if-seen-eq0.false, c.requires.command_bound)

pub overflow_add-made-2 : goal.overflow_add-made-2
overflow_add-made-2 c =
    let a = c.args in
    let seen = a.seen.now in
    let hit = hit_tests (get_or seen a.slot 0) (a.command + 1) a.reading.depth (get_or seen (a.slot + 16) 0) c.if-seen-slot.false in
    omega (arith, c.requires.bounds.few hit.0, c.requires.openings_le_limit)

pub bounds-seen-slot-then-len-out : goal.bounds-seen-slot-then-len-out
bounds-seen-slot-then-len-out c =
    omega (arith, c.requires.bounds.size c.if-seen-eq0.false, c.requires.command_bound)

pub overflow_sub-from : goal.overflow_sub-from
overflow_sub-from c =
    let a = c.args in
    let seen = a.seen.now in
    let own = own_tests (get_or seen (a.slot + 32) 0) a.reading.base (length a.out.now - a.place.len) (get_or seen (a.slot + 48) 0) c.if-from-base.false in
    own.0

pub put_again-requires : goal.put_again-requires
put_again-requires c =
    let a = c.args in
    let seen = a.seen.now in
    let hit = hit_tests (get_or seen a.slot 0) (a.command + 1) a.reading.depth (get_or seen (a.slot + 16) 0) c.if-seen-slot.false in
    let own = own_tests (get_or seen (a.slot + 32) 0) a.reading.base (length a.out.now - a.place.len) (get_or seen (a.slot + 48) 0) c.if-from-base.false in
    (omega (arith, own.0, c.requires.bounds.inside hit.0), omega (arith, own.1, c.if-len-out.true))

pub returns-else-from-base : goal.returns-else-from-base
returns-else-from-base c =
    let a = c.args in
    let seen = a.seen.now in
    let hit = hit_tests (get_or seen a.slot 0) (a.command + 1) a.reading.depth (get_or seen (a.slot + 16) 0) c.if-seen-slot.false in
    let own = own_tests (get_or seen (a.slot + 32) 0) a.reading.base (length a.out.now - a.place.len) (get_or seen (a.slot + 48) 0) c.if-from-base.false in
    record {
      is = hit.0;
      enough = hit.1;
      size = refl;
      opens = refl;
      within = c.if-reading-made.false;
      buffer = c.put_again.ensures.0;
      writes =
          taken_again (get_or seen (a.slot + 32) 0) (get_or seen (a.slot + 48) 0) a.place.len a.reading.base own.0
          (omega (arith, own.1, c.if-len-out.true)) c.put_again.ensures.0 c.put_again.ensures.1;
    }

pub returns-else-len-out : goal.returns-else-len-out
returns-else-len-out c =
    let a = c.args in
    let seen = a.seen.now in
    let hit = hit_tests (get_or seen a.slot 0) (a.command + 1) a.reading.depth (get_or seen (a.slot + 16) 0) c.if-seen-slot.false in
    record {
      is = hit.0;
      enough = hit.1;
      size = refl;
      opens = refl;
      within = c.if-reading-made.false;
      buffer = refl;
      writes = taken_full (get_or seen (a.slot + 32) 0) (get_or seen (a.slot + 48) 0) a.place.len a.reading.base c.if-len-out.false;
    }
