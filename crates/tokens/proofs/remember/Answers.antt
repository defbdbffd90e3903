-- `remember` enters the reference where it is short and eight bytes stand at its place: its word, shifted to its width, and its numbers go
-- into the next of the four places, and nothing else of the memory changes; else the memory stays as it is.
use mathlib.Core.Path.{refl, sym, ap, ◌∙◌}
use Prim.Native.Nat.{◌-◌, ◌*◌}
use native.Mathlib.Omega.{arith}
use lib.ListN.{get_or}
use Rattle.tokens.specs.Seen.{moved_up, stays}
use Rattle.tokens.proofs.Entries.{short_reference, next_first, next_after, size1, size2, size3, size4, size5, size6, remembered}
use Rattle.tokens.proofs.remember.Goals as goal
use Rattle.tokens.proofs.remember.Goals.{then-slot-eq-LAST_PLACE, else-slot-eq-LAST_PLACE}

pub returns-then-width-text : goal.returns-then-width-text
returns-then-width-text c =
    record { size = c.requires.seen_len.0; next = c.requires.seen_len.1; entries = λ k l. stays refl }

pub overflow_mul-shift : goal.overflow_mul-shift
overflow_mul-shift c =
    let a = c.args in
    omega (arith, (short_reference a.text.now a.place a.width c.if-width-text.false).0)

pub overflow_sub-shift : goal.overflow_sub-shift
overflow_sub-shift c =
    let a = c.args in
    omega (arith, (short_reference a.text.now a.place a.width c.if-width-text.false).0)

pub word-requires : goal.word-requires
word-requires c =
    let a = c.args in
    omega (arith, (short_reference a.text.now a.place a.width c.if-width-text.false).1)

pub bounds-seen-slot-2 : goal.bounds-seen-slot-2
bounds-seen-slot-2 c =
    let a = c.args in
    let slot = get_or a.seen.now 20 0 in
    omega (arith, c.requires.seen_len.1, size1 a.seen.now c.requires.seen_len.0 slot c.moved_up.result 0 0 0 0 0 c.requires.seen_len.1)

pub bounds-seen-slot-3 : goal.bounds-seen-slot-3
bounds-seen-slot-3 c =
    let a = c.args in
    let slot = get_or a.seen.now 20 0 in
    omega (arith, c.requires.seen_len.1, size2 a.seen.now c.requires.seen_len.0 slot c.moved_up.result (64 - 8 * a.width) 0 0 0 0 c.requires.seen_len.1)

pub bounds-seen-slot-4 : goal.bounds-seen-slot-4
bounds-seen-slot-4 c =
    let a = c.args in
    let slot = get_or a.seen.now 20 0 in
    omega (arith, c.requires.seen_len.1, size3 a.seen.now c.requires.seen_len.0 slot c.moved_up.result (64 - 8 * a.width) a.start 0 0 0 c.requires.seen_len.1)

pub bounds-seen-slot-5 : goal.bounds-seen-slot-5
bounds-seen-slot-5 c =
    let a = c.args in
    let slot = get_or a.seen.now 20 0 in
    omega (arith, c.requires.seen_len.1, size4 a.seen.now c.requires.seen_len.0 slot c.moved_up.result (64 - 8 * a.width) a.start a.count 0 0 c.requires.seen_len.1)

pub bounds-seen-20-2 : goal.bounds-seen-20-2
bounds-seen-20-2 c =
    let a = c.args in
    let slot = get_or a.seen.now 20 0 in
    omega (arith, size5 a.seen.now c.requires.seen_len.0 slot c.moved_up.result (64 - 8 * a.width) a.start a.count a.opened 0 c.requires.seen_len.1)

pub shape_of-seen : goal.shape_of-seen
shape_of-seen c =
    let a = c.args in
    let slot = get_or a.seen.now 20 0 in
    size6 a.seen.now c.requires.seen_len.0 slot c.moved_up.result (64 - 8 * a.width) a.start a.count a.opened c.if-slot-eq-LAST_PLACE.seen c.requires.seen_len.1
    ∙ sym c.requires.seen_len.0

pub returns : goal.returns
returns c =
    let a = c.args in
    let slot = get_or a.seen.now 20 0 in
    let w = short_reference a.text.now a.place a.width c.if-width-text.false in
    remembered a.seen.now c.requires.seen_len.0 slot c.moved_up.result (64 - 8 * a.width) a.start a.count a.opened c.if-slot-eq-LAST_PLACE.seen c.requires.seen_len.1 a.text.now
    a.place a.width w.0 w.1 refl (c.moved_up.ensures ∙ ap (moved_up (64 - 8 * a.width)) c.word.ensures)
    (elim c.if-slot-eq-LAST_PLACE.branch [
      | then-slot-eq-LAST_PLACE v ↦ next_first c.if-slot-eq-LAST_PLACE.seen v.seen-is
      | else-slot-eq-LAST_PLACE v ↦ next_after slot c.if-slot-eq-LAST_PLACE.seen c.requires.seen_len.1 v.if-slot-eq-LAST_PLACE.false v.seen-is
    ])
