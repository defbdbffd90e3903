-- What the table says of the name (`refers`) decides: a text goes on in `text_step`, which is told what the name refers to (`referred`), a
-- predefined name is its byte, an external or any other name is refused; all of it with the memory after the lookup (`halt_indexed`).
use Prim.Native.Nat.{ℕ, ◌<◌}
use mathlib.Core.Path.{◌≡◌, subst}
use native.Mathlib.Omega.{arith}
use lib.ListN.{get_or}
use Rattle.entity.specs.Commands.{Refers}
use Rattle.entity.specs.declared.Referent.{Referent}
use Rattle.memory.specs.Levels.{Level, level_of}
use Rattle.memory.proofs.Readings.{lent_within, lent_room, lent_bounds, lent_indexed}
use Rattle.flat.specs.Between.{name_of}
use Rattle.flat.proofs.Halting.{referred, halt_indexed, halt_external, halt_unknown, halt_predefined, valid_short, refers_part}
use Rattle.flat.proofs.named_step.Goals as goal
use Rattle.flat.proofs.named_step.Goals.{After-refers_to}

-- ---- facts of these places
-- what the table says of the name, as it was matched
refers : (c : After-refers_to) {r : Referent} → c.refers_to.result ≡ r → Refers c.args.list.now c.args.pool.now (name_of c.args.text.now c.args.place.at c.args.end) r
refers c q =
    let a = c.args in
    subst (Refers a.list.now a.pool.now (name_of a.text.now a.place.at a.end)) q c.refers_to.ensures.refers

-- the list is one of bytes
list_bytes : (c : After-refers_to) (k : ℕ) → get_or c.args.list.now k 0 < 0x100
list_bytes c k = omega (arith, c.type_inv.list k)

abbrev level : After-refers_to → Level
level c = level_of c.args.reading c.args.list.now c.args.pool.now c.args.text.now

pub slice_bounds-text_step-count : goal.slice_bounds-text_step-count
slice_bounds-text_step-count c = omega (arith, (refers (goal.at.slice_bounds-text_step-count c).After-refers_to c.in-Text.is).ends)

pub slice_bounds-text_step-start : goal.slice_bounds-text_step-start
slice_bounds-text_step-start c = omega (arith, (refers (goal.at.slice_bounds-text_step-start c).After-refers_to c.in-Text.is).ends)

pub slice_bounds-text_step-end : goal.slice_bounds-text_step-end
slice_bounds-text_step-end c =
    let k = refers (goal.at.slice_bounds-text_step-end c).After-refers_to c.in-Text.is in
    omega (arith, k.ends, k.starts, k.defines.inside)

pub text_step-requires : goal.text_step-requires
text_step-requires c =
    let a = c.args in
    let k = refers (goal.at.text_step-requires c).After-refers_to c.in-Text.is in
    let lent = lent_indexed a.reading a.list.now a.pool.now a.text.now c.requires.lent c.refers_to.ensures.indexed in
    let within = lent_within a.reading a.list.now a.pool.now a.text.now lent in
    let room = lent_room a.reading a.list.now a.pool.now a.text.now lent in
    record { command_bound = (omega (arith, k.defines.fits, valid_short a.list.now a.pool.now c.requires.valid_table), c.slot_of-slot.ensures, refers_part k); openings_le_limit = (within, c.requires.depth_nonzero.1, omega (arith, room, within, c.requires.depth_nonzero.1)); bounds = lent_bounds a.reading a.list.now a.pool.now a.text.now lent _ c.slot_of-slot.result c.slot_of-slot.ensures }

pub keep_plain-requires : goal.keep_plain-requires
keep_plain-requires c =
    let a = c.args in
    (lent_indexed a.reading a.list.now a.pool.now a.text.now c.requires.lent c.refers_to.ensures.indexed).came.memory.size

pub write_byte-more-requires : goal.write_byte-more-requires
write_byte-more-requires c =
    let a = c.args in
    let lent = lent_indexed a.reading a.list.now a.pool.now a.text.now c.requires.lent c.refers_to.ensures.indexed in
    let within = lent_within a.reading a.list.now a.pool.now a.text.now lent in
    let room = lent_room a.reading a.list.now a.pool.now a.text.now lent in
    ((refers (goal.at.write_byte-more-requires c).After-refers_to c.in-Predefined.is).0, omega (arith, room, within, c.requires.depth_nonzero.1))

pub overflow_add-result : goal.overflow_add-result
overflow_add-result c =
    omega (arith, c.requires.for_name.inside, c.requires.depth_nonzero.2)

pub returns-in-Text : goal.returns-in-Text
returns-in-Text c =
    let a = c.args in
    halt_indexed (level (goal.at.returns-in-Text c).After-refers_to) _ c.refers_to.ensures.indexed
    (c.text_step.ensures a.text.now a.list.now a.pool.now
    (referred a.reading a.text.now a.list.now a.pool.now a.place c.requires.depth_nonzero.0 (list_bytes (goal.at.returns-in-Text c).After-refers_to) c.requires.valid_table c.requires.for_name
    (refers (goal.at.returns-in-Text c).After-refers_to c.in-Text.is)))

pub returns-in-External : goal.returns-in-External
returns-in-External c =
    let a = c.args in
    halt_indexed (level (goal.at.returns-in-External c).After-refers_to) _ c.refers_to.ensures.indexed
    (halt_external a.reading a.text.now a.list.now a.pool.now a.place c.requires.depth_nonzero.0 a.out.now _
    c.requires.for_name (refers (goal.at.returns-in-External c).After-refers_to c.in-External.is))

pub returns-in-Predefined : goal.returns-in-Predefined
returns-in-Predefined c =
    let a = c.args in
    let k = refers (goal.at.returns-in-Predefined c).After-refers_to c.in-Predefined.is in
    halt_indexed (level (goal.at.returns-in-Predefined c).After-refers_to) _ c.refers_to.ensures.indexed
    (halt_predefined a.reading a.text.now a.list.now a.pool.now a.place c.requires.depth_nonzero.0 a.out.now _
    c.requires.for_name k.1 k.2 c.write_byte-more.ensures c.keep_plain.ensures)

pub returns-in-Unknown : goal.returns-in-Unknown
returns-in-Unknown c =
    let a = c.args in
    halt_indexed (level (goal.at.returns-in-Unknown c).After-refers_to) _ c.refers_to.ensures.indexed
    (halt_unknown a.reading a.text.now a.list.now a.pool.now a.place c.requires.depth_nonzero.0 a.out.now _
    c.requires.for_name (refers (goal.at.returns-in-Unknown c).After-refers_to c.in-Unknown.is))
