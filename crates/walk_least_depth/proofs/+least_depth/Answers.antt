-- The recursion of the least depth: measure, the allowance. The loop keeps `Turns`; each return and turn is a law of NeedTurns.antt.
use borrow.Author.Rules.{rules}
use Rattle.std.proofs.Common.{Ok, Err, ◌∙◌, ap, ◌≡◌, ◌<◌, ◌≤◌, ◌+◌, ◌-◌, ◌*◌, ℕ, List, ◌++◌, get_or, take, drop, Fits, w8, refl, sym, arith, length-take, length-drop}
use lib.Dec.{eqb}
use Rattle.entity.specs.Table.{ValidTable}
use Rattle.entity.specs.Commands.{command_text}
use Rattle.attribute.specs.Walk.{walk}
use Rattle.memory.specs.declared.Reading.{Reading}
use Rattle.memory.proofs.Levels.{Sound, place_of}
use Rattle.memory.proofs.Readings.{by_sound}
use Rattle.flat.proofs.Halting.{valid_short}
use Rattle.cycle.proofs.Cycle.{text_is}
use Rattle.walk_least_depth.specs.Allowance.{Found, Cannot, needed, settings_for, outcomes, Small, NeedKeeps}
use Rattle.walk_least_depth.proofs.SmoothNeeds.{stops_deep, stops_used, halt_stops}
use Rattle.walk_least_depth.proofs.NeedTurns.{said_keeps, turns_start, turns_lent, some_depth, front_size, turn_end, turn_stopped}
use Rattle.walk_least_depth.proofs.NeedTurns.{AtOpening, at_opening, known_small, turn_known, turn_refused, opened_counts, turn_opened}
use Rattle.walk_least_depth.proofs.NeedTurns.{inner_asked, inner_small, inner_depth, inner_keeps}
use Rattle.walk_least_depth.proofs.+least_depth.Goals as goal
use Rattle.walk_least_depth.proofs.+least_depth.Goals.{In-Opening, After-least_depth}

-- what the settings and the table are, where the list is one of bytes
table_sound : {list pool : List ℕ} (r : Reading) → ((k : ℕ) → Fits w8 (get_or list k 0)) → ValidTable list pool → Sound (settings_for r list pool) list pool
table_sound {list} {pool} r bytes valid = by_sound r.inner 0 list pool r.limit (λ k. omega (arith, bytes k)) valid

-- ---- before the loop

pub returns-then-first-text : goal.returns-then-first-text
returns-then-first-text t c =
    let a = c.args in
    let s = settings_for a.allowed a.list.now a.pool.now in
    said_keeps s a.list.now a.pool.now a.allowed.base a.allowed.depth (outcomes a.allowed a.list.now a.pool.now a.text.now a.openings) a.room.now
    (needed c.smooth_need.result) (c.smooth_need.ensures s a.allowed.how refl)

pub returns-then-allowed-eq0 : goal.returns-then-allowed-eq0
returns-then-allowed-eq0 t c =
    let a = c.args in
    let s = settings_for a.allowed a.list.now a.pool.now in
    let o = outcomes a.allowed a.list.now a.pool.now a.text.now a.openings in
    let any = halt_stops (eqb a.allowed.how 1) a.text.now c.next_halt-first.ensures c.if-first-text.false in
    said_keeps s a.list.now a.pool.now a.allowed.base a.allowed.depth o a.room.now (Cannot 16 0 0)
    (stops_deep s a.allowed.how a.text.now a.openings any c.if-allowed-eq0.true)

pub loop-all-init : goal.loop-all-init
loop-all-init t c =
    let a = c.args in
    let s = settings_for a.allowed a.list.now a.pool.now in
    let halt = c.next_halt-first.ensures in
    let any = halt_stops (eqb a.allowed.how 1) a.text.now halt c.if-first-text.false in
    turns_start a.allowed a.list.now a.pool.now a.text.now a.openings c.requires.begins halt any c.if-allowed-eq0.false
    (stops_used s a.allowed.how a.text.now a.openings any)

-- ---- the walk between two openings

pub slice_bounds-normalize_flat-end-in-loop-all : goal.slice_bounds-normalize_flat-end-in-loop-all
slice_bounds-normalize_flat-end-in-loop-all t c =
    let a = c.args in
    sym (front_size a.allowed a.list.now a.pool.now a.text.now a.openings c.requires.begins c.loop-all.invariant)

pub normalize_flat-requires-clause-depth_nonzero : goal.normalize_flat-requires-clause-depth_nonzero
normalize_flat-requires-clause-depth_nonzero t c =
    let a = c.args in
    let some = some_depth a.allowed a.list.now a.pool.now a.text.now a.openings c.requires.begins c.loop-all.invariant in
    rw c.at_depth.ensures (λ q. omega (arith, q, some), c.requires.small.most, c.requires.small.short)

pub normalize_flat-requires-clause-lent : goal.normalize_flat-requires-clause-lent
normalize_flat-requires-clause-lent t c =
    let a = c.args in
    rw c.at_depth.ensures (turns_lent a.allowed a.list.now a.pool.now a.text.now a.openings c.requires.begins c.loop-all.invariant)

pub returns-in-End : goal.returns-in-End
returns-in-End t c =
    let a = c.args in
    let f = rw c.at_depth.ensures at c.normalize_flat.ensures in
    turn_end a.allowed a.list.now a.pool.now a.text.now a.openings c.requires.begins c.loop-all.invariant f (c.in_ok-all.was ∙ ap Ok c.in-End.is)

pub returns-in_err-all : goal.returns-in_err-all
returns-in_err-all t c =
    let a = c.args in
    let f = rw c.at_depth.ensures at c.normalize_flat.ensures in
    let handed : c.from_residual.result ≡ Err c.in_err-all.field-0.0.refusal = search rules in
    turn_stopped a.allowed a.list.now a.pool.now a.text.now a.openings c.requires.begins c.loop-all.invariant f c.in_err-all.was (ap needed handed)

-- ---- at the reference to a text

opening : (t : ℕ) (c : In-Opening t)
    → AtOpening c.args.allowed c.args.list.now c.args.pool.now c.args.text.now c.loop-all.at c.in-Opening.next c.in-Opening.command c.in-Opening.slot
    c.in-Opening.before c.in-Opening.openings (c.normalize_flat.new.seen ++ drop 84 c.loop-all.room)
opening t c =
    let a = c.args in
    at_opening a.allowed a.list.now a.pool.now a.text.now a.openings c.requires.begins c.loop-all.invariant (rw c.at_depth.ensures at c.normalize_flat.ensures)
    (table_sound a.allowed c.type_inv.list c.requires.valid_table) (c.in_ok-all.was ∙ ap Ok c.in-Opening.is)

pub is_known-requires : goal.is_known-requires
is_known-requires t c =
    let o = opening t (goal.at.is_known-requires t c).In-Opening in
    o.asks c.requires.small.most (omega (arith, o.defines.fits, valid_short c.args.list.now c.args.pool.now c.requires.valid_table))

-- ---- it is known

pub bounds-room-slot : goal.bounds-room-slot
bounds-room-slot t c =
    let o = opening t (goal.at.bounds-room-slot t c).In-Opening in
    omega (arith, o.slots, o.size)

pub bounds-room-slot-then-is_known : goal.bounds-room-slot-then-is_known
bounds-room-slot-then-is_known t c =
    let o = opening t (goal.at.bounds-room-slot-then-is_known t c).In-Opening in
    omega (arith, o.slots, o.size)

pub bounds-room-slot-then-is_known-2 : goal.bounds-room-slot-then-is_known-2
bounds-room-slot-then-is_known-2 t c =
    let o = opening t (goal.at.bounds-room-slot-then-is_known-2 t c).In-Opening in
    omega (arith, o.slots, o.size)

pub overflow_add-len-then-is_known : goal.overflow_add-len-then-is_known
overflow_add-len-then-is_known t c =
    let a = c.args in
    let at = goal.at.overflow_add-len-then-is_known t c in
    let o = opening t at.In-Opening in
    let k = c.is_known.ensures c.if-is_known.true in
    let small = known_small a.allowed a.list.now a.pool.now a.text.now a.openings c.requires.begins c.loop-all.invariant
    (rw c.at_depth.ensures at c.normalize_flat.ensures) (table_sound a.allowed c.type_inv.list c.requires.valid_table) (c.in_ok-all.was ∙ ap Ok c.in-Opening.is) k in
    omega (arith, k.within, c.requires.small.most, small, o.sum)

pub loop-all-preserved-then-is_known : goal.loop-all-preserved-then-is_known
loop-all-preserved-then-is_known t c =
    let a = c.args in
    turn_known a.allowed a.list.now a.pool.now a.text.now a.openings c.requires.begins c.loop-all.invariant
    (rw c.at_depth.ensures at c.normalize_flat.ensures)
    (table_sound a.allowed c.type_inv.list c.requires.valid_table) (c.in_ok-all.was ∙ ap Ok c.in-Opening.is) (c.is_known.ensures c.if-is_known.true)
    c.next_halt-first-then-is_known.ensures c.max-most.ensures

-- ---- it is opened

pub text_start-start-requires : goal.text_start-start-requires
text_start-start-requires t c = (opening t (goal.at.text_start-start-requires t c).In-Opening).defines.fits

pub text_length-requires : goal.text_length-requires
text_length-requires t c = (opening t (goal.at.text_length-requires t c).In-Opening).defines.fits

pub slice_bounds-least_depth-end : goal.slice_bounds-least_depth-end
slice_bounds-least_depth-end t c =
    omega (arith, c.text_start-start.ensures, c.text_length.ensures, (opening t (goal.at.slice_bounds-least_depth-end t c).In-Opening).defines.inside)

pub overflow_add-openings : goal.overflow_add-openings
overflow_add-openings t c =
    omega (arith, (opening t (goal.at.overflow_add-openings t c).In-Opening).few, c.requires.small.most)

pub one_less-requires : goal.one_less-requires
one_less-requires t c =
    let o = opening t (goal.at.one_less-requires t c).In-Opening in
    (omega (arith, c.if-allowed-eq0.false), omega (arith, o.sum, o.few, c.requires.small.most))

pub least_depth-requires : goal.least_depth-requires
least_depth-requires t c =
    let a = c.args in
    let o = opening t (goal.at.least_depth-requires t c).In-Opening in
    let n = c.in-Opening.openings + 1 in
    let is = c.one_less.ensures in
    let text = text_is a.allowed (place_of 0 0 0) a.list.now a.pool.now c.in-Opening.command c.text_start-start.ensures.0 c.text_length.ensures.0 in
    let start = c.text_start-start.result in
    let short : Small a.allowed (take (start + c.text_length.result - start) (drop start a.pool.now)) = record {
      most = c.requires.small.most;
      short = simp (length-take, length-drop) (omega (arith, c.text_length.ensures));
      deep = c.requires.small.deep;
    } in (
      omega (arith, c.decreases, inner_depth a.allowed a.list.now a.pool.now c.in-Opening.before c.in-Opening.command n is text, c.if-allowed-eq0.false),
      (
        c.requires.valid_table,
        (
          inner_small a.allowed a.list.now a.pool.now c.in-Opening.before c.in-Opening.command n is text short (omega (arith, c.requires.small.deep)),
          inner_asked a.allowed a.list.now a.pool.now c.in-Opening.before c.in-Opening.command n is text o.begins,
        ),
      ),
    )

-- what the recursion says of the command's text
inner_said : (t : ℕ) (c : After-least_depth t)
    → NeedKeeps (settings_for c.args.allowed c.args.list.now c.args.pool.now) c.args.list.now c.args.pool.now
    (c.args.allowed.base + c.in-Opening.before) (c.args.allowed.depth - 1)
    (λ e. walk (settings_for c.args.allowed c.args.list.now c.args.pool.now) (settings_for c.args.allowed c.args.list.now c.args.pool.now).inner e
    (command_text c.args.list.now c.args.pool.now c.in-Opening.command) (c.in-Opening.openings + 1))
    (c.normalize_flat.new.seen ++ drop 84 c.loop-all.room) c.least_depth.new.room (needed c.least_depth.result)
inner_said t c =
    let a = c.args in
    inner_keeps a.allowed a.list.now a.pool.now c.in-Opening.before c.in-Opening.command (c.in-Opening.openings + 1) c.one_less.ensures
    (text_is a.allowed (place_of 0 0 0) a.list.now a.pool.now c.in-Opening.command c.text_start-start.ensures.0 c.text_length.ensures.0)
    c.least_depth.ensures

-- where that is a least depth
counts : (t : ℕ) (c : After-least_depth t) {depth made more : ℕ} → needed c.least_depth.result ≡ Found depth made more
    → (depth ≤ c.args.allowed.depth - 1) × (c.in-Opening.openings < made) × (made ≤ c.args.allowed.limit)
    × (more + 65535 * c.in-Opening.openings ≤ 65535 * made)
counts t c is =
    let a = c.args in
    opened_counts a.allowed a.list.now a.pool.now a.text.now a.openings c.requires.begins c.loop-all.invariant
    (rw c.at_depth.ensures at c.normalize_flat.ensures) (table_sound a.allowed c.type_inv.list c.requires.valid_table) (c.in_ok-all.was ∙ ap Ok c.in-Opening.is)
    (inner_said t c) is

pub returns-in_err-found-in-Opening : goal.returns-in_err-found-in-Opening
returns-in_err-found-in-Opening t c =
    let a = c.args in
    let handed : c.from_residual-in_err-found-in-Opening.result ≡ Err c.in_err-found-in-Opening.field-0.0 = search rules in
    turn_refused a.allowed a.list.now a.pool.now a.text.now a.openings c.requires.begins c.loop-all.invariant
    (rw c.at_depth.ensures at c.normalize_flat.ensures) (table_sound a.allowed c.type_inv.list c.requires.valid_table) (c.in_ok-all.was ∙ ap Ok c.in-Opening.is)
    (inner_said t (goal.at.returns-in_err-found-in-Opening t c).After-least_depth) (ap needed c.in_err-found-in-Opening.was) (ap needed handed)

pub overflow_sub-found : goal.overflow_sub-found
overflow_sub-found t c =
    let n = counts t (goal.at.overflow_sub-found t c).After-least_depth (ap needed c.in_ok-found-in-Opening.was) in
    omega (arith, n.1)

pub keep_text-requires : goal.keep_text-requires
keep_text-requires t c =
    let a = c.args in
    let o = opening t (goal.at.keep_text-requires t c).In-Opening in (
      omega (arith, o.defines.fits, valid_short a.list.now a.pool.now c.requires.valid_table),
      o.slots,
      omega (arith, (inner_said t (goal.at.keep_text-requires t c).After-least_depth).words, o.size),
    )

pub overflow_add-len-else-is_known : goal.overflow_add-len-else-is_known
overflow_add-len-else-is_known t c =
    let o = opening t (goal.at.overflow_add-len-else-is_known t c).In-Opening in
    let n = counts t (goal.at.overflow_add-len-else-is_known t c).After-least_depth (ap needed c.in_ok-found-in-Opening.was) in
    omega (arith, o.sum, o.few, n, c.requires.small.most)

pub loop-all-preserved : goal.loop-all-preserved
loop-all-preserved t c =
    let a = c.args in
    turn_opened a.allowed a.list.now a.pool.now a.text.now a.openings c.requires.begins c.loop-all.invariant
    (rw c.at_depth.ensures at c.normalize_flat.ensures) (table_sound a.allowed c.type_inv.list c.requires.valid_table) (c.in_ok-all.was ∙ ap Ok c.in-Opening.is)
    (inner_said t (goal.at.loop-all-preserved t c).After-least_depth) (ap needed c.in_ok-found-in-Opening.was) refl refl c.keep_text.ensures refl
    c.next_halt-first-else-is_known.ensures c.max-most-else-is_known.ensures c.if-allowed-eq0.false
