-- The cycle: the step that opens a text has it walked by the walker with the depth one less, and the walker calls the step at each text to
-- open. Measure: twice the depth, and one more for the walker. The loop keeps `Goes`; the laws are in Cycle.antt.
use Rattle.std.proofs.Common.{◌≡◌, ◌<◌, ◌≤◌, ◌+◌, ◌*◌, ℕ, List, get_or, Fits, w8, arith, length-take, length-drop}
use borrow.Author.Rules.{rules}
use mathlib.Core.Path.{ap, ◌∙◌}
use Rattle.std.specs.Prelude.{Ok, Err}
use Rattle.text.specs.Call.{answered}
use Rattle.tokens.specs.Walking.{stepped}
use Rattle.entity.specs.Table.{ValidTable}
use Rattle.memory.specs.Levels.{settings_of}
use Rattle.memory.specs.declared.Reading.{Reading}
use Rattle.memory.proofs.Levels.{Sound}
use Rattle.memory.proofs.Readings.{by_sound}
use Rattle.flat.proofs.Halting.{valid_short}
use Rattle.cycle.proofs.Cycle.{text_is, step_lent, step_of, step_bottom, AtOpening, goes_lent, keeps_end, keeps_stopped, at_opening, open_counts, goes_open, keeps_refused}
use Rattle.cycle.proofs.+normalize_attr_step_normalize_attr_steps.Goals as goal
use Rattle.cycle.proofs.+normalize_attr_step_normalize_attr_steps.Goals.{normalize_attr_steps-In-Opening, normalize_attr_steps-In_ok-step-in-Opening}

-- what the settings and the table are, where the list is one of bytes
table_sound : {list pool : List ℕ} (r : Reading) → ((k : ℕ) → Fits w8 (get_or list k 0)) → ValidTable list pool → Sound (settings_of r list pool) list pool
table_sound {list} {pool} r bytes valid = by_sound r.inner r.inguard list pool r.limit (λ k. omega (arith, bytes k)) valid

-- ---- the step

pub normalize_attr_step-returns-then-depth-eq1 : goal.normalize_attr_step-returns-then-depth-eq1
normalize_attr_step-returns-then-depth-eq1 t c =
    let a = c.args in
    step_bottom a.reading a.place a.list.now a.pool.now a.command
    (text_is a.reading a.place a.list.now a.pool.now a.command c.text_start-start.ensures.0 c.text_length.ensures.0)
    c.if-depth-eq1.true c.bottom_step.ensures

pub normalize_attr_step-normalize_attr_steps-requires : goal.normalize_attr_step-normalize_attr_steps-requires
normalize_attr_step-normalize_attr_steps-requires t c =
    let a = c.args in
    let asked = c.requires.openable in
    let told = text_is a.reading a.place a.list.now a.pool.now a.command c.text_start-start.ensures.0 c.text_length.ensures.0 in (
      omega (arith, c.decreases, asked.deep),
      (
        c.requires.valid_table,
        (
          record {
            deep = λ q. omega (arith, q, c.if-depth-eq1.false, asked.deep);
            most = asked.most;
            short = simp (length-take, length-drop) (omega (arith, c.text_length.ensures));
          },
          (asked.full, step_lent a.reading a.place a.list.now a.pool.now a.command told c.requires.lent_inner),
        ),
      ),
    )

pub normalize_attr_step-returns : goal.normalize_attr_step-returns
normalize_attr_step-returns t c =
    let a = c.args in
    step_of a.reading a.place a.list.now a.pool.now a.command
    (text_is a.reading a.place a.list.now a.pool.now a.command c.text_start-start.ensures.0 c.text_length.ensures.0)
    c.requires.openable.few (table_sound a.reading c.type_inv.list c.requires.valid_table) c.requires.defines (ap answered c.in_ok-walked.was)
    c.normalize_attr_steps.ensures

pub normalize_attr_step-returns-in_err-walked : goal.normalize_attr_step-returns-in_err-walked
normalize_attr_step-returns-in_err-walked t c =
    let a = c.args in
    let handed : c.from_residual.result ≡ Err c.in_err-walked.field-0.0 = search rules in
    rw handed
    (step_of a.reading a.place a.list.now a.pool.now a.command
    (text_is a.reading a.place a.list.now a.pool.now a.command c.text_start-start.ensures.0 c.text_length.ensures.0)
    c.requires.openable.few (table_sound a.reading c.type_inv.list c.requires.valid_table) c.requires.defines (ap answered c.in_err-walked.was)
    c.normalize_attr_steps.ensures)

-- ---- the walker

pub normalize_attr_steps-next_halt-first-requires : goal.normalize_attr_steps-next_halt-first-requires
normalize_attr_steps-next_halt-first-requires t c =
    let a = c.args in
    (goes_lent a.reading a.list.now a.pool.now a.text.now a.begun c.loop-all.invariant c.requires.lent).came.inside

pub normalize_attr_steps-normalize_flat-requires-clause-lent : goal.normalize_attr_steps-normalize_flat-requires-clause-lent
normalize_attr_steps-normalize_flat-requires-clause-lent t c =
    let a = c.args in
    goes_lent a.reading a.list.now a.pool.now a.text.now a.begun c.loop-all.invariant c.requires.lent

pub normalize_attr_steps-returns-in-End : goal.normalize_attr_steps-returns-in-End
normalize_attr_steps-returns-in-End t c =
    let a = c.args in
    keeps_end a.reading a.list.now a.pool.now a.text.now a.begun c.loop-all.invariant c.normalize_flat.ensures (c.in_ok-all.was ∙ ap (λ r. Ok r) c.in-End.is)

pub normalize_attr_steps-returns-in_err-all : goal.normalize_attr_steps-returns-in_err-all
normalize_attr_steps-returns-in_err-all t c =
    let a = c.args in
    let handed : c.from_residual.result ≡ Err c.in_err-all.field-0.0.refusal = search rules in
    rw handed
    (keeps_stopped a.reading a.list.now a.pool.now a.text.now a.begun c.loop-all.invariant c.normalize_flat.ensures c.in_err-all.was)

-- at the reference to a text that is to be opened
opening : (t : ℕ) (c : normalize_attr_steps-In-Opening t)
    → AtOpening c.args.reading c.args.list.now c.args.pool.now c.args.text.now c.loop-all.at c.in-Opening.next c.in-Opening.command c.in-Opening.slot
    c.in-Opening.before c.in-Opening.openings c.normalize_flat.new.seen
opening t c =
    let a = c.args in
    at_opening a.reading a.list.now a.pool.now a.text.now a.begun c.loop-all.invariant c.normalize_flat.ensures c.requires.lent (c.in_ok-all.was ∙ ap (λ r. Ok r) c.in-Opening.is)
    (table_sound a.reading c.type_inv.list c.requires.valid_table)

-- what the step that opened it counts
counts : (t : ℕ) (c : normalize_attr_steps-In_ok-step-in-Opening t)
    → (c.in_ok-step-in-Opening.step.at ≡ c.in-Opening.next) × (c.in-Opening.openings < c.in_ok-step-in-Opening.step.openings) × (c.in_ok-step-in-Opening.step.openings ≤ c.args.reading.limit)
    × (c.in_ok-step-in-Opening.step.len + 393210 * c.in-Opening.openings ≤ 393210 * c.in_ok-step-in-Opening.step.openings)
counts t c =
    let a = c.args in
    open_counts a.reading a.list.now a.pool.now a.text.now a.begun c.loop-all.invariant c.normalize_flat.ensures c.requires.lent (c.in_ok-all.was ∙ ap (λ r. Ok r) c.in-Opening.is)
    (table_sound a.reading c.type_inv.list c.requires.valid_table) c.min-rest.ensures c.normalize_attr_step.ensures (ap stepped c.in_ok-step-in-Opening.was)

pub normalize_attr_steps-normalize_attr_step-requires : goal.normalize_attr_steps-normalize_attr_step-requires
normalize_attr_steps-normalize_attr_step-requires t c =
    let o = opening t (goal.at.normalize_attr_steps-normalize_attr_step-requires t c).In-Opening in
    let asked = c.requires.walkable in (
      omega (arith, c.decreases),
      (
        c.requires.valid_table,
        (
          record {
            deep = asked.deep;
            few = o.few;
            most = asked.most;
            full = omega (arith, c.normalize_flat.ensures.words, c.loop-all.invariant.kept, c.requires.in_bounds);
          },
          (o.defines, o.lent _),
        ),
      ),
    )

pub normalize_attr_steps-overflow_add-reading : goal.normalize_attr_steps-overflow_add-reading
normalize_attr_steps-overflow_add-reading t c =
    let o = opening t (goal.at.normalize_attr_steps-overflow_add-reading t c).In-Opening in
    omega (arith, o.room, o.few, c.requires.walkable.most)

pub normalize_attr_steps-overflow_sub-step : goal.normalize_attr_steps-overflow_sub-step
normalize_attr_steps-overflow_sub-step t c =
    let n = counts t (goal.at.normalize_attr_steps-overflow_sub-step t c).In_ok-step-in-Opening in
    omega (arith, n.1)

pub normalize_attr_steps-keep-requires-clause-command_bound : goal.normalize_attr_steps-keep-requires-clause-command_bound
normalize_attr_steps-keep-requires-clause-command_bound t c =
    let o = opening t (goal.at.normalize_attr_steps-keep-requires-clause-command_bound t c).In-Opening in
    (omega (arith, o.defines.fits, valid_short c.args.list.now c.args.pool.now c.requires.valid_table), o.known)

pub normalize_attr_steps-overflow_add-len : goal.normalize_attr_steps-overflow_add-len
normalize_attr_steps-overflow_add-len t c =
    let o = opening t (goal.at.normalize_attr_steps-overflow_add-len t c).In-Opening in
    let n = counts t (goal.at.normalize_attr_steps-overflow_add-len t c).In_ok-step-in-Opening in
    omega (arith, o.room, n, c.requires.walkable.most)

pub normalize_attr_steps-loop-all-smaller : goal.normalize_attr_steps-loop-all-smaller
normalize_attr_steps-loop-all-smaller t c =
    let o = opening t (goal.at.normalize_attr_steps-loop-all-smaller t c).In-Opening in
    let n = counts t (goal.at.normalize_attr_steps-loop-all-smaller t c).In_ok-step-in-Opening in
    omega (arith, o.on, o.inside, n.0)

pub normalize_attr_steps-loop-all-preserved : goal.normalize_attr_steps-loop-all-preserved
normalize_attr_steps-loop-all-preserved t c =
    let a = c.args in
    goes_open a.reading a.list.now a.pool.now a.text.now a.begun c.loop-all.invariant c.normalize_flat.ensures c.requires.lent (c.in_ok-all.was ∙ ap (λ r. Ok r) c.in-Opening.is)
    (table_sound a.reading c.type_inv.list c.requires.valid_table) c.min-rest.ensures c.normalize_attr_step.ensures (ap stepped c.in_ok-step-in-Opening.was) c.keep.ensures
    (omega arith)

pub normalize_attr_steps-returns-in_err-step-in-Opening : goal.normalize_attr_steps-returns-in_err-step-in-Opening
normalize_attr_steps-returns-in_err-step-in-Opening t c =
    let a = c.args in
    let handed : c.from_residual-in_err-step-in-Opening.result ≡ Err c.in_err-step-in-Opening.field-0.0 = search rules in
    rw handed
    (keeps_refused a.reading a.list.now a.pool.now a.text.now a.begun c.loop-all.invariant c.normalize_flat.ensures c.requires.lent
    (c.in_ok-all.was ∙ ap (λ r. Ok r) c.in-Opening.is)
    (table_sound a.reading c.type_inv.list c.requires.valid_table) c.min-rest.ensures c.normalize_attr_step.ensures
    (ap stepped c.in_err-step-in-Opening.was))
