-- The loop goes from halt to halt: it writes the run up to the next one, and `halt_step` says what becomes of that. It keeps `Going`, and its
-- ends are the laws of Going.antt, over what `write_run` added to the output and what `halt_step` kept (`halt_kept`).
use mathlib.Core.Path.{◌≡◌, ap, subst, ◌∙◌}
use native.Mathlib.Omega.{arith}
use mathlib.Core.List.{List}
use Rattle.legal.specs.FirstFault.{Clean}
use Rattle.attribute.specs.Steps.{fault_by}
use Rattle.std.specs.Prelude.{Result, Ok}
use Rattle.text.specs.declared.refusals.Refusal.{Refusal}
use Rattle.flat.specs.declared.Halted.{Halted}
use Rattle.memory.specs.Levels.{level_of}
use Rattle.flat.specs.Between.{HaltKeeps}
use Prim.Native.Nat.{ℕ, ◌+◌, ◌≤◌, ◌<◌}
use Rattle.memory.proofs.Levels.{place_of}
use lib.ListN.{length}
use Rattle.flat.proofs.Going.{going_start, going_barred, going_room, going_within, run_lent, run_room}
use Rattle.flat.proofs.Going.{going_end, going_opens, going_paused, going_stopped, going_sum, going_made, going_next}
use Rattle.flat.proofs.normalize_flat.Goals as goal
use Rattle.flat.proofs.normalize_flat.Goals.{After-halt_step, After-write_run-written, At-loop-end}

-- the output after the run; the output and the memory after the halt
abbrev out_ran : After-write_run-written → List ℕ
out_ran c = c.write_run-written.new.out

abbrev out_halted : After-halt_step → List ℕ
out_halted c = c.halt_step.new.out

abbrev seen_halted : After-halt_step → List ℕ
seen_halted c = c.halt_step.new.seen

-- ---- facts of these places
-- every character of the run may stand
run_clean : (c : After-write_run-written) → Clean (fault_by c.args.reading.guard) c.args.text.now c.loop-end.at c.loop-end.end
run_clean c =
    let a = c.args in
    subst (λ (e : ℕ). Clean (fault_by a.reading.guard) a.text.now c.loop-end.at e) c.if-fault-end.false c.run_fault-fault.ensures.clean

-- what is written so far is short
len_small : (c : At-loop-end) → c.loop-end.len ≤ 0x1000000000000
len_small c =
    let a = c.args in
    let room =
    going_room a.reading a.text.now a.list.now a.pool.now a.place a.out.now a.seen.now c.loop-end.invariant c.requires.depth_nonzero.0
    c.requires.lent in
    let within =
    going_within a.reading a.text.now a.list.now a.pool.now a.place a.out.now a.seen.now c.loop-end.invariant c.requires.depth_nonzero.0
    c.requires.lent in
    omega (arith, room, within, c.requires.depth_nonzero.1)

-- what `halt_step` keeps, of the result as it was matched
halt_kept : (c : After-halt_step) {r : Result Halted Refusal} → c.halt_step.result ≡ r → HaltKeeps (level_of c.args.reading c.args.list.now c.args.pool.now c.args.text.now) c.args.reading.base (place_of c.loop-end.end (c.loop-end.len + c.write_run-written.result) c.loop-end.made) (c.write_run-written.new.out) c.loop-end.seen (out_halted c) (seen_halted c) r
halt_kept c q =
    let a = c.args in
    subst
    (HaltKeeps (level_of a.reading a.list.now a.pool.now a.text.now) a.reading.base
    (place_of c.loop-end.end (c.loop-end.len + c.write_run-written.result) c.loop-end.made) (c.write_run-written.new.out) c.loop-end.seen
    (out_halted c) (seen_halted c)) q c.halt_step.ensures

-- neither buffer changes its length
words_kept : (c : After-halt_step) → length (seen_halted c) ≡ length c.args.seen.now
words_kept c = c.halt_step.ensures.words ∙ c.loop-end.invariant.words

buffer_kept : (c : After-halt_step) → length (out_halted c) ≡ length c.args.out.now
buffer_kept c =
    c.halt_step.ensures.buffer ∙ c.write_run-written.ensures.1.buffer ∙ c.loop-end.invariant.buffer

-- ---- the run
pub loop-end-init : goal.loop-end-init
loop-end-init c =
    let a = c.args in
    going_start a.reading a.text.now a.list.now a.pool.now a.place a.out.now a.seen.now c.requires.halt_at

pub run_fault-fault-requires : goal.run_fault-fault-requires
run_fault-fault-requires c = let smooth = c.loop-end.invariant.halt.smooth in (smooth.from, smooth.to)

pub shape_of-seen-then-fault-end : goal.shape_of-seen-then-fault-end
shape_of-seen-then-fault-end c = c.loop-end.invariant.words

pub shape_of-out-then-fault-end : goal.shape_of-out-then-fault-end
shape_of-out-then-fault-end c = c.loop-end.invariant.buffer

pub returns-then-fault-end : goal.returns-then-fault-end
returns-then-fault-end c =
    let a = c.args in
    going_barred a.reading a.text.now a.list.now a.pool.now a.place a.out.now a.seen.now c.loop-end.invariant c.requires.depth_nonzero.0
    c.requires.lent c.run_fault-fault.ensures c.if-fault-end.true

pub write_run-written-requires : goal.write_run-written-requires
write_run-written-requires c =
    let smooth = c.loop-end.invariant.halt.smooth in
    (smooth.from, smooth.to, c.requires.depth_nonzero.2, len_small (goal.at.write_run-written-requires c).At-loop-end)

pub overflow_add-len : goal.overflow_add-len
overflow_add-len c =
    let a = c.args in
    let room =
    run_room a.reading a.text.now a.list.now a.pool.now a.place a.out.now a.seen.now c.loop-end.invariant c.requires.depth_nonzero.0
    c.requires.lent (run_clean (goal.at.overflow_add-len c).After-write_run-written) c.write_run-written.ensures in
    let within =
    going_within a.reading a.text.now a.list.now a.pool.now a.place a.out.now a.seen.now c.loop-end.invariant c.requires.depth_nonzero.0
    c.requires.lent in
    omega (arith, room, within, c.requires.depth_nonzero.1)

-- ---- the end of the text
pub shape_of-seen-then-end-text : goal.shape_of-seen-then-end-text
shape_of-seen-then-end-text c = c.loop-end.invariant.words

pub shape_of-out-then-end-text : goal.shape_of-out-then-end-text
shape_of-out-then-end-text c =
    c.write_run-written.ensures.1.buffer ∙ c.loop-end.invariant.buffer

pub returns-then-end-text : goal.returns-then-end-text
returns-then-end-text c =
    let a = c.args in
    going_end a.reading a.text.now a.list.now a.pool.now a.place a.out.now a.seen.now c.loop-end.invariant c.requires.depth_nonzero.0
    c.requires.lent (run_clean (goal.at.returns-then-end-text c).After-write_run-written) c.write_run-written.ensures c.if-end-text.true

-- ---- the halt
pub halt_step-requires : goal.halt_step-requires
halt_step-requires c =
    let a = c.args in
    let h = c.loop-end.invariant.halt in
    let inside : c.loop-end.end < length a.text.now = omega (arith, c.if-end-text.false, h.smooth.to) in
    let lent =
    run_lent a.reading a.text.now a.list.now a.pool.now a.place a.out.now a.seen.now c.loop-end.invariant c.requires.depth_nonzero.0
    c.requires.lent (run_clean (goal.at.halt_step-requires c).After-write_run-written) c.write_run-written.ensures in
    record { valid_table = c.requires.valid_table; depth_nonzero = c.requires.depth_nonzero; at_in_bounds = (inside, h.ends inside); lent = lent }

pub overflow_add-len-in-Ok-Next : goal.overflow_add-len-in-Ok-Next
overflow_add-len-in-Ok-Next c =
    let a = c.args in
    let k = halt_kept (goal.at.overflow_add-len-in-Ok-Next c).After-halt_step (c.in-Ok-Next.is ∙ ap (λ h. Ok h) c.in-Ok-Next.field-0-is) in
    let sum =
    going_sum a.reading a.text.now a.list.now a.pool.now a.place a.out.now a.seen.now c.loop-end.invariant c.requires.depth_nonzero.0
    c.requires.lent (run_clean (goal.at.overflow_add-len-in-Ok-Next c).After-write_run-written) c.write_run-written.ensures k in
    let made =
    going_made a.reading a.text.now a.list.now a.pool.now a.place a.out.now a.seen.now c.loop-end.invariant c.requires.depth_nonzero.0
    c.requires.lent (run_clean (goal.at.overflow_add-len-in-Ok-Next c).After-write_run-written) c.write_run-written.ensures k in
    omega (arith, sum, made, c.requires.depth_nonzero)

pub returns-in-Ok-Opening : goal.returns-in-Ok-Opening
returns-in-Ok-Opening c =
    let a = c.args in
    going_opens a.reading a.text.now a.list.now a.pool.now a.place a.out.now a.seen.now c.loop-end.invariant c.requires.depth_nonzero.0
    c.requires.lent (run_clean (goal.at.returns-in-Ok-Opening c).After-write_run-written) c.write_run-written.ensures (halt_kept (goal.at.returns-in-Ok-Opening c).After-halt_step (c.in-Ok-Opening.is ∙ ap (λ h. Ok h) c.in-Ok-Opening.field-0-is))

pub returns-in-Ok-Paused : goal.returns-in-Ok-Paused
returns-in-Ok-Paused c =
    let a = c.args in
    going_paused a.reading a.text.now a.list.now a.pool.now a.place a.out.now a.seen.now c.loop-end.invariant c.requires.depth_nonzero.0
    c.requires.lent (run_clean (goal.at.returns-in-Ok-Paused c).After-write_run-written) c.write_run-written.ensures c.if-end-text.false (halt_kept (goal.at.returns-in-Ok-Paused c).After-halt_step (c.in-Ok-Paused.is ∙ ap (λ h. Ok h) c.in-Ok-Paused.field-0-is))

pub returns-in-Err : goal.returns-in-Err
returns-in-Err c =
    let a = c.args in
    going_stopped a.reading a.text.now a.list.now a.pool.now a.place a.out.now a.seen.now c.loop-end.invariant c.requires.depth_nonzero.0
    c.requires.lent (run_clean (goal.at.returns-in-Err c).After-write_run-written) c.write_run-written.ensures (halt_kept (goal.at.returns-in-Err c).After-halt_step c.in-Err.is)

-- ---- the halt is passed: to the next one
pub overflow_add-met : goal.overflow_add-met
overflow_add-met c =
    let inv = c.loop-end.invariant in
    omega (arith, inv.few, inv.halt.smooth.from, inv.halt.smooth.to, c.requires.depth_nonzero)

pub halt_after-end-requires : goal.halt_after-end-requires
halt_after-end-requires c =
    let inv = c.loop-end.invariant in (
      (halt_kept (goal.at.halt_after-end-requires c).After-halt_step (c.in-Ok-Next.is ∙ ap (λ h. Ok h) c.in-Ok-Next.field-0-is)).past.1,
      c.requires.depth_nonzero.2,
      omega (arith, inv.few, inv.halt.smooth.from, inv.halt.smooth.to, c.requires.depth_nonzero.2),
    )

pub loop-end-smaller : goal.loop-end-smaller
loop-end-smaller c =
    let k = halt_kept (goal.at.loop-end-smaller c).After-halt_step (c.in-Ok-Next.is ∙ ap (λ h. Ok h) c.in-Ok-Next.field-0-is) in
    omega (arith, c.loop-end.invariant.halt.smooth.from, k.past)

pub loop-end-preserved : goal.loop-end-preserved
loop-end-preserved c =
    let a = c.args in
    going_next a.reading a.text.now a.list.now a.pool.now a.place a.out.now a.seen.now c.loop-end.invariant c.requires.depth_nonzero.0
    c.requires.lent (run_clean (goal.at.loop-end-preserved c).After-write_run-written) c.write_run-written.ensures (halt_kept (goal.at.loop-end-preserved c).After-halt_step (c.in-Ok-Next.is ∙ ap (λ h. Ok h) c.in-Ok-Next.field-0-is)) c.halt_after-end.ensures
