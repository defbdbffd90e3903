-- `value_step`: what was read so far is the value (`Valuing`), after each run (`valuing_run`) and after each stop (`valuing_step`), until the quote
-- (`valuing_closed`, `valuing_long`), the text's end (`valuing_ended`) or a stop that refuses (`valuing_stopped`).
use Prim.Native.Nat.{◌+◌, ◌-◌, ◌<◌}
use native.Mathlib.Omega.{arith}
use lib.ListN.{length}
use borrow.Rule.Slice.PartMut.{put_mid}
use Rattle.std.proofs.lemmas.Result.{err_from_is_err_and}
use Rattle.table_values.proofs.EntityValues.{Valuing, valuing_run, valuing_ended, valuing_long, valuing_closed, valuing_step, valuing_stopped}
use Rattle.table_values.proofs.value_step.Goals as goal
use Rattle.table_values.proofs.value_step.Goals.{After-put_over, Else-e-text}

-- what is read when a run has been laid down
ran : (c : After-put_over)
    → let out = c.loop-from.out in
    let at = c.min-room.result in
    Valuing c.args.quote c.args.newer c.args.text.now c.args.from c.args.out.now (put_mid at (length out - at) out c.put_over.new.out) c.run_end-e.result
    (c.loop-from.len + (c.run_end-e.result - c.loop-from.i))
ran c = valuing_run c.loop-from.invariant c.run_end-e.ensures.run c.min-room.ensures c.put_over.ensures

stands : (c : Else-e-text) → c.run_end-e.result < length c.args.text.now
stands c = omega (arith, c.run_end-e.ensures.run.to, c.if-e-text.false)

pub returns-then-e-text : goal.returns-then-e-text
returns-then-e-text c = valuing_ended (ran (goal.at.returns-then-e-text c).After-put_over) c.if-e-text.true

pub returns-then-len-gt65535 : goal.returns-then-len-gt65535
returns-then-len-gt65535 c =
    let at = goal.at.returns-then-len-gt65535 c in
    valuing_long (ran at.After-put_over) (stands at.Else-e-text) c.requires.1 c.if-text-e.true c.if-len-gt65535.true

pub returns-then-text-e : goal.returns-then-text-e
returns-then-text-e c =
    let at = goal.at.returns-then-text-e c in
    valuing_closed (ran at.After-put_over) (stands at.Else-e-text) c.requires.1 c.if-text-e.true c.if-len-gt65535.false

pub returns-in_err-step : goal.returns-in_err-step
returns-in_err-step c =
    let at = goal.at.returns-in_err-step c in
    let told = err_from_is_err_and c.from_residual.result c.from_residual.ensures.1 in
    rw (told.1, told.2) (valuing_stopped (ran at.After-put_over) (stands at.Else-e-text) c.requires.1 c.if-text-e.false c.min-rest.ensures _ c.in_err-step.ensures)

pub loop-from-preserved : goal.loop-from-preserved
loop-from-preserved c =
    let at = goal.at.loop-from-preserved c in
    valuing_step (ran at.After-put_over) (stands at.Else-e-text) c.requires.1 c.if-text-e.false c.min-rest.ensures c.in_ok-step.ensures
