-- A run that is its own form is copied (`writes_own`). Else the form is laid whole where it fits (`writes_piece`), or nothing is
-- (`writes_none`); where there are six bytes for each byte of the run it fits (`form_most`).
use mathlib.Core.Path.{refl}
use native.Mathlib.Omega.{arith}
use Rattle.eols.specs.Stops.{rule_for}
use Rattle.canonical.specs.Canonical.{canonical}
use Rattle.halts.specs.Halts.{blanks_spaced}
use Rattle.flat.proofs.Writing.{writes_own, writes_piece, writes_none, form_most, rest_room}
use Rattle.flat.proofs.write_form.Goals as goal

pub returns-then-is_own_form : goal.returns-then-is_own_form
returns-then-is_own_form c =
    record { writes = writes_own (c.is_own_form.ensures c.if-is_own_form.true) c.write_spaced.ensures.writes; out_unchanged = c.write_spaced.ensures.out_unchanged }

pub write_spaced-requires-then-len-run : goal.write_spaced-requires-then-len-run
write_spaced-requires-then-len-run c =
    let a = c.args in
    rest_room a.len a.out.now (omega (arith, form_most a.newer a.run.now, c.if-len-run.true))

pub returns-then-len-run : goal.returns-then-len-run
returns-then-len-run c =
    let a = c.args in
    let most = form_most a.newer a.run.now in
    record { writes = writes_piece (canonical (rule_for a.newer) (blanks_spaced a.run.now)) c.write_spaced-then-len-run.ensures.value (omega (arith, most, c.if-len-run.true, c.write_spaced-then-len-run.ensures.value)) c.write_spaced-then-len-run.ensures.out_after; out_unchanged = λ h. absurd (omega (arith, h, most, c.if-len-run.true, c.write_spaced-then-len-run.ensures.value)) }

pub overflow_add-len-2 : goal.overflow_add-len-2
overflow_add-len-2 c =
    let a = c.args in
    omega (arith, c.spaced_length-n.ensures, form_most a.newer a.run.now, c.requires)

pub write_spaced-requires-then-len-n : goal.write_spaced-requires-then-len-n
write_spaced-requires-then-len-n c =
    let a = c.args in
    rest_room a.len a.out.now (omega (arith, c.spaced_length-n.ensures, c.if-len-n.true))

pub returns-then-len-n : goal.returns-then-len-n
returns-then-len-n c =
    let a = c.args in
    let room = c.if-len-n.true in
    record { writes = writes_piece (canonical (rule_for a.newer) (blanks_spaced a.run.now)) c.spaced_length-n.ensures room c.write_spaced-then-len-n.ensures.out_after; out_unchanged = λ h. absurd (omega (arith, h, room)) }

pub returns-else-len-n : goal.returns-else-len-n
returns-else-len-n c =
    let a = c.args in
    record { writes = writes_none (canonical (rule_for a.newer) (blanks_spaced a.run.now)) c.spaced_length-n.ensures c.if-len-n.false; out_unchanged = λ h. refl }
