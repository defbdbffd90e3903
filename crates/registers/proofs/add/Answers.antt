-- `add`: the checks, then the change.
use mathlib.Core.Path.{◌≡◌, refl, sym, ap, ◌∙◌}
use mathlib.Core.List.{[]}
use mathlib.Core.Bool.{true}
use native.Mathlib.Omega.{arith}
use lib.ListN.{length, take}
use Rattle.std.specs.Prelude.{Result, Err}
use Rattle.std.proofs.Common.{rules}
use Rattle.text.specs.Call.{answered, Called, called}
use Rattle.text.specs.declared.Success.{Success}
use Rattle.text.specs.declared.refusals.Refusal.{Refusal}
use Rattle.register.specs.Entries.{add}
use Rattle.register.specs.Stored.{Held, intact, register}
use Rattle.register.specs.RegisterCalls.{lent, leaves, of_held, add_call}
use Rattle.register.specs.Places.{Sits, entries_in}
use Rattle.register.proofs.Sits.{intact_sits, intact_holds}
use Rattle.changes.specs.Leaving.{leaving}
use Rattle.registers.proofs.Answering.{check_refused, check_done}
use Rattle.registers.proofs.add.Goals as goal
use Rattle.registers.proofs.add.Goals.{In_ok-check, Start}

-- what the call leaves, by what the buffer holds
abbrev call : Start → Held → Called
call s held = leaves s.args.buffer.now s.args.used (of_held (add (length s.args.buffer.now) s.args.form.now) held)

whole : (c : In_ok-check) → intact c.args.buffer.now c.args.used ≡ true
whole c =
    let a = c.args in
    (check_done a.buffer.now a.used [] a.form.now (called 0 [] []) (sym c.check.ensures ∙ ap answered c.in_ok-check.was)).0

sits : (c : In_ok-check) → Sits c.args.buffer.now c.args.used (entries_in (take c.args.used c.args.buffer.now))
sits c =
    let a = c.args in
    intact_sits a.buffer.now a.used (λ k. omega (arith, c.slice_known-1.given k)) (whole c)

pub returns-in_err-check : goal.returns-in_err-check
unfolding add_call
returns-in_err-check c =
    let a = c.args in
    let told = ap answered c.in_err-check.was in
    let handed : c.from_residual.result ≡ Err c.in_err-check.field-0.0 = search rules in
    ap (λ (r : Result Success Refusal). leaving (answered r) a.used a.buffer.now) handed
    ∙ check_refused a.buffer.now a.used (lent a.buffer.now a.used) (call (goal.at.returns-in_err-check c).Start) refl a.form.now (sym c.check.ensures ∙ told)

pub add-requires : goal.add-requires
add-requires c = sits (goal.at.add-requires c).In_ok-check

pub returns : goal.returns
unfolding add_call
returns c =
    let a = c.args in
    c.add.ensures ∙ sym (ap (call (goal.at.returns c).Start) (intact_holds a.buffer.now a.used (whole (goal.at.returns c).In_ok-check)))
    ∙ (check_done a.buffer.now a.used (lent a.buffer.now a.used) a.form.now (call (goal.at.returns c).Start (register a.buffer.now a.used))
    (sym c.check.ensures ∙ ap answered c.in_ok-check.was)).1
