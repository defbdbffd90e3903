-- `count`: the checks, then the form is looked for in the used bytes.
use mathlib.Core.Path.{◌≡◌, refl, sym, ap, ◌∙◌}
use mathlib.Core.List.{[], ◌∷◌}
use Prim.Native.Nat.{ℕ}
use mathlib.Core.Bool.{true}
use native.Mathlib.Omega.{arith}
use lib.ListN.{take}
use lib.Seq.{length-take-le}
use Rattle.std.specs.Prelude.{Result, Err}
use Rattle.std.proofs.Common.{rules}
use Rattle.text.specs.Call.{answered, called, call_of}
use Rattle.text.specs.declared.Success.{Success}
use Rattle.text.specs.declared.refusals.Refusal.{Refusal}
use Rattle.register.specs.Stored.{intact, register}
use Rattle.register.specs.RegisterCalls.{counted, count_call}
use Rattle.register.specs.Places.{Sits, entries_in}
use Rattle.register.proofs.Sits.{intact_sits, intact_holds}
use Rattle.registers.proofs.Answering.{check_refused, check_done}
use Rattle.registers.proofs.count.Goals as goal
use Rattle.registers.proofs.count.Goals.{In_ok-check}

whole : (c : In_ok-check) → intact c.args.buffer.now c.args.used ≡ true
whole c =
    let a = c.args in
    (check_done a.buffer.now a.used [] a.form.now (called 0 [] []) (sym c.check.ensures ∙ ap answered c.in_ok-check.was)).0

sits : (c : In_ok-check) → Sits c.args.buffer.now c.args.used (entries_in (take c.args.used c.args.buffer.now))
sits c =
    let a = c.args in
    intact_sits a.buffer.now a.used (λ k. omega (arith, c.type_inv.buffer k)) (whole c)

pub returns-in_err-check : goal.returns-in_err-check
unfolding count_call
returns-in_err-check c =
    let a = c.args in
    let told = ap answered c.in_err-check.was in
    let handed : c.from_residual.result ≡ Err c.in_err-check.field-0.0 = search rules in
    ap (λ (r : Result Success Refusal). call_of (answered r) []) handed
    ∙ check_refused a.buffer.now a.used [] (counted a.form.now) refl a.form.now (sym c.check.ensures ∙ told)

pub slice_bounds-count_of-end : goal.slice_bounds-count_of-end
slice_bounds-count_of-end c =
    let a = c.args in
    sym (length-take-le a.used a.buffer.now (sits c).within)

pub count_of-requires : goal.count_of-requires
count_of-requires c = let h = sits c in record { is = h.is; narrow = h.sound.narrow }

pub returns : goal.returns
unfolding count_call
returns c =
    let a = c.args in
    let call = counted a.form.now in
    let number = ap (λ (n : ℕ). called 0 (n ∷ 0 ∷ []) []) c.count_of.ensures in
    number
    ∙ sym (ap call (intact_holds a.buffer.now a.used (whole (goal.at.returns c).In_ok-check)))
    ∙ (check_done a.buffer.now a.used [] a.form.now (call (register a.buffer.now a.used)) (sym c.check.ensures ∙ ap answered c.in_ok-check.was)).1
