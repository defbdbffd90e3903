-- The call is refused as the walk is, for want of a scratch, or of room (`hand_refused`); else its output begins with the form (`form_made`), off
-- the end of which the last character of the value is read.
use mathlib.Core.Path.{◌≡◌, sym, ap, ◌∙◌}
use mathlib.Core.List.{List, [], ◌∷◌}
use Prim.Native.Nat.{ℕ}
use lib.Seq.{length-take-le}
use Rattle.text.specs.Version.{rule_of}
use Rattle.text.specs.Utf8.{WellFormed}
use borrow.Author.Rules.{rules}
use Rattle.std.specs.Prelude.{Err}
use Rattle.text.specs.Call.{answered, call_of}
use Rattle.text.specs.Answers.{Done}
use Rattle.tokens.specs.Outcome.{Outcome}
use Rattle.normalize.specs.Calls.{outcome_for}
use Rattle.normalize.proofs.Texts.{call_utf8}
use Rattle.normalize.proofs.Hand.{form_is, Made, hand_refused, hand_made, made_form}
use Rattle.normalize.proofs.canonical_form.Goals as goal
use Rattle.normalize.proofs.canonical_form.Goals.{After-normalized}

abbrev outcome : After-normalized → Outcome
outcome c =
    let a = c.args in
    outcome_for a.wanted a.list.now a.pool.now a.text.now

-- the output begins with the form
form_made : (c : After-normalized) {len second : ℕ} → answered c.normalized.result ≡ Done len second
    → Made (rule_of c.args.wanted.version) (outcome c) c.args.scratch.now c.args.out.now c.normalized.new.out len second
form_made c is =
    let a = c.args in
    hand_made (rule_of a.wanted.version) c.form_for-form.result (form_is a.wanted.version c.form_for-form.ensures) (outcome c) a.scratch.now a.out.now
    c.normalized.ensures is

value_utf8 : (c : After-normalized) {len second : ℕ} (is : answered c.normalized.result ≡ Done len second) → WellFormed (form_made c is).value
value_utf8 c is =
    let a = c.args in
    call_utf8 a.wanted a.list.now a.pool.now a.text.now (form_made c is).whole c.requires.valid_table c.requires.well_formed

pub returns-in_err-written : goal.returns-in_err-written
returns-in_err-written c =
    let a = c.args in
    let handed : c.from_residual.result ≡ Err c.in_err-written.field-0.0 = search rules in
    rw (ap answered (handed ∙ sym c.in_err-written.was))
    (hand_refused (rule_of a.wanted.version) c.form_for-form.result (form_is a.wanted.version c.form_for-form.ensures)
    (outcome (goal.at.returns-in_err-written c).After-normalized) a.scratch.now a.out.now c.normalized.ensures (ap answered c.in_err-written.was))

pub slice_bounds-put_last-end : goal.slice_bounds-put_last-end
slice_bounds-put_last-end c = (form_made (goal.at.slice_bounds-put_last-end c).After-normalized (ap answered c.in_ok-written.was)).fits

pub slice_bounds-put_last-end-2 : goal.slice_bounds-put_last-end-2
slice_bounds-put_last-end-2 c =
    let made = form_made (goal.at.slice_bounds-put_last-end-2 c).After-normalized (ap answered c.in_ok-written.was) in
    sym (length-take-le c.in_ok-written.written.first c.normalized.new.out made.fits)

pub put_last-requires : goal.put_last-requires
put_last-requires c =
    let at = (goal.at.put_last-requires c).After-normalized in
    let made = form_made at (ap answered c.in_ok-written.was) in
    record { in_bounds = made.enough; form_of = made_form made (value_utf8 at (ap answered c.in_ok-written.was)) }

pub returns : goal.returns
returns c =
    let at = (goal.at.returns c).After-normalized in
    let made = form_made at (ap answered c.in_ok-written.was) in
    ap (λ (l : List ℕ). call_of (Done c.in_ok-written.written.first c.in_ok-written.written.second) (l ∷ c.normalized.new.out ∷ []))
    (c.put_last.ensures (rule_of c.args.wanted.version) made.value (value_utf8 at (ap answered c.in_ok-written.was)) made.taken)
    ∙ made.call
