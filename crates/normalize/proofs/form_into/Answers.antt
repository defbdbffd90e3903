-- `form_into` leaves a long text with a table to `walk_long`, and an output shorter than six times the text to `form_counted`. Else it counts the value: where the output has six times its
-- length, the form is written (`sized_written`), else counted too; where a scratch lacks, a walk that had success is refused (`lacks_counted`).
use mathlib.Core.List.{[]}
use borrow.Author.Rules.{rules}
use mathlib.Core.Path.{◌≡◌, refl, sym, ap, ◌∙◌}
use Rattle.std.specs.Prelude.{Err}
use Rattle.text.specs.Call.{answered}
use Rattle.tokens.specs.Walking.{short_of}
use native.Mathlib.Omega.{arith}
use Rattle.tokens.specs.Outcome.{Outcome}
use Rattle.memory.specs.Slots.{shaped_in}
use Rattle.normalize.specs.Calls.{walk_of, Walks}
use Rattle.normalize.proofs.Texts.{plainly_asked, plainly_walked, lacks_refused, lacks_counted, lacks_none, sized_written}
use Rattle.normalize.proofs.form_into.Goals as goal
use Rattle.normalize.proofs.form_into.Goals.{After-normalize_text}

-- what the text gives
abbrev given : After-normalize_text → Outcome
given c =
    let a = c.args in
    walk_of a.reading a.list.now a.pool.now a.text.now

-- its walk was over the value itself
value_of : (c : After-normalize_text) → Walks (shaped_in 0 (given c)) [] c.normalize_text.new.out (answered c.normalize_text.result)
value_of c =
    let a = c.args in
    plainly_walked a.reading c.as_value-plain.ensures a.list.now a.pool.now a.text.now c.normalize_text.ensures

pub normalize_text-requires : goal.normalize_text-requires
normalize_text-requires c =
    let p = plainly_asked c.args.reading c.as_value-plain.ensures c.requires.base_value c.requires.halt_at c.requires.well_formed in
    record { valid_table = c.requires.valid_table; base_value = p.0; halt_at = p.1.0; well_formed = p.1.1 }

pub returns-in_err-counted : goal.returns-in_err-counted
returns-in_err-counted c =
    let at = (goal.at.returns-in_err-counted c).After-normalize_text in
    let a = c.args in
    let handed : c.from_residual.result ≡ Err c.in_err-counted.field-0.0 = search rules in
    rw (ap answered (handed ∙ sym c.in_err-counted.was))
    (lacks_refused (short_of a.buffer) a.out.now a.reading.form a.lacks 0 (given at) (value_of at) (ap answered c.in_err-counted.was))

pub returns-then-lacks : goal.returns-then-lacks
returns-then-lacks c =
    let at = (goal.at.returns-then-lacks c).After-normalize_text in
    let a = c.args in
    lacks_counted (short_of a.buffer) a.out.now a.reading.form a.lacks 0 (given at) (value_of at)
    c.if-lacks.true (ap answered c.in_ok-counted.was) refl

pub returns : goal.returns
returns c =
    let at = (goal.at.returns c).After-normalize_text in
    let a = c.args in
    lacks_none (short_of a.buffer) a.out.now a.reading.form a.lacks c.if-lacks.false (given at)
    (sized_written (short_of a.buffer) a.reading.form (given at) a.out.now (value_of at) (ap answered c.in_ok-counted.was)
    (omega (arith, c.if-out-len.false)) c.normalize_text-2.ensures)
