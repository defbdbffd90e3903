-- `walk_into` counts what is written, and then writes it where it fits, by the words that the count left (`Lasts`); where a scratch lacks, a
-- walk that had success is refused (`lacks_counted`).
use borrow.Author.Rules.{rules}
use mathlib.Core.Path.{◌≡◌, refl, sym, ap, ◌∙◌}
use Rattle.std.specs.Prelude.{Err}
use Rattle.text.specs.Call.{answered}
use Rattle.tokens.specs.Walking.{short_of}
use Rattle.tokens.proofs.Buffers.{short_answer}
use native.Mathlib.Omega.{arith}
use Rattle.tokens.specs.Outcome.{Outcome}
use Rattle.normalize.specs.Calls.{walk_of, form_of}
use Rattle.normalize.proofs.Texts.{lacks_refused, lacks_counted, lacks_none, walks_short, walks_written}
use Rattle.normalize.proofs.walk_into.Goals as goal
use Rattle.normalize.proofs.walk_into.Goals.{After-walk_lent}

-- what the text gives
abbrev given : After-walk_lent → Outcome
given c =
    let a = c.args in
    walk_of a.reading a.list.now a.pool.now a.text.now

abbrev formed : After-walk_lent → Outcome
formed c =
    let a = c.args in
    form_of a.reading a.list.now a.pool.now a.text.now

pub returns-in_err-counted : goal.returns-in_err-counted
returns-in_err-counted c =
    let at = (goal.at.returns-in_err-counted c).After-walk_lent in
    let a = c.args in
    let handed : c.from_residual.result ≡ Err c.in_err-counted.field-0.0 = search rules in
    rw (ap answered (handed ∙ sym c.in_err-counted.was))
    (lacks_refused (short_of a.buffer) a.out.now a.reading.form a.lacks a.reading.form (given at) c.walk_lent.ensures.walks (ap answered c.in_err-counted.was))

pub returns-then-lacks : goal.returns-then-lacks
returns-then-lacks c =
    let a = c.args in
    lacks_counted (short_of a.buffer) a.out.now a.reading.form a.lacks a.reading.form (given (goal.at.returns-then-lacks c).After-walk_lent) c.walk_lent.ensures.walks c.if-lacks.true
    (ap answered c.in_ok-counted.was) refl

pub returns-then-out-len : goal.returns-then-out-len
returns-then-out-len c =
    let a = c.args in
    let short = lacks_none (short_of a.buffer) a.out.now a.reading.form a.lacks c.if-lacks.false (given (goal.at.returns-then-out-len c).After-walk_lent)
    (walks_short (short_of a.buffer) (formed (goal.at.returns-then-out-len c).After-walk_lent) a.out.now c.walk_lent.ensures.walks (ap answered c.in_ok-counted.was) (omega (arith, c.if-out-len.true))) in
    (short_answer a.buffer _ c.too_short.ensures ∙ short.0, short.1)

pub walk_lent-requires-2 : goal.walk_lent-requires-2
walk_lent-requires-2 c =
    record { valid_table = c.requires.valid_table; base_value = c.requires.base_value; well_formed = c.requires.well_formed; in_bounds = (omega (arith, c.walk_lent.ensures.lasts.words, c.requires.in_bounds.0), c.walk_lent.ensures.lasts.trusts _ _ (ap answered c.in_ok-counted.was)) }

pub returns : goal.returns
returns c =
    let a = c.args in
    lacks_none (short_of a.buffer) a.out.now a.reading.form a.lacks c.if-lacks.false (given (goal.at.returns c).After-walk_lent)
    (walks_written (short_of a.buffer) (formed (goal.at.returns c).After-walk_lent) a.out.now c.walk_lent.ensures.walks (ap answered c.in_ok-counted.was) (omega (arith, c.if-out-len.false))
    c.walk_lent-2.ensures.walks)
