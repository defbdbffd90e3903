-- `form_counted` counts what is written, and then writes it where it fits; where a scratch lacks, a walk that had success is refused
-- (`lacks_counted`).
use borrow.Author.Rules.{rules}
use mathlib.Core.Path.{◌≡◌, refl, sym, ap, ◌∙◌}
use Rattle.std.specs.Prelude.{Err}
use Rattle.text.specs.Call.{answered}
use Rattle.tokens.specs.Walking.{short_of}
use Rattle.tokens.proofs.Buffers.{short_answer}
use native.Mathlib.Omega.{arith}
use Rattle.tokens.specs.Outcome.{Outcome}
use Rattle.normalize.specs.Calls.{walk_of, form_of}
use Rattle.normalize.proofs.Texts.{lacks_refused, lacks_counted, lacks_none, walks_short, walks_written}
use Rattle.normalize.proofs.form_counted.Goals as goal
use Rattle.normalize.proofs.form_counted.Goals.{After-normalize_text}

-- what the text gives
abbrev given : After-normalize_text → Outcome
given c =
    let a = c.args in
    walk_of a.reading a.list.now a.pool.now a.text.now

abbrev formed : After-normalize_text → Outcome
formed c =
    let a = c.args in
    form_of a.reading a.list.now a.pool.now a.text.now

pub returns-in_err-counted : goal.returns-in_err-counted
returns-in_err-counted c =
    let at = (goal.at.returns-in_err-counted c).After-normalize_text in
    let a = c.args in
    let handed : c.from_residual.result ≡ Err c.in_err-counted.field-0.0 = search rules in
    rw (ap answered (handed ∙ sym c.in_err-counted.was))
    (lacks_refused (short_of a.buffer) a.out.now a.reading.form a.lacks a.reading.form (given at) c.normalize_text.ensures (ap answered c.in_err-counted.was))

pub returns-then-lacks : goal.returns-then-lacks
returns-then-lacks c =
    let a = c.args in
    lacks_counted (short_of a.buffer) a.out.now a.reading.form a.lacks a.reading.form (given (goal.at.returns-then-lacks c).After-normalize_text) c.normalize_text.ensures c.if-lacks.true
    (ap answered c.in_ok-counted.was) refl

pub returns-then-out-len : goal.returns-then-out-len
returns-then-out-len c =
    let a = c.args in
    let short = lacks_none (short_of a.buffer) a.out.now a.reading.form a.lacks c.if-lacks.false (given (goal.at.returns-then-out-len c).After-normalize_text)
    (walks_short (short_of a.buffer) (formed (goal.at.returns-then-out-len c).After-normalize_text) a.out.now c.normalize_text.ensures (ap answered c.in_ok-counted.was) (omega (arith, c.if-out-len.true))) in
    (short_answer a.buffer _ c.too_short.ensures ∙ short.0, short.1)

pub returns : goal.returns
returns c =
    let a = c.args in
    lacks_none (short_of a.buffer) a.out.now a.reading.form a.lacks c.if-lacks.false (given (goal.at.returns c).After-normalize_text)
    (walks_written (short_of a.buffer) (formed (goal.at.returns c).After-normalize_text) a.out.now c.normalize_text.ensures (ap answered c.in_ok-counted.was) (omega (arith, c.if-out-len.false))
    c.normalize_text-2.ensures)
