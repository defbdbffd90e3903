-- A long text with a table goes to `walk_long`. Else `normalize_into` counts into 128 bytes of its own: what fits there is copied, what is longer is walked again; where a scratch lacks, a walk
-- that had success is refused (`lacks_counted`).
use borrow.Author.Rules.{rules}
use mathlib.Core.Path.{◌≡◌, refl, sym, ap, ◌∙◌}
use Rattle.std.specs.Prelude.{Err}
use Rattle.text.specs.Call.{answered}
use Rattle.tokens.specs.Walking.{short_of}
use Rattle.tokens.proofs.Buffers.{short_answer}
use native.Mathlib.Omega.{arith}
use lib.Seq.{length-take-le}
use Rattle.tokens.specs.Outcome.{Outcome}
use Rattle.normalize.specs.Calls.{walk_of, form_of}
use Rattle.normalize.proofs.Texts.{lacks_refused, lacks_counted, lacks_none, walks_short, walks_held, walks_written}
use Rattle.normalize.proofs.normalize_into.Goals as goal
use Rattle.normalize.proofs.normalize_into.Goals.{After-normalize_text}

-- what the text gives
abbrev given : After-normalize_text → Outcome
given c =
    let a = c.args in
    walk_of a.reading a.list.now a.pool.now a.text.now

abbrev formed : After-normalize_text → Outcome
formed c =
    let a = c.args in
    form_of a.reading a.list.now a.pool.now a.text.now

pub walk_long-requires : goal.walk_long-requires
walk_long-requires c =
    record { valid_table = c.requires.valid_table; base_value = c.requires.base_value; well_formed = c.requires.well_formed }

pub returns-then-text-list : goal.returns-then-text-list
returns-then-text-list c = c.walk_long.ensures

pub returns-in_err-counted : goal.returns-in_err-counted
returns-in_err-counted c =
    let at = (goal.at.returns-in_err-counted c).After-normalize_text in
    let a = c.args in
    let handed : c.from_residual.result ≡ Err c.in_err-counted.field-0.0 = search rules in
    rw (ap answered (handed ∙ sym c.in_err-counted.was))
    (lacks_refused (short_of a.buffer) a.out.now a.reading.form a.lacks a.reading.form (given at) c.normalize_text.ensures (ap answered c.in_err-counted.was))

pub returns-then-lacks : goal.returns-then-lacks
returns-then-lacks c =
    let a = c.args in
    lacks_counted (short_of a.buffer) a.out.now a.reading.form a.lacks a.reading.form (given (goal.at.returns-then-lacks c).After-normalize_text) c.normalize_text.ensures c.if-lacks.true
    (ap answered c.in_ok-counted.was) refl

pub returns-then-out-len : goal.returns-then-out-len
returns-then-out-len c =
    let a = c.args in
    let short = lacks_none (short_of a.buffer) a.out.now a.reading.form a.lacks c.if-lacks.false (given (goal.at.returns-then-out-len c).After-normalize_text)
    (walks_short (short_of a.buffer) (formed (goal.at.returns-then-out-len c).After-normalize_text) a.out.now c.normalize_text.ensures (ap answered c.in_ok-counted.was) (omega (arith, c.if-out-len.true))) in
    (short_answer a.buffer _ c.too_short.ensures ∙ short.0, short.1)

pub slice_bounds-put_held-end : goal.slice_bounds-put_held-end
slice_bounds-put_held-end c =
    sym (length-take-le c.in_ok-counted.counted.first c.normalize_text.new.out (omega (arith, c.if-len-le128.true, c.normalize_text.auto.out)))

pub put_held-requires : goal.put_held-requires
put_held-requires c =
    rw (length-take-le c.in_ok-counted.counted.first c.normalize_text.new.out (omega (arith, c.if-len-le128.true, c.normalize_text.auto.out)))
    (omega (arith, c.if-out-len.false))

pub returns-then-len-le128 : goal.returns-then-len-le128
returns-then-len-le128 c =
    let a = c.args in
    lacks_none (short_of a.buffer) a.out.now a.reading.form a.lacks c.if-lacks.false (given (goal.at.returns-then-len-le128 c).After-normalize_text)
    (walks_held (short_of a.buffer) (formed (goal.at.returns-then-len-le128 c).After-normalize_text) a.out.now c.normalize_text.ensures (ap answered c.in_ok-counted.was) (omega (arith, c.if-len-le128.true))
    (omega (arith, c.if-out-len.false)) c.put_held.ensures)

pub returns : goal.returns
returns c =
    let a = c.args in
    lacks_none (short_of a.buffer) a.out.now a.reading.form a.lacks c.if-lacks.false (given (goal.at.returns c).After-normalize_text)
    (walks_written (short_of a.buffer) (formed (goal.at.returns c).After-normalize_text) a.out.now c.normalize_text.ensures (ap answered c.in_ok-counted.was) (omega (arith, c.if-out-len.false))
    c.normalize_text-2.ensures)
