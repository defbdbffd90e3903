-- `spaced_whole` is refused where a scratch lacks (`lacks_done`); else it writes the text as it is (`plain_ended`), or its form (`form_ended`).
use Rattle.tokens.specs.Walking.{short_of}
use mathlib.Core.Path.{refl}
use Rattle.halts.specs.Halts.{blanks_spaced}
use Rattle.tokens.specs.Outcome.{done}
use Rattle.normalize.proofs.Texts.{lacks_done, lacks_none, plain_ended, form_ended}
use Rattle.normalize.proofs.spaced_whole.Goals as goal

pub returns-then-lacks : goal.returns-then-lacks
returns-then-lacks c =
    let a = c.args in
    lacks_done (short_of a.buffer) a.out.now a.form a.lacks c.if-lacks.true (blanks_spaced a.text.now) 0 refl

pub returns-then-form-ne0 : goal.returns-then-form-ne0
returns-then-form-ne0 c =
    let a = c.args in
    let value = blanks_spaced a.text.now in
    lacks_none (short_of a.buffer) a.out.now a.form a.lacks c.if-lacks.false (done value 0)
    (form_ended (short_of a.buffer) a.out.now value c.if-form-ne0.true c.form_spaced.ensures)

pub returns : goal.returns
returns c =
    let a = c.args in
    let value = blanks_spaced a.text.now in
    lacks_none (short_of a.buffer) a.out.now a.form a.lacks c.if-lacks.false (done value 0)
    (plain_ended (short_of a.buffer) a.out.now value c.if-form-ne0.false c.spaced_plain.ensures)
