use mathlib.Core.Path.{◌∙◌}
use Rattle.tokens.specs.Walking.{short_of}
use Rattle.tokens.proofs.Buffers.{short_answer}
use Rattle.tokens.proofs.Finished.{whole_short, whole_written}
use Rattle.tokens.proofs.copied_whole.Goals as goal

pub returns-then-out-text : goal.returns-then-out-text
returns-then-out-text c =
    let given = c.args in
    let short = whole_short (short_of given.buffer) given.text.now given.out.now c.if-out-text.true in
    (short_answer given.buffer _ c.too_short.ensures ∙ short.0, short.1)

pub returns : goal.returns
returns c =
    let given = c.args in
    whole_written (short_of given.buffer) given.text.now given.out.now c.if-out-text.false c.put_run.ensures
