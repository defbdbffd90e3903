-- `spaced_plain` writes as many bytes as the text has, where the buffer has room for them.
use Rattle.tokens.specs.Walking.{short_of}
use Rattle.tokens.proofs.Buffers.{short_answer}
use mathlib.Core.Path.{◌∙◌}
use native.Mathlib.Omega.{arith}
use Rattle.normalize.proofs.Texts.{spaced_short, spaced_written}
use Rattle.normalize.proofs.spaced_plain.Goals as goal

pub returns-then-out-n : goal.returns-then-out-n
returns-then-out-n c =
    let a = c.args in
    let short = spaced_short (short_of a.buffer) a.text.now a.out.now (omega (arith, c.if-out-n.true)) in
    (short_answer a.buffer _ c.too_short.ensures ∙ short.0, short.1)

pub returns : goal.returns
returns c =
    let a = c.args in
    spaced_written (short_of a.buffer) a.text.now a.out.now (omega (arith, c.if-out-n.false)) c.put_spaced.ensures
