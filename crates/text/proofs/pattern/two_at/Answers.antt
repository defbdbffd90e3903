use mathlib.Core.Path.{sym, ◌∙◌}
use Rattle.text.proofs.Patterns.{begins_two, begins_not}
use Rattle.text.proofs.pattern.two_at.Goals as goal

pub returns-then-byte_at : goal.returns-then-byte_at
returns-then-byte_at c =
    let given = c.args in
    c.byte_at-then-byte_at.ensures ∙ begins_two given.a given.b given.text.now given.i (sym c.byte_at.ensures ∙ c.if-byte_at.true)

pub returns : goal.returns
returns c =
    let given = c.args in
    begins_not given.a given.b given.text.now given.i (sym c.byte_at.ensures ∙ c.if-byte_at.false)
