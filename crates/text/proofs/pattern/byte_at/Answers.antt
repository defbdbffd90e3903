use mathlib.Core.List.{[]}
use Rattle.text.proofs.Patterns.{begins_out, begins_one}
use Rattle.text.proofs.pattern.byte_at.Goals as goal

pub returns-then-text-i : goal.returns-then-text-i
returns-then-text-i c =
    begins_out c.args.b [] c.args.text.now c.args.i c.if-text-i.true

pub returns : goal.returns
returns c =
    let given = c.args in
    begins_one given.b given.text.now given.i c.if-text-i.false
