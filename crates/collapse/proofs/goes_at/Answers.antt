-- `goes_at` by the byte and the one after it (`goes_not`, `goes_pair`), which the last byte does not have (`goes_last`).
use native.Mathlib.Omega.{arith}
use mathlib.Core.Path.{sym, ◌∙◌}
use borrow.Author.Tests.{eq-eqb, ne_eqb}
use Rattle.collapse.proofs.Spaces.{goes_not, goes_last, goes_pair}
use Rattle.collapse.proofs.goes_at.Goals as goal

pub returns-then-text-at-ne32 : goal.returns-then-text-at-ne32
returns-then-text-at-ne32 c =
    sym (goes_not c.args.text.now c.args.at (omega (arith, c.requires)) (ne_eqb _ 32 c.if-text-at-ne32.true))

pub returns-then-next-text : goal.returns-then-next-text
returns-then-next-text c =
    let given = c.args in
    sym (goes_last given.text.now given.at c.if-next-text.true (eq-eqb _ 32 c.if-text-at-ne32.false))

pub returns : goal.returns
returns c =
    sym (goes_pair c.args.text.now c.args.at (omega (arith, c.requires, c.if-next-text.false))
    ∙ rw (eq-eqb _ 32 c.if-text-at-ne32.false))
