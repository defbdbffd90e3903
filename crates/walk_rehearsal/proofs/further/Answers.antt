-- `further`: the tests of `further_by` in their order.
use mathlib.Core.Path.{sym, ◌∙◌}
use borrow.Author.Tests.{eq-eqb, ne_eqb}
use Rattle.walk_rehearsal.proofs.further.Goals as goal

-- src/lib.rt:67:9
pub returns-then-staying-at : goal.returns-then-staying-at
returns-then-staying-at c = rw (ne_eqb c.args.staying c.args.at c.if-staying-at.true)

-- src/lib.rt:70:9
pub returns-then-leaves_text : goal.returns-then-leaves_text
returns-then-leaves_text c =
    let same = eq-eqb c.args.staying c.args.at c.if-staying-at.false in
    let out = sym c.leaves_text.ensures ∙ c.if-leaves_text.true in
    rw (same, out)

-- src/lib.rt:62:1
pub returns : goal.returns
returns c =
    let same = eq-eqb c.args.staying c.args.at c.if-staying-at.false in
    let out = sym c.leaves_text.ensures ∙ c.if-leaves_text.false in
    rw (same, out)
