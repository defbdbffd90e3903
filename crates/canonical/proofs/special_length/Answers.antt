use lib.Dec.{lit≤}
use borrow.Author.Tests.{eq-eqb, ne_eqb}
use Rattle.canonical.proofs.special_length.Goals as goal

pub returns-then-width-eq2 : goal.returns-then-width-eq2
returns-then-width-eq2 c = (rw (eq-eqb c.args.width 2 c.if-width-eq2.true), lit≤ tt)

pub returns : goal.returns
returns c = (rw (ne_eqb c.args.width 2 c.if-width-eq2.false), lit≤ tt)
