use mathlib.Core.Path.{◌∙◌}
use borrow.Author.Tests.{eq-eqb, ne_eqb}
use Rattle.canonical.proofs.put_special.Goals as goal

pub put_run-requires : goal.put_run-requires
put_run-requires c =
    rw (eq-eqb c.args.width 2 c.if-width-eq2.true) at c.requires

pub returns-then-width-eq2 : goal.returns-then-width-eq2
returns-then-width-eq2 c =
    c.put_run.ensures ∙ rw (eq-eqb c.args.width 2 c.if-width-eq2.true)

pub put_run-requires-2 : goal.put_run-requires-2
put_run-requires-2 c =
    rw (ne_eqb c.args.width 2 c.if-width-eq2.false) at c.requires

pub returns : goal.returns
returns c =
    c.put_run-2.ensures ∙ rw (ne_eqb c.args.width 2 c.if-width-eq2.false)
