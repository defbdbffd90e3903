-- `gain` is the choice by the same test. Assumes nothing.
use borrow.Author.Tests.{eq-eqb, ne_eqb}
use Rattle.halts.proofs.gain.Goals as goal

pub returns-then-b-c : goal.returns-then-b-c
returns-then-b-c c = rw (eq-eqb c.args.b c.args.c c.if-b-c.true)

pub returns-else-b-c : goal.returns-else-b-c
returns-else-b-c c = rw (ne_eqb c.args.b c.args.c c.if-b-c.false)
