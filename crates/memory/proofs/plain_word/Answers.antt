-- `plain_word` compares the byte with three; each other one has the last word.
use borrow.Author.Tests.{eq-eqb, ne_eqb}
use Rattle.memory.proofs.plain_word.Goals as goal

pub returns-then-b-eq60 : goal.returns-then-b-eq60
returns-then-b-eq60 c = rw (eq-eqb c.args.b 60 c.if-b-eq60.true)

pub returns-then-b-eq62 : goal.returns-then-b-eq62
returns-then-b-eq62 c = rw (ne_eqb c.args.b 60 c.if-b-eq60.false, eq-eqb c.args.b 62 c.if-b-eq62.true)

pub returns-then-b-eq39 : goal.returns-then-b-eq39
returns-then-b-eq39 c =
    let b = c.args.b in
    rw (ne_eqb b 60 c.if-b-eq60.false, ne_eqb b 62 c.if-b-eq62.false, eq-eqb b 39 c.if-b-eq39.true)

pub returns : goal.returns
returns c =
    let b = c.args.b in
    rw (ne_eqb b 60 c.if-b-eq60.false, ne_eqb b 62 c.if-b-eq62.false, ne_eqb b 39 c.if-b-eq39.false)
