use native.Mathlib.Omega.{arith}
use Rattle.tables.proofs.Commands.{last_none, last_other, last_more, last_end}
use Rattle.tables.proofs.check_end.Goals as goal

pub returns-then-at-list : goal.returns-then-at-list
returns-then-at-list c =
    let given = c.args in
    last_none given.list.now given.at given.count c.if-at-list.true

pub returns-then-list-at-ne-END : goal.returns-then-list-at-ne-END
returns-then-list-at-ne-END c =
    let given = c.args in
    last_other given.list.now given.at given.count (omega arith) c.if-list-at-ne-END.true

pub returns-then-at-list-2 : goal.returns-then-at-list-2
returns-then-at-list-2 c =
    let given = c.args in
    last_more given.list.now given.at given.count (omega arith) c.if-list-at-ne-END.false c.if-at-list-2.true (omega arith)

pub returns : goal.returns
returns c =
    let given = c.args in
    last_end given.list.now given.at given.count (omega arith) c.if-list-at-ne-END.false c.if-at-list-2.false
