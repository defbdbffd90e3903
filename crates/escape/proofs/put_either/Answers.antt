-- `put_either`: the test tells which of the two is written. Assumes nothing.
use mathlib.Core.Path.{ap}
use mathlib.Core.Bool.{Bool}
use Rattle.text.specs.Bytes.{pick}
use Rattle.escape.proofs.Levels.{reference_put}
use Rattle.escape.proofs.put_either.Goals as goal

pub put-requires : goal.put-requires
put-requires c = rw c.if-first.true at c.requires

pub put-requires-else-first : goal.put-requires-else-first
put-requires-else-first c = rw c.if-first.false at c.requires

pub returns-then-first : goal.returns-then-first
returns-then-first c =
    let given = c.args in
    reference_put given.out.now (ap (λ (t : Bool). pick t given.one.now given.other.now) c.if-first.true) c.put.ensures

pub returns-else-first : goal.returns-else-first
returns-else-first c =
    let given = c.args in
    reference_put given.out.now (ap (λ (t : Bool). pick t given.one.now given.other.now) c.if-first.false) c.put-else-first.ensures
