-- `check_spans`: the tests of `spans_by` in their order.
use borrow.Author.Tests.{lt-ltb, le-ltb}
use Rattle.walk_rehearsal.proofs.check_spans.Goals as goal

-- src/lib.rt:77:9
pub returns-then-count-gt65536 : goal.returns-then-count-gt65536
returns-then-count-gt65536 c = rw (lt-ltb 65536 c.args.count c.if-count-gt65536.true)

-- src/lib.rt:84:9
pub returns-then-staying-count : goal.returns-then-staying-count
returns-then-staying-count c = rw (le-ltb 65536 c.args.count c.if-count-gt65536.false, lt-ltb c.args.staying c.args.count c.if-staying-count.true)

-- src/lib.rt:73:1
pub returns : goal.returns
returns c = rw (le-ltb 65536 c.args.count c.if-count-gt65536.false, le-ltb c.args.staying c.args.count c.if-staying-count.false)
