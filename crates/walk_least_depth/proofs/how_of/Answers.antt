-- By the one test.
use borrow.Author.Tests.{lt-ltb, le-ltb}
use Rattle.walk_least_depth.proofs.how_of.Goals as goal

pub returns-then-version-gt1 : goal.returns-then-version-gt1
returns-then-version-gt1 c = rw (lt-ltb 1 c.args.version c.if-version-gt1.true)

pub returns-else-version-gt1 : goal.returns-else-version-gt1
returns-else-version-gt1 c = rw (le-ltb 1 c.args.version c.if-version-gt1.false)
