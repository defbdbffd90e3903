-- `check_level` meets its contract. Assumes nothing.
use borrow.Author.Tests.{lt-leb, le-leb}
use Rattle.escape.specs.Escape.{level_check}
use Rattle.escape.proofs.check_level.Goals as goal

pub returns-then-level-gt3 : goal.returns-then-level-gt3
unfolding level_check
returns-then-level-gt3 c = simp (lt-leb _ _ c.if-level-gt3.true)

pub returns : goal.returns
unfolding level_check
returns c = simp (le-leb _ _ c.if-level-gt3.false)
