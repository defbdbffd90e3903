use borrow.Author.Tests.{lt-leb, le-leb}
use Rattle.text.specs.Call.{version_check}
use Rattle.text.proofs.check_version.Goals as goal

pub returns-then-version-gt2 : goal.returns-then-version-gt2
unfolding version_check
returns-then-version-gt2 c = simp (lt-leb _ _ c.if-version-gt2.true)

pub returns : goal.returns
unfolding version_check
returns c = simp (le-leb _ _ c.if-version-gt2.false)
