use borrow.Author.Tests.{lt-ltb, le-ltb}
use Rattle.text.specs.Call.{length_check}
use Rattle.text.proofs.check_length.Goals as goal

pub returns-then-text-gt-LONGEST_TEXT : goal.returns-then-text-gt-LONGEST_TEXT
unfolding length_check
returns-then-text-gt-LONGEST_TEXT c = simp (lt-ltb _ _ c.if-text-gt-LONGEST_TEXT.true)

pub returns : goal.returns
unfolding length_check
returns c = simp (le-ltb _ _ c.if-text-gt-LONGEST_TEXT.false)
