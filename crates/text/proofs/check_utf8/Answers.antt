use mathlib.Core.Path.{sym}
use borrow.Author.Tests.{eq-eqb, ne_eqb}
use Rattle.text.specs.Call.{utf8_check}
use Rattle.text.proofs.check_utf8.Goals as goal

pub returns-then-end-text : goal.returns-then-end-text
unfolding utf8_check
returns-then-end-text c = rw (sym c.utf8_end-end.ensures, eq-eqb _ _ c.if-end-text.true)

pub returns : goal.returns
unfolding utf8_check
returns c = rw (sym c.utf8_end-end.ensures, ne_eqb _ _ c.if-end-text.false)
