-- `escape_chars` meets its contract: the level tested in the order of `level_of`. Assumes nothing.
use borrow.Author.Tests.{eq-eqb, ne_eqb}
use Rattle.escape.specs.Escape.{level_of}
use Rattle.escape.specs.Scan.{level_chars}
use Rattle.escape.proofs.escape_chars.Goals as goal

pub returns-then-level-eq0 : goal.returns-then-level-eq0
unfolding level_of level_chars
returns-then-level-eq0 c = simp (eq-eqb _ _ c.if-level-eq0.true)

pub returns-then-level-eq1 : goal.returns-then-level-eq1
unfolding level_of level_chars
returns-then-level-eq1 c = simp (ne_eqb _ _ c.if-level-eq0.false, eq-eqb _ _ c.if-level-eq1.true)

pub returns-then-level-eq2 : goal.returns-then-level-eq2
unfolding level_of level_chars
returns-then-level-eq2 c = simp (ne_eqb _ _ c.if-level-eq0.false, ne_eqb _ _ c.if-level-eq1.false, eq-eqb _ _ c.if-level-eq2.true)

pub returns : goal.returns
unfolding level_of level_chars
returns c = simp (ne_eqb _ _ c.if-level-eq0.false, ne_eqb _ _ c.if-level-eq1.false, ne_eqb _ _ c.if-level-eq2.false)
