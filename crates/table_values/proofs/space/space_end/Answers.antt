-- `space_end`: what was passed is white space (`Spacing`), until none stands there (`spacing_end`) or the text ends (`spacing_over`).
use Rattle.table_values.proofs.WhiteSpace.{spacing_over}
use Rattle.table_values.proofs.space.space_end.Goals as goal

pub returns : goal.returns
returns c = spacing_over c.loop-i.invariant c.loop-i-test.false
