-- `shown_byte` meets its contract by the test that was taken. Assumes nothing.
use Rattle.escape.proofs.shown_byte.Goals as goal

pub returns-then-spaces-b : goal.returns-then-spaces-b
returns-then-spaces-b c = rw c.if-spaces-b.true

pub returns-else-spaces-b : goal.returns-else-spaces-b
returns-else-spaces-b c = rw c.if-spaces-b.false
