-- `is_escaped` meets its contract: no byte past `>` is replaced. Assumes nothing.
use mathlib.Core.Path.{sym}
use Rattle.escape.proofs.Levels.{past_gt}
use Rattle.escape.proofs.is_escaped.Goals as goal

pub returns-then-b-gt62 : goal.returns-then-b-gt62
returns-then-b-gt62 c = sym (past_gt c.args.chars c.args.b c.if-b-gt62.true)
