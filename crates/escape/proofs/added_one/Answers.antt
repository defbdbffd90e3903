-- `added_one` meets its contract: for no byte past `>` is anything added. Assumes nothing.
use mathlib.Core.Path.{sym}
use Rattle.escape.proofs.Levels.{past_gt_added}
use Rattle.escape.proofs.added_one.Goals as goal

pub returns-then-b-gt62 : goal.returns-then-b-gt62
returns-then-b-gt62 c = sym (past_gt_added c.args.chars c.args.b c.if-b-gt62.true)
