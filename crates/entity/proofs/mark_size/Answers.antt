-- `mark_size` is `mark_size`, by its one test.
use mathlib.Core.Path.{sym, ◌∙◌}
use Rattle.entity.proofs.Commands.{mark_is}
use Rattle.entity.proofs.mark_size.Goals as goal

pub returns-then-is_marked : goal.returns-then-is_marked
returns-then-is_marked c = mark_is c.args.list.now (sym c.if-is_marked.true ∙ c.is_marked.ensures)

pub returns : goal.returns
returns c = mark_is c.args.list.now (sym c.if-is_marked.false ∙ c.is_marked.ensures)
