-- `check_external`: 7 where the operands are cut (`command_cut`), else what a declaration with an empty text answers (`external_whole`).
use native.Mathlib.Omega.{arith}
use Rattle.tables.proofs.Commands.{command_cut, external_whole, size_two}
use Rattle.tables.proofs.check_external.Goals as goal

pub returns-then-list-at-lt-EXTERNAL_SIZE : goal.returns-then-list-at-lt-EXTERNAL_SIZE
returns-then-list-at-lt-EXTERNAL_SIZE c =
    let a = c.args in
    command_cut a.list.now a.pool.now a.at (size_two c.requires.at_in_bounds.1) (omega arith)

pub returns : goal.returns
returns c =
    let a = c.args in
    external_whole a.list.now a.pool.now a.at c.name_at.ensures.0 c.name_at.ensures.1 c.requires.at_in_bounds.1 (omega arith)
    c.check_declaration.ensures
