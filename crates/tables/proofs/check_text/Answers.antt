-- `check_text`: 7 where the operands are cut (`command_cut`), else what the declaration that they make answers (`text_whole`).
use native.Mathlib.Omega.{arith}
use Rattle.entity.proofs.Commands.{size_one}
use Rattle.tables.proofs.Commands.{command_cut, text_whole}
use Rattle.tables.proofs.check_text.Goals as goal

pub returns-then-list-at-lt-TEXT_SIZE : goal.returns-then-list-at-lt-TEXT_SIZE
returns-then-list-at-lt-TEXT_SIZE c =
    let a = c.args in
    command_cut a.list.now a.pool.now a.at (size_one c.requires.at_in_bounds.1) (omega arith)

pub returns : goal.returns
returns c =
    let a = c.args in
    text_whole a.list.now a.pool.now a.at c.name_at-name.ensures.0 c.name_at-name.ensures.1 c.requires.at_in_bounds.1 (omega arith)
    c.text_start.ensures.0 c.text_length.ensures.0 c.check_declaration.ensures
