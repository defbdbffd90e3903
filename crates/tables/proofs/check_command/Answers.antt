-- `check_command`: what is no command 1 is a command 2 (`other_two`).
use Rattle.tables.proofs.Commands.{other_two}
use Rattle.tables.proofs.check_command.Goals as goal

pub check_external-requires : goal.check_external-requires
check_external-requires c =
    record { at_in_bounds = (c.requires.at_in_bounds.0, other_two c.requires.at_in_bounds.1 c.if-list-at-eq-TEXT.false); ascii = c.requires.ascii }
