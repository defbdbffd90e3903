use native.Mathlib.Omega.{arith}
use Rattle.entity.proofs.Commands.{long_list}
use Rattle.tables.proofs.Commands.{long_pool}
use Rattle.tables.proofs.check_table.Goals as goal

pub returns-then-list-gt-LONGEST_LIST : goal.returns-then-list-gt-LONGEST_LIST
returns-then-list-gt-LONGEST_LIST c =
    let given = c.args in
    long_list given.list.now given.pool.now (omega arith)

pub returns-then-pool-gt-LONGEST_POOL : goal.returns-then-pool-gt-LONGEST_POOL
returns-then-pool-gt-LONGEST_POOL c =
    let given = c.args in
    long_pool given.list.now given.pool.now (omega arith) (omega arith)

pub check_commands-requires : goal.check_commands-requires
check_commands-requires c = (omega arith, omega arith)

pub returns : goal.returns
returns c = c.check_commands.ensures
