use mathlib.Core.Path.{◌∙◌}
use Rattle.entity.proofs.Commands.{mark_fits}
use Rattle.tables.proofs.Commands.{short_list}
use Rattle.tables.proofs.check_lent.Goals as goal

pub check_end-requires : goal.check_end-requires
check_end-requires c = rw c.mark_size.ensures (mark_fits c.args.list.now)

pub returns-then-list-pool : goal.returns-then-list-pool
returns-then-list-pool c =
    let given = c.args in
    c.check_end.ensures ∙ short_list given.list.now given.pool.now c.mark_size.ensures c.if-list-pool.true

pub returns : goal.returns
returns c = c.check_table.ensures
