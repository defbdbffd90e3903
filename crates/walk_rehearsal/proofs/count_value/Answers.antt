-- `count_value` reads the part that the span names, and counts the verdict on it (`turn_so`).
use Rattle.walk_rehearsal.proofs.Reports.{within_small, turn_so}
use Rattle.walk_rehearsal.proofs.count_value.Goals as goal

-- src/lib.rt:202:5
pub count-requires : goal.count-requires
count-requires c =
    record { modest = c.read_value-verdict.ensures.modest; small = within_small c.requires.turn c.args.report.now c.requires.early c.requires.within }

-- src/lib.rt:188:1
pub returns : goal.returns
returns c =
    let a = c.args in
    turn_so a.text.now a.span a.job a.list.now a.pool.now a.report.now _ c.read_value-verdict.ensures c.count.ensures
