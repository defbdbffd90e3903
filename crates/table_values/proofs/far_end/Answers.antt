-- `far_end`: the blocks, and behind them the first stop of the rest, or its end (`run_first`).
use Rattle.std.proofs.Common.{rules, length, ◌-◌}
use borrow.Author.Tests.{tests}
use borrow.Rule.Slice.PartMut.{mid_of}
use Rattle.std.proofs.lemmas.Iterator.{YieldsList-from_slice}
use Rattle.std.proofs.lemmas.Iterator.Search.{position_from_yields_List}
use Rattle.table_values.specs.ValueSteps.{value_stop}
use Rattle.table_values.proofs.ValueStops.{run_first, run_joined}
use Rattle.table_values.proofs.far_end.Goals as goal

pub returns : goal.returns
returns c =
    let text = c.args.text.now in
    let near = c.plain_blocks-near.result in
    let stop = value_stop c.args.quote c.args.newer in
    let rest = YieldsList-from_slice (mid_of near (length text - near) text) c.iter.ensures.rest in
    let first = position_from_yields_List stop _ _ c.position.result c.position.ensures.ran rest (λ x b q k. search (rules, tests)) in
    run_joined c.plain_blocks-near.ensures (run_first stop text c.position.result c.plain_blocks-near.ensures.to first c.unwrap_or.ensures)
