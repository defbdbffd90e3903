-- `number_end`: the first `;` or quote of the rest, or its end (`run_first`).
use Rattle.std.proofs.Common.{rules, length, ◌-◌}
use borrow.Author.Tests.{tests}
use borrow.Rule.Slice.PartMut.{mid_of}
use Rattle.std.proofs.lemmas.Iterator.{YieldsList-from_slice}
use Rattle.std.proofs.lemmas.Iterator.Search.{position_from_yields_List}
use Rattle.table_values.specs.ValueSteps.{number_stop}
use Rattle.table_values.proofs.ValueStops.{run_first}
use Rattle.table_values.proofs.number_end.Goals as goal

pub returns : goal.returns
returns c =
    let text = c.args.text.now in
    let stop = number_stop c.args.quote in
    let rest = YieldsList-from_slice (mid_of c.args.from (length text - c.args.from) text) c.iter.ensures.rest in
    let first = position_from_yields_List stop _ _ c.position.result c.position.ensures.ran rest (λ x b q k. search (rules, tests)) in
    run_first stop text c.position.result c.requires first c.unwrap_or.ensures
