-- `outer_end`: the `;` among the first bytes, or the next one after them (`end_after`), ends the name (`ended_outer`).
use Rattle.std.proofs.Common.{rules, ◌+◌}
use borrow.Author.Tests.{eq-eqb}
use Rattle.output.specs.Runs.{Plain}
use Rattle.runs.proofs.Search.{end_after}
use Rattle.name_ends.specs.OneByte.{is_byte}
use Rattle.name_ends.proofs.Ended.{ended_outer}
use Rattle.name_ends.proofs.outer_end.Goals as goal

pub returns-then-text-from-eq59 : goal.returns-then-text-from-eq59
returns-then-text-from-eq59 c = ended_outer c.args.text.now (record { run = c.loop-k.invariant; ends = λ l. eq-eqb _ 59 c.if-text-from-eq59.true })

pub returns : goal.returns
returns c =
    let text = c.args.text.now in
    let p : Plain (is_byte 59) text c.args.from (c.args.from + c.min-size.result) = search rules in
    ended_outer text (end_after (is_byte 59) text c.args.from p c.next_byte.ensures)
