-- `put_near`: the first k bytes are a run, and are copied (`Nearby`).
use borrow.Author.Tests.{ne_eqb}
use Rattle.runs.specs.RunEnds.{is_amp}
use Rattle.runs.proofs.Puts.{nearby_next}
use Rattle.runs.proofs.amp.put_near.Goals as goal

pub loop-k-preserved : goal.loop-k-preserved
loop-k-preserved g c =
    let given = c.args in
    nearby_next is_amp given.text.now given.from g.row.N c.requires.size_in_bounds given.out.now c.loop-k.invariant c.loop-k-test.true
    (ne_eqb _ 38 c.if-b-eq38.false)
