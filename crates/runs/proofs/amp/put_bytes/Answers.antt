-- `put_bytes`: the bytes so far are a run, and are written as far as there is room (`put_next`).
use Rattle.std.proofs.Common.{refl, ◌∙◌}
use borrow.Author.Tests.{ne_eqb}
use Rattle.output.proofs.Runs.{plain_byte, plain_join}
use Rattle.runs.specs.RunEnds.{is_amp}
use Rattle.runs.proofs.Puts.{put_next}
use Rattle.runs.proofs.amp.put_bytes.Goals as goal

pub loop-i-preserved : goal.loop-i-preserved
loop-i-preserved c =
    let text = c.args.text.now in
    let i = c.loop-i.i in
    let run = c.loop-i.invariant.0 in (
      plain_join is_amp text c.args.from i _ run (plain_byte is_amp text i c.loop-i-test.true (ne_eqb _ 38 c.if-b-eq38.false)),
      c.put_byte.ensures ∙ put_next text c.args.from c.args.out.now i c.loop-i.invariant.1 run.from refl c.loop-i-test.true,
    )
