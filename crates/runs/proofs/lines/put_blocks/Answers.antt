-- `put_blocks`: at each turn the first i bytes are a run, and are laid over the output; after a block without stops 16 more are.
use Rattle.output.proofs.Runs.{copied_more}
use Rattle.runs.proofs.Copying.{copied_fits}
use Rattle.runs.proofs.lines.put_blocks.Goals as goal

pub put_block-requires-clause-in_bounds : goal.put_block-requires-clause-in_bounds
put_block-requires-clause-in_bounds c =
    let kept = c.loop-i.invariant in
    (copied_fits kept.0 kept.1 16 (c.any_stop.ensures c.if-any_stop.false)).1

pub loop-i-preserved : goal.loop-i-preserved
loop-i-preserved c =
    let kept = c.loop-i.invariant in
    (copied_more _ _ _ kept.0 kept.1 (c.any_stop.ensures c.if-any_stop.false) c.put_block.ensures, kept.1)
