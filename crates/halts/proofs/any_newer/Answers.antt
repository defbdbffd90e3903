-- `any_newer` finds every halt that starts in the block: what no accumulator has found is none (`newer_at`). Assumes nothing.
use Rattle.halts.proofs.Smooth.{newer_none, newer_next, newer_smooth}
use Rattle.halts.proofs.any_newer.Goals as goal

pub loop-k-init : goal.loop-k-init
loop-k-init c = newer_none c.args.text.now c.args.i

pub loop-k-preserved : goal.loop-k-preserved
loop-k-preserved c =
    let given = c.args in
    newer_next given.text.now given.i c.loop-k.amp c.loop-k.cr c.loop-k.two c.loop-k.three c.loop-k.k c.requires
    c.loop-k-test.true c.loop-k.invariant

pub returns : goal.returns
returns c =
    let given = c.args in
    newer_smooth given.text.now given.i c.requires c.loop-k.invariant c.loop-k-test.false
