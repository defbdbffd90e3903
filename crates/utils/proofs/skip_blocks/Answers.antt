-- `utils::skip_blocks` passes blocks in which no `]]>` stands. The invariant: the piece goes on to where the loop is. Assumes nothing.
use native.Mathlib.Omega.{arith}
use Rattle.utils.proofs.Cuts.{passed_block}
use Rattle.utils.proofs.skip_blocks.Goals as goal
use Rattle.utils.proofs.skip_blocks.Goals.{then-any_gt+else-any_closing, else-any_gt}

pub loop-i-preserved : goal.loop-i-preserved
loop-i-preserved c =
    let given = c.args in
    passed_block given.text.now given.from c.loop-i.i given.size c.loop-i.invariant (omega (arith, c.loop-i.invariant.fits))
    (elim c.if-any_gt.branch [ then-any_gt+else-any_closing w ↦ w.any_closing.ensures w.if-any_closing.false | else-any_gt w ↦ c.any_gt.ensures w.if-any_gt.false ])
