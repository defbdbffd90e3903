-- `utils::piece_end` finds the first cut. The invariant: the piece goes on to where the loop is. Assumes nothing.
use native.Mathlib.Omega.{arith}
use mathlib.Core.Path.{sym, ◌∙◌}
use Rattle.utils.specs.Blocks.{Passed}
use Rattle.utils.proofs.Cuts.{passed_on, passed_block, end_cut, end_last, end_clear, clear_one}
use Rattle.utils.proofs.piece_end.Goals as goal
use Rattle.utils.proofs.piece_end.Goals.{After-skip_blocks-i}

passed : (c : After-skip_blocks-i) → Passed c.args.text.now c.args.from c.skip_blocks-i.result
passed c = passed_on _ _ _ _ (passed_on _ _ _ _ c.skip_first.ensures c.skip_blocks-near.ensures) c.skip_blocks-i.ensures

pub returns-then-ends_clear : goal.returns-then-ends_clear
returns-then-ends_clear c =
    let given = c.args in
    end_clear given.text.now given.from c.skip_blocks-i.result (passed (goal.at.returns-then-ends_clear c).After-skip_blocks-i) (c.ends_clear.ensures c.if-ends_clear.true)

pub loop-i-init : goal.loop-i-init
loop-i-init c = passed (goal.at.loop-i-init c).After-skip_blocks-i

pub returns-then-closes_at : goal.returns-then-closes_at
returns-then-closes_at c =
    end_cut _ _ _ c.loop-i.invariant (omega (arith, c.loop-i.invariant.fits)) (sym c.closes_at.ensures ∙ c.if-closes_at.true)

pub loop-i-preserved : goal.loop-i-preserved
loop-i-preserved c =
    let given = c.args in
    passed_block given.text.now given.from c.loop-i.i 1 c.loop-i.invariant (omega (arith, c.loop-i.invariant.fits))
    (clear_one given.text.now c.loop-i.i (sym c.closes_at.ensures ∙ c.if-closes_at.false))

pub returns : goal.returns
returns c = end_last _ _ _ c.loop-i.invariant (omega (arith, c.loop-i.invariant.fits))
