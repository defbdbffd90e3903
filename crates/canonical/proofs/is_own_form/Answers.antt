-- Whichever way tests the run: where none of its bytes is changed it is its own form (`own_form`). Assumes nothing.
use Rattle.canonical.proofs.Own.{own_form}
use Rattle.canonical.proofs.is_own_form.Goals as goal

pub returns-then-n-lt8 : goal.returns-then-n-lt8
returns-then-n-lt8 c = let a = c.args in λ e. own_form a.newer a.run.now (c.is_own_few.ensures e)

pub returns-then-n-lt16 : goal.returns-then-n-lt16
returns-then-n-lt16 c = let a = c.args in λ e. own_form a.newer a.run.now (c.is_own_blocks.ensures e)

pub returns : goal.returns
returns c = let a = c.args in λ e. own_form a.newer a.run.now (c.is_own_blocks-2.ensures e)
