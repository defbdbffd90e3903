-- `utils::ends_clear`: the last block is clear, and so is its part from i on. Assumes nothing.
use mathlib.Core.Path.{sym}
use mathlib.Core.Bool.{true≢false}
use Prim.Native.Nat.{◌-◌}
use native.Mathlib.Omega.{arith}
use lib.ListN.{length}
use Rattle.utils.proofs.Cuts.{clear_part, not_true}
use Rattle.utils.proofs.ends_clear.Goals as goal

pub returns-then-text-lt34 : goal.returns-then-text-lt34
returns-then-text-lt34 c = λ e. absurd (true≢false (sym e))

pub returns-then-i-last : goal.returns-then-i-last
returns-then-i-last c = λ e. absurd (true≢false (sym e))

pub returns : goal.returns
returns c =
    let given = c.args in
    λ e. clear_part given.text.now (length given.text.now - 34) 32 given.i _ (c.any_gt.ensures (not_true _ e)) (omega arith) (omega arith)
