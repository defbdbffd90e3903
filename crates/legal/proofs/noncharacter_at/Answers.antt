-- `noncharacter_at`: fewer than two bytes follow (`ef_end`), or the two after EF tell (`ef_at`). Assumes nothing.
use native.Mathlib.Omega.{arith}
use Rattle.legal.proofs.Clean.{ef_at, ef_end}
use Rattle.legal.proofs.noncharacter_at.Goals as goal

pub returns-then-text-i-lt3 : goal.returns-then-text-i-lt3
returns-then-text-i-lt3 c =
    λ rule. ef_end c.args.text.now c.args.i rule c.requires.i_in_bounds c.if-text-i-lt3.true c.requires.i_value

pub returns : goal.returns
returns c =
    λ rule. ef_at c.args.text.now c.args.i rule (omega (arith, c.if-text-i-lt3.false)) c.requires.i_value
