-- `restricted_at`: nothing follows (`c2_end`), or the byte after C2 tells (`c2_at`). Assumes nothing.
use native.Mathlib.Omega.{arith}
use Rattle.legal.proofs.Clean.{c2_at, c2_end}
use Rattle.legal.proofs.restricted_at.Goals as goal

pub returns-then-text-i-lt2 : goal.returns-then-text-i-lt2
returns-then-text-i-lt2 c =
    c2_end c.args.text.now c.args.i c.requires.i_in_bounds c.if-text-i-lt2.true c.requires.i_value

pub returns : goal.returns
returns c =
    c2_at c.args.text.now c.args.i (omega (arith, c.if-text-i-lt2.false)) c.requires.i_value
