-- `charref::skip_zeros` passes zeros only. The invariant: what is left writes the same number in every base. Assumes nothing.
use native.Mathlib.Omega.{arith}
use mathlib.Core.Path.{◌∙◌}
use Rattle.charref.proofs.Numbers.{at_zero}
use Rattle.charref.proofs.skip_zeros.Goals as goal

pub loop-i-preserved : goal.loop-i-preserved
loop-i-preserved c =
    (omega arith, λ base h. at_zero base c.loop-i.i c.args.text.now h (omega arith) c.if-text-i-ne48.false ∙ c.loop-i.invariant.1 base h)
