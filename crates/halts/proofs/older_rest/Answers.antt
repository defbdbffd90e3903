-- `older_rest`: where the last 16 bytes have no halt the rest, which lies in them, has none. Assumes nothing.
use native.Mathlib.Omega.{arith}
use Prim.Native.Nat.{◌-◌}
use lib.ListN.{length}
use mathlib.Core.Path.{sym, ◌∙◌}
use Rattle.halts.proofs.Smooth.{two_smooth, smooth_last, halt_over}
use Rattle.halts.proofs.older_rest.Goals as goal

pub returns-then-not-any_two : goal.returns-then-not-any_two
returns-then-not-any_two c =
    let t = c.args.text.now in
    halt_over
    (smooth_last 16 c.if-n-ge16.true c.requires.0 (omega (arith, c.requires.1))
    (two_smooth t (length t - 16) 16 (omega (arith, c.if-n-ge16.true)) (sym c.any_two.ensures ∙ c.if-not-any_two.true)))
