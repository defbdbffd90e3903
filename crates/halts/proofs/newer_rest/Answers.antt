-- `newer_rest`: where the last 16 bytes have no suspect the rest, which lies in them, has none. Assumes nothing.
use native.Mathlib.Omega.{arith}
use Prim.Native.Nat.{◌-◌}
use lib.ListN.{length}
use mathlib.Core.Path.{sym, ◌∙◌}
use Rattle.halts.proofs.Smooth.{four_smooth, smooth_last, halt_over}
use Rattle.halts.proofs.newer_rest.Goals as goal

pub returns-then-not-any_two-2 : goal.returns-then-not-any_two-2
returns-then-not-any_two-2 c =
    let t = c.args.text.now in
    halt_over
    (smooth_last 16 c.if-n-ge16.true c.requires.0 (omega (arith, c.requires.1))
    (four_smooth t (length t - 16) 16 (omega (arith, c.if-n-ge16.true))
    (sym c.any_two.ensures ∙ c.if-not-any_two.true)
    (sym c.any_two-then-not-any_two.ensures ∙ c.if-not-any_two-2.true)))
