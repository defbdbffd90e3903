-- `clear_short`: the first eight bytes and the last eight are the whole text. Assumes nothing.
use borrow.Author.Tests.{not-true}
use Rattle.text.proofs.Bytes.{and_left, and_right}
use mathlib.Core.Bool.{false, not}
use native.Mathlib.Omega.{arith}
use Prim.Native.Nat.{◌-◌}
use lib.ListN.{length}
use mathlib.Core.Path.{sym, ◌∙◌}
use Rattle.halts.proofs.Smooth.{two_smooth, smooth_join, smooth_last}
use Rattle.halts.proofs.clear_short.Goals as goal

pub returns : goal.returns
returns c =
    λ e.
    let t = c.args.text.now in
    let a = c.any_two.result in
    let b = c.any_two-2.result in
    let first = two_smooth t 0 8 (omega (arith, c.requires.0)) (sym c.any_two.ensures ∙ not-true a (and_left (not a) (not b) e)) in
    let last = two_smooth t (length t - 8) 8 (omega (arith, c.requires.0)) (sym c.any_two-2.ensures ∙ not-true b (and_right (not a) (not b) e)) in
    smooth_join false t 8 first (smooth_last 8 c.requires.0 c.requires.0 c.requires.1 last)
