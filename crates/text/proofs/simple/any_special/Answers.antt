-- `any_special`: where neither accumulator is set every byte passed is simple (`looked_more`). Assumes nothing.
use mathlib.Core.Path.{◌≡◌, sym, subst}
use mathlib.Core.Bool.{◌||◌}
use native.Mathlib.Omega.{arith}
use Prim.Native.Nat.{ℕ, ◌+◌, ◌-◌, ◌<◌}
use lib.Dec.{eqb, ltb}
use lib.ListN.{drop}
use Rattle.std.proofs.Common.{length-take}
use Rattle.text.proofs.Bytes.{part_byte}
use Rattle.text.proofs.Printable.{LookedSimple, looked_none, looked_more}
use Rattle.text.proofs.simple.any_special.Goals as goal

pub loop-b-init : goal.loop-b-init
loop-b-init c = looked_none c.args.text.now c.args.i c.args.size c.requires

pub loop-b-preserved : goal.loop-b-preserved
loop-b-preserved c =
    let a = c.args in
    let l = c.loop-b in
    let k = l.b-index in
    let inside : k < a.size = omega (arith, c.loop-b-test.true, length-take (a.i + a.size - a.i) (drop a.i a.text.now)) in
    subst (λ (b : ℕ). LookedSimple a.text.now a.i a.size (l.outside || (ltb b 32 || ltb 126 b) || (l.amp || eqb b 38)) (k + 1))
    (sym (part_byte a.text.now a.i a.size k c.loop-b-test.true))
    (looked_more a.text.now a.i a.size c.requires l.outside l.amp k inside l.invariant)

pub returns : goal.returns
returns c =
    λ e.
    let a = c.args in
    let part = length-take (a.i + a.size - a.i) (drop a.i a.text.now) in
    let all : c.loop-b.b-index ≡ a.size = omega (arith, c.loop-b.invariant.within, c.loop-b-test.false, part, c.requires) in
    rw all at (c.loop-b.invariant.clear e)
