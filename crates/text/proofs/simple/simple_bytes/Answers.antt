-- `simple_bytes`: all before i is simple. Assumes nothing.
use mathlib.Core.Path.{◌≡◌, sym}
use mathlib.Core.Bool.{true≢false}
use native.Mathlib.Omega.{arith}
use Prim.Native.Nat.{zero-le}
use lib.ListN.{length}
use Rattle.text.proofs.Printable.{simple_none, simple_join, simple_byte}
use Rattle.text.proofs.simple.simple_bytes.Goals as goal

pub loop-b-init : goal.loop-b-init
loop-b-init c = simple_none c.args.text.now 0 zero-le

pub returns-then-b : goal.returns-then-b
returns-then-b c = λ e. absurd (true≢false (sym e))

pub loop-b-preserved : goal.loop-b-preserved
loop-b-preserved c =
    let t = c.args.text.now in
    let i = c.loop-b.b-index in
    simple_join t i c.loop-b.invariant (simple_byte t i c.loop-b-test.true c.if-b.false)

pub returns : goal.returns
returns c =
    λ e.
    let all : c.loop-b.b-index ≡ length c.args.text.now = omega (arith, c.loop-b.invariant.to, c.loop-b-test.false) in
    rw all at c.loop-b.invariant
