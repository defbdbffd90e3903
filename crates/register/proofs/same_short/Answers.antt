-- `same_short` keeps `Alike`, a byte further at each turn.
use native.Mathlib.Omega.{arith}
use Rattle.register.proofs.Comparing.{differ_at, alike_more, alike_all}
use Rattle.register.proofs.same_short.Goals as goal

pub returns-then-a-i : goal.returns-then-a-i
returns-then-a-i c =
    differ_at c.args.a.now c.args.b.now c.loop-i.i c.if-a-i.true

pub loop-i-preserved : goal.loop-i-preserved
loop-i-preserved c =
    alike_more c.args.a.now c.args.b.now c.loop-i.i c.loop-i.invariant c.if-a-i.false

pub returns : goal.returns
returns c =
    alike_all c.args.a.now c.args.b.now c.loop-i.i c.requires c.loop-i.invariant (omega arith)
