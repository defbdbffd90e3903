-- `same_short` keeps `Agree`, a byte further at each turn. That all bytes were compared is asked of `omega`, so that fewer are refused as a number.
use Rattle.std.proofs.Common.{length, sym, refl, arith}
use Rattle.entity.proofs.Lookup.{same_all, differ_at}
use Rattle.entity.proofs.same_short.Goals as goal

pub returns-then-pool-start : goal.returns-then-pool-start
returns-then-pool-start c =
    let a = c.args in
    let name = a.name.now in
    sym (differ_at a.pool.now a.start name (length name) c.loop-k.k (omega (arith, c.loop-k-test.true)) c.if-pool-start.true)

pub returns : goal.returns
returns c =
    let a = c.args in
    let name = a.name.now in
    sym (same_all a.pool.now a.start name (length name) c.requires refl c.loop-k.invariant (omega (arith, c.loop-k-test.false)))
