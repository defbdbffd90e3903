-- `same_part` keeps `Agree`, eight bytes further at each turn, then one (`same_words`).
use Rattle.std.proofs.Common.{length, sym, refl}
use Rattle.entity.proofs.Lookup.{same_all, differ_at}
use Rattle.entity.proofs.same_part.Goals as goal

pub returns-then-pool-start : goal.returns-then-pool-start
returns-then-pool-start c =
    let a = c.args in
    let name = a.name.now in
    sym (differ_at a.pool.now a.start name (length name) c.loop-k.k c.loop-k-test.true c.if-pool-start.true)

pub returns : goal.returns
returns c =
    let a = c.args in
    let name = a.name.now in
    sym (same_all a.pool.now a.start name (length name) c.requires refl c.loop-k.invariant c.loop-k-test.false)
