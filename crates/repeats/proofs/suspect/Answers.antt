-- `suspect`: the place and the fingerprint are parts of the hash (`suspected`).
use Rattle.std.proofs.Common.{refl, arith}
use Rattle.repeats.proofs.Filtering.{suspected}
use Rattle.repeats.proofs.suspect.Goals as goal

pub seen-requires : goal.seen-requires
seen-requires c =
    (omega (arith, c.requires, c.share_of-home.ensures), c.requires.1, omega arith)

pub returns : goal.returns
returns c =
    let a = c.args in
    suspected a.table.now _ a.hash c.share_of-home.ensures.0 refl c.seen.ensures
