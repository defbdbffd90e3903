-- `change_count`: the four bytes of the count are written (`count_leaves`).
use mathlib.Core.Path.{refl}
use lib.ListN.{take}
use Rattle.register.specs.Places.{entries_in}
use Rattle.changes.proofs.Leaves.{count_leaves}
use Rattle.changes.proofs.change_count.Goals as goal

pub returns : goal.returns
returns c form h s =
    let buffer = c.args.buffer.now in
    count_leaves buffer c.args.used (entries_in (take c.args.used buffer)) h s c.args.count c.requires.0 refl c.put_u32.ensures
