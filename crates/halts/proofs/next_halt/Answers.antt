-- `next_halt` is the search of the version. Assumes nothing.
use Rattle.halts.proofs.next_halt.Goals as goal

pub returns-then-newer : goal.returns-then-newer
returns-then-newer c = rw c.if-newer.true c.newer_halt.ensures

pub returns : goal.returns
returns c = rw c.if-newer.false c.older_halt.ensures
