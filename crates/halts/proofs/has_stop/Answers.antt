-- `has_stop` is the loop of the version. Assumes nothing.
use Rattle.halts.proofs.has_stop.Goals as goal

pub returns-then-newer : goal.returns-then-newer
returns-then-newer c = rw c.if-newer.true c.stop_in.ensures

pub returns : goal.returns
returns c = rw c.if-newer.false c.stop_in-2.ensures
