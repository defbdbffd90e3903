-- `near_halt`: a text that is too short for 16 bytes is searched as any other, else the version's search of near bytes. Assumes nothing.
use Rattle.halts.proofs.near_halt.Goals as goal

pub returns-then-newer : goal.returns-then-newer
returns-then-newer c = rw c.if-newer.true c.near_newer.ensures

pub returns : goal.returns
returns c = rw c.if-newer.false c.near_older.ensures
