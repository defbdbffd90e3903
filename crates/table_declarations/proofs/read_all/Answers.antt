-- `read_all`: what was read so far is in list and pool (`Gathered`), after each declaration (`gathered_more`), until the text is over (`gathered_all`),
-- a declaration stops it (`gathered_stopped`) or is one too many (`gathered_beyond`).
use Rattle.std.proofs.lemmas.Result.{err_from_is_err_and}
use Rattle.table_declarations.proofs.Gathering.{gathered_start, gathered_all, gathered_beyond, gathered_stopped, gathered_more}
use Rattle.table_declarations.proofs.read_all.Goals as goal

pub loop-i-init : goal.loop-i-init
loop-i-init c = gathered_start _ _ _ _ c.space_end-i.ensures

pub returns-then-count-eq-MOST : goal.returns-then-count-eq-MOST
returns-then-count-eq-MOST c =
    gathered_beyond c.loop-i.invariant c.if-count-eq-MOST.true c.beyond.result (c.beyond.ensures.0 c.args.newer) (c.beyond.ensures.1 c.args.pool.now)

pub returns-in_err-read : goal.returns-in_err-read
returns-in_err-read c =
    let told = err_from_is_err_and c.from_residual.result c.from_residual.ensures.1 in
    rw (told.1, told.2) (gathered_stopped c.loop-i.invariant c.loop-i-test.true c.if-count-eq-MOST.false c.min-room.ensures c.in_err-read.ensures)

pub loop-i-preserved : goal.loop-i-preserved
loop-i-preserved c =
    gathered_more c.loop-i.invariant c.loop-i-test.true c.if-count-eq-MOST.false c.min-room.ensures
    c.in_ok-read.ensures c.min-place.ensures c.put_command.ensures c.space_end-i-in-loop-i.ensures

pub returns : goal.returns
returns c = gathered_all c.loop-i.invariant c.loop-i-test.false c.requires
