-- `declaration`: the keyword, the name and the definition in turn; each may stop it.
use Rattle.std.proofs.lemmas.Result.{err_from_is_err_and}
use Rattle.table_declarations.proofs.Definitions.{entity_unopened, entity_unnamed, entity_undefined, entity_declared}
use Rattle.table_declarations.proofs.declaration.Goals as goal

pub returns-in_err-start : goal.returns-in_err-start
returns-in_err-start c =
    let told = err_from_is_err_and c.from_residual.result c.from_residual.ensures.1 in
    rw (told.1, told.2) (entity_unopened c.args.newer c.args.text.now c.args.i c.args.out.now (c.in_err-start.ensures c.args.out.now))

pub name_step-requires : goal.name_step-requires
name_step-requires c = ((c.in_ok-start.ensures c.args.out.now).kept.to, c.requires.1)

pub returns-in_err-name : goal.returns-in_err-name
returns-in_err-name c =
    let told = err_from_is_err_and c.from_residual-in_err-name.result c.from_residual-in_err-name.ensures.1 in
    rw (told.1, told.2) (entity_unnamed c.args.newer c.args.text.now c.args.i c.args.out.now (c.in_ok-start.ensures c.args.out.now) c.in_err-name.ensures)

pub returns-in_err-value : goal.returns-in_err-value
returns-in_err-value c =
    let told = err_from_is_err_and c.from_residual-in_err-value.result c.from_residual-in_err-value.ensures.1 in
    rw (told.1, told.2)
    (entity_undefined c.args.newer c.args.text.now c.args.i c.args.out.now (c.in_ok-start.ensures c.args.out.now) c.in_ok-name.ensures
    c.min-room.ensures c.in_err-value.ensures)

pub returns : goal.returns
returns c =
    entity_declared c.args.newer c.args.text.now c.args.i c.args.out.now (c.in_ok-start.ensures c.args.out.now) c.in_ok-name.ensures
    c.min-room.ensures c.in_ok-value.ensures
