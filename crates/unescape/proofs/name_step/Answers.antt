use mathlib.Core.Path.{refl}
use Rattle.unescape.proofs.Stops.{named_as}
use Rattle.unescape.proofs.name_step.Goals as goal

pub returns-then-name-lt8 : goal.returns-then-name-lt8
returns-then-name-lt8 c =
    let given = c.args in
    named_as given.pool.now given.name.now given.i given.next c.resolve_short.ensures.result_value
    (c.bound_step.ensures given.name.now refl)

pub returns : goal.returns
returns c =
    let given = c.args in
    named_as given.pool.now given.name.now given.i given.next c.resolve_entity.ensures.result_value
    (c.bound_step-2.ensures given.name.now refl)
