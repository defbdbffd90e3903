-- `resolve_entity` is `find_entity` without the command (`Binding::from`).
use Rattle.entity.proofs.resolve_entity.Goals as goal

pub returns : goal.returns
returns c =
    let asked = c.args in
    let both = c.from.ensures asked.list.now asked.pool.now asked.name.now c.find_entity.ensures in
    record { result_value = both.0; lies = both.1 }
