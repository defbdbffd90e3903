-- Words that are 0 are a room that keeps nothing (`new_room`).
use Rattle.walk_least_depth.specs.Allowance.{needed, outcomes}
use Rattle.walk_least_depth.proofs.LeastAnswers.{new_room, keeps_says}
use Rattle.walk_least_depth.proofs.need_of.Goals as goal

pub least_depth-requires : goal.least_depth-requires
least_depth-requires c =
    let a = c.args in
    let room = new_room a.allowed a.list.now a.pool.now a.text.now a.openings c.requires.base_value.0 c.requires.base_value.1 c.requires.base_value.2 c.requires.well_formed in
    record { valid_table = c.requires.valid_table; small = c.requires.base_value.2; begins = room }

pub returns : goal.returns
returns c =
    let a = c.args in
    keeps_says (outcomes a.allowed a.list.now a.pool.now a.text.now a.openings) (needed c.least_depth.result) c.least_depth.ensures
