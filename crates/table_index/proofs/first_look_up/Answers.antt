-- `first_look_up`: the plain lookup answers. The state that it counts stays below the two others (`ready_counted`), or the index is built of empty slots.
use Rattle.std.proofs.Common.{◌≡◌, ℕ, ◌+◌, ◌<◌, ◌≤◌, List, length, get_or, le_refl, arith, length-set}
use Rattle.entity.proofs.Tables.{valid_short}
use Rattle.table_index.specs.Index.{slot_of, built_state, Sized}
use Rattle.table_index.proofs.IndexStates.{ready_sized, ready_empty, set_state, ready_counted}
use Rattle.table_index.proofs.first_look_up.Goals as goal
use Rattle.table_index.proofs.first_look_up.Goals.{After-passed_by, Start}

abbrev words : After-passed_by → List ℕ
words c = c.args.index.now

-- the state that is written
abbrev state : After-passed_by → ℕ
state c = get_or (words c) 0 0 + c.passed_by.result

short : (s : Start) → length s.args.list.now ≤ 49154
short s = valid_short s.args.list.now s.args.pool.now s.requires.valid_table

sized : (c : After-passed_by) → Sized (words c)
sized c = ready_sized c.args.list.now c.args.pool.now c.requires.index_nonzero.1 c.requires.index_nonzero.0

empty : (c : After-passed_by) (i : ℕ) → slot_of (words c) i ≡ 0
empty c = ready_empty c.args.list.now c.args.pool.now c.requires.index_nonzero.1 c.requires.index_nonzero.2 c.if-index-eq-GIVEN_UP.false

pub overflow_add-index : goal.overflow_add-index
overflow_add-index c =
    let list = c.args.list.now in
    let passed = c.passed_by.ensures list c.args.pool.now c.args.name.now c.find_entity-found.ensures (le_refl (length list)) in
    omega (arith, passed, short (goal.at.overflow_add-index c).Start, c.requires.index_nonzero.1.low)

pub overflow_mul-list : goal.overflow_mul-list
overflow_mul-list c = omega (arith, short (goal.at.overflow_mul-list c).Start)

pub returns-else-list-index : goal.returns-else-list-index
returns-else-list-index c =
    let list = c.args.list.now in
    let pool = c.args.pool.now in
    let low : state (goal.at.returns-else-list-index c).After-passed_by < built_state = omega (arith, set_state list pool (words (goal.at.returns-else-list-index c).After-passed_by) (state (goal.at.returns-else-list-index c).After-passed_by) (sized (goal.at.returns-else-list-index c).After-passed_by), c.if-list-index.false, short (goal.at.returns-else-list-index c).Start) in
    let ready = ready_counted list pool (words (goal.at.returns-else-list-index c).After-passed_by) (state (goal.at.returns-else-list-index c).After-passed_by) (sized (goal.at.returns-else-list-index c).After-passed_by) low (empty (goal.at.returns-else-list-index c).After-passed_by) in
    record { refers = c.find_entity-found.ensures; built = record { size = length-set (words (goal.at.returns-else-list-index c).After-passed_by) 0 (state (goal.at.returns-else-list-index c).After-passed_by); ready = ready } }
