-- `fill`: the sum is a word (`fill_fits`) and fills the slot (`slot_filled`).
use Rattle.std.proofs.Common.{◌+◌, ◌/◌, get_or, refl, arith, length-set, rules}
use Rattle.table_index.proofs.PackedSlots.{fill_fits, slot_filled}
use Rattle.table_index.proofs.fill.Goals as goal

pub overflow_add-index-3 : goal.overflow_add-index-3
overflow_add-index-3 c =
    let s = c.args.s in
    let word = get_or c.args.index.now (1 + s / 4) 0 in
    omega (arith, fill_fits word s c.args.at (search rules) c.requires.at_bound.0 c.requires.at_bound.1.is)

pub returns : goal.returns
returns c =
    let given = c.args in
    let words = given.index.now in
    record { filled_at = slot_filled words given.s given.at c.requires.s_bound.0 c.requires.at_bound.0 c.requires.at_bound.1.is refl refl; index_len_unchanged = length-set words _ _ }
