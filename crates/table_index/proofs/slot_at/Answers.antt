-- `slot_at`: the digit is read by a shift (`digit_shifted`).
use Rattle.std.proofs.Common.{◌+◌, ◌*◌, ◌/◌, ◌%◌, ◌^◌, ◌<◌, get_or, arith}
use Rattle.table_index.proofs.PackedSlots.{digit_shifted}
use Rattle.table_index.proofs.slot_at.Goals as goal

pub returns : goal.returns
returns c =
    let given = c.args in
    let place = given.s % 4 in
    let word = get_or given.index.now (1 + given.s / 4) 0 in
    let low : word / 2 ^ (16 * place) % 0x10000 < 0x10000 = omega arith in
    (digit_shifted word place (omega arith), low)
