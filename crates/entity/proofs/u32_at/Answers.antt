-- `u32_at`: no sum overflows, as each part is a byte times its place; the sum is `u32_sum`.
use Rattle.entity.proofs.Reading.{u32_sum}
use native.Mathlib.Omega.{arith}
use Rattle.entity.proofs.u32_at.Goals as goal

pub returns : goal.returns
returns c =
    let given = c.args in
    (omega (arith, u32_sum given.bytes.now given.i), omega arith)
