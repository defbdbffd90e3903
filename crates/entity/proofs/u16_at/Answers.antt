use Rattle.entity.proofs.Reading.{u16_sum}
use native.Mathlib.Omega.{arith}
use Rattle.entity.proofs.u16_at.Goals as goal

pub returns : goal.returns
returns c =
    let given = c.args in
    (omega (arith, u16_sum given.bytes.now given.i), omega arith)
