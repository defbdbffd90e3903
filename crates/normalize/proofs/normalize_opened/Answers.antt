-- `normalize_opened` hands the walker 84 words that are 0, which keep nothing yet (`opened_lent`, `opened_walks`).
use native.Mathlib.Omega.{arith}
use Rattle.normalize.proofs.Texts.{opened_lent, opened_walks}
use Rattle.normalize.proofs.normalize_opened.Goals as goal

pub normalize_attr_steps-requires : goal.normalize_attr_steps-requires
normalize_attr_steps-requires c =
    let a = c.args in
    record { valid_table = c.requires.valid_table; walkable = c.requires.base_value.1; in_bounds = omega arith; lent = opened_lent a.reading a.list.now a.pool.now a.text.now c.requires.base_value.0 a.begun c.requires.lent }

pub returns : goal.returns
returns c =
    let a = c.args in
    opened_walks a.reading a.list.now a.pool.now a.text.now c.requires.base_value.0 a.begun c.normalize_attr_steps.ensures
