use native.Mathlib.Omega.{arith}
use Rattle.normalize.proofs.Texts.{long_lent, long_walks, long_lasts}
use Rattle.normalize.proofs.walk_lent.Goals as goal

-- src/lib.rt:185:5
pub normalize_attr_steps-requires : goal.normalize_attr_steps-requires
normalize_attr_steps-requires c =
    let a = c.args in
    record { valid_table = c.requires.valid_table; walkable = c.requires.base_value.1; in_bounds = omega (arith, c.forget.ensures.words, c.requires.in_bounds.0); lent = long_lent a.reading a.list.now a.pool.now a.text.now c.requires.base_value.0 c.requires.well_formed a.out.now c.requires.in_bounds.1 c.forget.ensures c.requires.base_value.1.short }

-- src/lib.rt:164:1
pub returns : goal.returns
returns c =
    let a = c.args in
    record { walks = long_walks a.reading a.list.now a.pool.now a.text.now c.requires.base_value.0 c.requires.well_formed a.out.now c.requires.in_bounds.1 c.forget.ensures c.normalize_attr_steps.ensures; lasts = long_lasts a.reading a.list.now a.pool.now a.text.now c.requires.base_value.0 c.requires.well_formed a.out.now c.requires.in_bounds.1 c.forget.ensures c.normalize_attr_steps.ensures }
