-- `home`: the product is below 2^50, and sixteen slots follow the answer (`home_fits`).
use Rattle.std.proofs.Common.{◌-◌, ◌*◌, refl, arith}
use Rattle.table_index.proofs.NameHashing.{part_fits, home_fits}
use Rattle.table_index.proofs.home.Goals as goal

pub overflow_mul-result-2 : goal.overflow_mul-result-2
overflow_mul-result-2 c = omega (arith, part_fits c.args.h (4 * c.args.words - 16) c.requires.0 (omega (arith, c.requires.2)))

pub returns : goal.returns
returns c = (refl, home_fits c.args.h c.args.words c.requires.0 c.requires.1)
