-- `is_name_start` has the ranges of [4].
use mathlib.Core.Path.{refl}
use Rattle.table_names.specs.NameChars.{is_name_start}
use Rattle.table_names.proofs.is_name_start.Goals as goal

pub returns : goal.returns
unfolding is_name_start
returns c = refl
