-- `is_name_char` has the ranges of [4a].
use Rattle.table_names.specs.NameChars.{is_name_char}
use Rattle.table_names.proofs.is_name_char.Goals as goal

pub returns : goal.returns
unfolding is_name_char
returns c = rw c.is_name_start.ensures
