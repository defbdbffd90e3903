-- `is_name_start_byte`: below U+0080 the ranges above have no say (`start_ascii`).
use Rattle.table_names.proofs.AsciiNames.{start_ascii}
use Rattle.table_names.proofs.is_name_start_byte.Goals as goal

pub returns : goal.returns
returns c = start_ascii c.args.b c.requires
