-- `wide_width` goes by the first byte: one that starts no character (`low_width`), or of two, three or four bytes.
use Rattle.text.specs.Bytes.{pick}
use Rattle.table_names.specs.NameChars.{is_name_start, is_name_char}
use Rattle.table_names.proofs.WideNames.{name_scalar, low_width}
use Rattle.table_names.proofs.wide_width.Goals as goal

pub returns-then-b-lt194 : goal.returns-then-b-lt194
returns-then-b-lt194 c =
    low_width (pick c.args.first is_name_start is_name_char) (name_scalar c.args.first) c.args.text.now c.args.i c.requires.0 c.requires.1 c.if-b-lt194.true
