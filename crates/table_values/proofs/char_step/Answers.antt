-- `char_step`: four bytes have room for every character (`encode_at_most`).
use Rattle.charref.proofs.Encoding.{encode_at_most}
use Rattle.table_values.proofs.char_step.Goals as goal

pub encode_utf8-n-requires : goal.encode_utf8-n-requires
encode_utf8-n-requires c = (c.requires.2, encode_at_most c.args.c)
