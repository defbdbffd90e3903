use Rattle.std.proofs.Common.{arith}
use Rattle.replay.proofs.Laws.{glyph_digit, glyph_letter}
use Rattle.replay.proofs.values.hex_value.Goals as goal

pub returns-in-48-to-57 : goal.returns-in-48-to-57
returns-in-48-to-57 c = (omega arith, glyph_digit c.args.b (omega arith) (omega arith))

pub returns-in-97-to-102 : goal.returns-in-97-to-102
returns-in-97-to-102 c = (omega arith, glyph_letter c.args.b (omega arith))
