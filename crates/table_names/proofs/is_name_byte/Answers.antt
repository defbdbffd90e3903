-- `is_name_byte`: below U+0080 the ranges above have no say (`char_ascii`).
use mathlib.Core.Path.{ap, ◌∙◌}
use mathlib.Core.Bool.{Bool, ◌||◌}
use lib.Dec.{eqb}
use Rattle.text.specs.Bytes.{within}
use Rattle.table_names.proofs.AsciiNames.{char_ascii}
use Rattle.table_names.proofs.is_name_byte.Goals as goal

pub returns : goal.returns
returns c =
    let b = c.args.b in
    ap (λ (x : Bool). x || eqb b 0x2D || eqb b 0x2E || within 0x30 0x39 b) c.is_name_start_byte.ensures ∙ char_ascii b c.requires
