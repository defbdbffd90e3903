-- `name_start_width` is by the byte below U+0080 (`width_ascii`), by `wide_width` above.
use mathlib.Core.Path.{sym, ap, ◌∙◌}
use mathlib.Core.Bool.{Bool}
use Rattle.text.specs.Bytes.{pick}
use Rattle.table_names.specs.NameChars.{is_name_start}
use Rattle.table_names.proofs.CharWidths.{width_ascii}
use Rattle.table_names.proofs.name_start_width.Goals as goal

pub returns-then-is_name_start_byte : goal.returns-then-is_name_start_byte
returns-then-is_name_start_byte c =
    sym (width_ascii is_name_start c.args.text.now c.args.i c.requires c.if-b-lt128.true ∙ ap (λ (x : Bool). pick x 1 0)
    (sym c.is_name_start_byte.ensures ∙ c.if-is_name_start_byte.true))

pub returns-then-b-lt128 : goal.returns-then-b-lt128
returns-then-b-lt128 c =
    sym (width_ascii is_name_start c.args.text.now c.args.i c.requires c.if-b-lt128.true ∙ ap (λ (x : Bool). pick x 1 0)
    (sym c.is_name_start_byte.ensures ∙ c.if-is_name_start_byte.false))
