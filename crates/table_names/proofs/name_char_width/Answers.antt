-- `name_char_width`: a small letter (`letter_char`), another byte of ASCII, or more bytes.
use mathlib.Core.Path.{sym, ap, ◌∙◌}
use mathlib.Core.Bool.{Bool}
use native.Mathlib.Omega.{arith}
use lib.ListN.{get_or}
use Rattle.text.specs.Bytes.{pick}
use Rattle.text.proofs.Bytes.{within_top}
use Rattle.table_names.specs.NameChars.{is_name_char}
use Rattle.table_names.proofs.AsciiNames.{letter_char}
use Rattle.table_names.proofs.CharWidths.{width_ascii}
use Rattle.table_names.proofs.name_char_width.Goals as goal

pub returns-then-b : goal.returns-then-b
returns-then-b c =
    sym (width_ascii is_name_char c.args.text.now c.args.i c.requires
    (omega (arith, within_top 0x61 0x7A (get_or c.args.text.now c.args.i 0) c.if-b.true)) ∙ ap (λ (x : Bool). pick x 1 0)
    (letter_char (get_or c.args.text.now c.args.i 0) c.if-b.true))

pub returns-then-is_name_byte : goal.returns-then-is_name_byte
returns-then-is_name_byte c =
    sym (width_ascii is_name_char c.args.text.now c.args.i c.requires c.if-b-lt128.true ∙ ap (λ (x : Bool). pick x 1 0)
    (sym c.is_name_byte.ensures ∙ c.if-is_name_byte.true))

pub returns-then-b-lt128 : goal.returns-then-b-lt128
returns-then-b-lt128 c =
    sym (width_ascii is_name_char c.args.text.now c.args.i c.requires c.if-b-lt128.true ∙ ap (λ (x : Bool). pick x 1 0)
    (sym c.is_name_byte.ensures ∙ c.if-is_name_byte.false))
