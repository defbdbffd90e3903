-- `is_name` asks for the test that is wanted.
use mathlib.Core.Path.{sym, ap, ◌∙◌}
use mathlib.Core.Bool.{Bool}
use Rattle.text.specs.Bytes.{pick}
use Rattle.table_names.specs.NameChars.{is_name_start, is_name_char}
use Rattle.table_names.proofs.is_name.Goals as goal

pub returns-then-first : goal.returns-then-first
returns-then-first c = c.is_name_start.ensures ∙ ap (λ (x : Bool). pick x is_name_start is_name_char c.args.c) (sym c.if-first.true)

pub returns : goal.returns
returns c = c.is_name_char.ensures ∙ ap (λ (x : Bool). pick x is_name_start is_name_char c.args.c) (sym c.if-first.false)
