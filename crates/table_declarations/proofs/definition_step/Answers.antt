-- `definition_step`: no text (`definition_over`), no quote (`definition_bare`), a value that stops (`definition_stopped`), then white space and `>`.
use mathlib.Core.Path.{sym, ◌∙◌}
use native.Mathlib.Omega.{arith}
use Prim.Native.Nat.{◌<◌}
use lib.ListN.{length}
use Rattle.std.proofs.lemmas.Result.{err_from_is_err_and}
use Rattle.table_declarations.proofs.Definitions.{definition_over, definition_bare, definition_stopped, definition_unclosed, definition_closed}
use Rattle.table_declarations.proofs.definition_step.Goals as goal
use Rattle.table_declarations.proofs.definition_step.Goals.{Else-from-text}

pub returns-then-from-text : goal.returns-then-from-text
returns-then-from-text c = definition_over c.args.newer c.args.text.now c.args.from c.args.out.now c.requires.0 c.if-from-text.true

pub returns-then-quote : goal.returns-then-quote
returns-then-quote c =
    definition_bare c.args.newer c.args.text.now c.args.from c.args.out.now (omega (arith, c.requires.0, c.if-from-text.false)) c.if-quote.true

-- the place of the quote
starts : (c : Else-from-text) → c.args.from < length c.args.text.now
starts c = omega (arith, c.requires.0, c.if-from-text.false)

pub returns-in_err-value : goal.returns-in_err-value
returns-in_err-value c =
    let told = err_from_is_err_and c.from_residual.result c.from_residual.ensures.1 in
    rw (told.1, told.2)
    (definition_stopped c.args.newer c.args.text.now c.args.from c.args.out.now (starts (goal.at.returns-in_err-value c).Else-from-text)
    c.if-quote.false c.in_err-value.ensures)

pub returns-then-not-byte_at : goal.returns-then-not-byte_at
returns-then-not-byte_at c =
    definition_unclosed c.args.newer c.args.text.now c.args.from c.args.out.now (starts (goal.at.returns-then-not-byte_at c).Else-from-text)
    c.if-quote.false c.in_ok-value.ensures c.space_end-end.ensures (sym c.byte_at.ensures ∙ c.if-not-byte_at.true)

pub returns : goal.returns
returns c =
    definition_closed c.args.newer c.args.text.now c.args.from c.args.out.now (starts (goal.at.returns c).Else-from-text)
    c.if-quote.false c.in_ok-value.ensures c.space_end-end.ensures (sym c.byte_at.ensures ∙ c.if-not-byte_at.false)
