-- `charref::parse_number` meets its contract: the three cases of `char_number`, with the digits after x as a part of the text. Assumes nothing.
use Rattle.std.proofs.Common.{rules, ◌≡◌, Err}
use mathlib.Core.Path.{sym, ◌∙◌, ap}
use Rattle.charref.specs.CharRef.{judge}
use Rattle.charref.specs.Reading.{legal_by}
use Rattle.charref.specs.Errors.{read_as}
use Rattle.charref.proofs.Numbers.{char_none, char_hex, char_decimal}
use Rattle.charref.proofs.Errors.{parsed_value, parsed_error}
use Rattle.charref.proofs.parse_number.Goals as goal

pub returns-then-text-eq0 : goal.returns-then-text-eq0
returns-then-text-eq0 c = let a = c.args in ap read_as (char_none (legal_by a.rule) a.text.now c.if-text-eq0.true)

pub returns-in_err-from_str_radix : goal.returns-in_err-from_str_radix
returns-in_err-from_str_radix c =
    let legal = legal_by c.args.rule in
    let hex = c.if-text-eq120.true in
    let is : c.from_residual.result ≡ Err c.in_err-from_str_radix.field-0.0 = search rules in
    is ∙ parsed_error legal _ (sym c.in_err-from_str_radix.was ∙ c.from_str_radix.ensures)
    ∙ ap read_as (char_hex legal c.args.text.now c.if-text-eq0.false hex)

pub returns-then-text-eq120 : goal.returns-then-text-eq120
returns-then-text-eq120 c =
    let legal = legal_by c.args.rule in
    let value = parsed_value _ (sym c.in_ok-from_str_radix.was ∙ c.from_str_radix.ensures) in
    c.judge.ensures ∙ ap (λ p. read_as (judge legal p)) (sym value)
    ∙ ap read_as (char_hex legal c.args.text.now c.if-text-eq0.false c.if-text-eq120.true)

pub returns-in_err-from_str_radix-2 : goal.returns-in_err-from_str_radix-2
returns-in_err-from_str_radix-2 c =
    let legal = legal_by c.args.rule in
    let decimal = c.if-text-eq120.false in
    let is : c.from_residual-in_err-from_str_radix-2.result ≡ Err c.in_err-from_str_radix-2.field-0.0 = search rules in
    is ∙ parsed_error legal _ (sym c.in_err-from_str_radix-2.was ∙ c.from_str_radix-2.ensures)
    ∙ ap read_as (char_decimal legal c.args.text.now c.if-text-eq0.false decimal)

pub returns : goal.returns
returns c =
    let legal = legal_by c.args.rule in
    let value = parsed_value _ (sym c.in_ok-from_str_radix-2.was ∙ c.from_str_radix-2.ensures) in
    c.judge-2.ensures ∙ ap (λ p. read_as (judge legal p)) (sym value)
    ∙ ap read_as (char_decimal legal c.args.text.now c.if-text-eq0.false c.if-text-eq120.false)
