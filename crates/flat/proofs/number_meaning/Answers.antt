-- A number that is a character means it (`number_char`); what refuses any other is passed upward (`number_refused`).
use borrow.Author.Rules.{rules}
use mathlib.Core.Path.{◌≡◌, sym, ◌∙◌}
use Rattle.charref.specs.Errors.{refusal_for}
use Rattle.charref.proofs.Errors.{read_char}
use Rattle.flat.proofs.References.{number_char, number_refused}
use Rattle.flat.proofs.number_meaning.Goals as goal

pub returns-in_default : goal.returns-in_default
returns-in_default c =
    let a = c.args in
    let handed : c.from.result ≡ refusal_for c.unwrap_err.result = search rules in
    rw handed (number_refused a.rule a.digits.now a.next (sym c.unwrap_err.ensures ∙ c.parse_number-n.ensures))

pub returns : goal.returns
returns c =
    let a = c.args in
    number_char a.rule a.digits.now a.next (read_char _ (sym c.in-Ok.is ∙ c.parse_number-n.ensures))
