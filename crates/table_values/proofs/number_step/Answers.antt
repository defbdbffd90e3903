-- `number_step`: no `;` (`number_unended`, `number_quoted`), a character (`number_read`), or a number that is refused (`number_refused`).
use mathlib.Core.Path.{◌≡◌, refl, sym, ap, ◌∙◌}
use mathlib.Core.List.{[]}
use native.Mathlib.Omega.{arith}
use borrow.Author.Rules.{rules}
use Rattle.text.specs.Refusals.{number_of, first_of, second_of}
use Rattle.charref.specs.Errors.{refusal_for}
use Rattle.charref.proofs.Errors.{read_char}
use Rattle.charref.proofs.Numbers.{char_number_character_lem}
use Rattle.table_grammar.specs.EntityValue.{refused}
use Rattle.table_values.proofs.EntityValues.{meets_as}
use Rattle.table_values.proofs.CharRefs.{number_unended, number_quoted, number_read, number_refused, no_second}
use Rattle.table_values.proofs.number_step.Goals as goal

pub returns-then-end-text : goal.returns-then-end-text
returns-then-end-text c =
    record {
      value = [];
      is = number_unended c.args.quote c.args.newer c.args.text.now c.args.from c.number_end-end.result
          c.requires.1 c.number_end-end.ensures c.if-end-text.true;
      kept = (c.number_end-end.ensures.run.to, refl);
    }

pub returns-then-text-end-ne59 : goal.returns-then-text-end-ne59
returns-then-text-end-ne59 c =
    record {
      value = [];
      is = number_quoted c.args.quote c.args.newer c.args.text.now c.args.from c.number_end-end.result c.requires.1
          c.number_end-end.ensures (omega (arith, c.number_end-end.ensures.run.to, c.if-end-text.false)) c.if-text-end-ne59.true;
      kept = (c.number_end-end.ensures.run.to, refl);
    }

pub char_step-requires : goal.char_step-requires
char_step-requires c =
    let read = read_char _ (sym c.in-Ok.is ∙ c.parse_number.ensures) in (
      omega (arith, c.number_end-end.ensures.run.from),
      omega (arith, c.number_end-end.ensures.run.to, c.if-end-text.false),
      (char_number_character_lem _ _ read).most,
    )

pub returns-in-Ok : goal.returns-in-Ok
returns-in-Ok c =
    meets_as (number_read c.args.quote c.args.newer c.args.text.now c.args.from c.number_end-end.result c.requires.1 c.number_end-end.ensures
    (omega (arith, c.number_end-end.ensures.run.to, c.if-end-text.false)) (sym c.in-Ok.is ∙ c.parse_number.ensures) c.if-text-end-ne59.false)
    c.char_step.ensures

pub returns-in-Err : goal.returns-in-Err
returns-in-Err c =
    let handed : c.from.result ≡ refusal_for c.in-Err.e = search rules in
    record {
      value = [];
      is = number_refused c.args.quote c.args.newer c.args.text.now c.args.from c.number_end-end.result c.requires.1
          c.number_end-end.ensures (omega (arith, c.number_end-end.ensures.run.to, c.if-end-text.false))
          (sym c.in-Err.is ∙ c.parse_number.ensures) c.if-text-end-ne59.false
          ∙ sym (ap (λ r. refused (number_of r) (first_of r)) handed);
      kept = (refl, ap second_of handed ∙ no_second c.in-Err.e);
    }
