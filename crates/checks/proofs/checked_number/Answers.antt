-- `checked_number`: a number needs no check of UTF-8, since its digits are ASCII; where there is none, UTF-8 is asked first.
use mathlib.Core.Path.{◌≡◌, sym, ap, ◌∙◌}
use Rattle.std.specs.Prelude.{Err}
use Rattle.text.specs.Answers.{Done}
use Rattle.text.specs.Call.{answered}
use Rattle.charref.specs.CharRef.{number_answer, char_number, any_character}
use Rattle.charref.specs.Errors.{answer_as}
use Rattle.charref.proofs.Ascii.{number_utf8}
use Rattle.charref.proofs.Errors.{answers}
use Rattle.checks.proofs.Checks.{later_answers, known_answers}
use Rattle.checks.proofs.checked_number.Goals as goal
use Rattle.checks.proofs.checked_number.Goals.{After-parse_number}

-- what the text is read as answers as document 01 has it
number : (c : After-parse_number) → answer_as c.parse_number.result ≡ number_answer (char_number any_character c.args.text.now)
number c = ap answer_as c.parse_number.ensures ∙ answers (char_number any_character c.args.text.now)

pub returns-in-Ok : goal.returns-in-Ok
returns-in-Ok c =
    let t = c.args.text.now in
    let read : Done c.in-Ok.c 0 ≡ number_answer (char_number any_character t) =
    sym (ap answer_as c.in-Ok.is) ∙ number (goal.at.returns-in-Ok c).After-parse_number in
    known_answers t _ c.check_length.ensures (ap answered c.in_ok-check_length.was) (number_utf8 t (sym read)) read

pub returns-in_ok-check_utf8-in-Err : goal.returns-in_ok-check_utf8-in-Err
returns-in_ok-check_utf8-in-Err c =
    let t = c.args.text.now in
    let read : answered (Err c.into.result) ≡ number_answer (char_number any_character t) =
    ap (λ r. answered (Err r)) c.into.ensures ∙ sym (ap answer_as c.in-Err.is) ∙ number (goal.at.returns-in_ok-check_utf8-in-Err c).After-parse_number in
    later_answers t _ c.check_length.ensures (ap answered c.in_ok-check_length.was) c.check_utf8.ensures
    (ap answered c.in_ok-check_utf8-in-Err.was) read
