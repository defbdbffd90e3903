-- `govlezna_parse_number` puts the answer of `checked_number`, which is that of the checks or of the number (`guards`).
use Rattle.charref.specs.CharRef.{number_answer, char_number, any_character}
use mathlib.Core.Path.{ap, ◌∙◌}
use mathlib.Core.List.{[]}
use Rattle.text.specs.Call.{call_of, text_check}
use Rattle.text.specs.Answers.{Answer}
use Rattle.govlezna.specs.Calls.{parse_number_call}
use Rattle.govlezna.proofs.Passing.{guards}
use Rattle.govlezna.proofs.govlezna_parse_number.Goals as goal

pub returns : goal.returns
unfolding parse_number_call
returns c =
    let text = c.args.text.now in
    c.put.ensures [] ∙ ap (λ (a : Answer). call_of a []) c.checked_number.ensures
    ∙ guards (text_check text) (number_answer (char_number any_character text)) []
