-- `govlezna_check_utf8` puts the answer of `checked_text`, which is that of the checks or the length (`guards`).
use mathlib.Core.Path.{ap, ◌∙◌}
use mathlib.Core.List.{[]}
use lib.ListN.{length}
use Rattle.text.specs.Call.{call_of, text_check}
use Rattle.text.specs.Answers.{Answer}
use Rattle.text.specs.Answers.{Done}
use Rattle.govlezna.specs.Calls.{check_utf8_call}
use Rattle.govlezna.proofs.Passing.{guards}
use Rattle.govlezna.proofs.govlezna_check_utf8.Goals as goal

pub returns : goal.returns
unfolding check_utf8_call
returns c =
    let text = c.args.text.now in
    c.put.ensures [] ∙ ap (λ (a : Answer). call_of a []) c.checked_text.ensures ∙ guards (text_check text) (Done (length text) 0) []
