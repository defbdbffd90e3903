use mathlib.Core.Path.{ap, ◌∙◌}
use mathlib.Core.List.{[]}
use Rattle.text.specs.Answers.{Answer}
use Rattle.text.specs.Call.{call_of}
use Rattle.govlezna.specs.Calls.{check_table_call}
use Rattle.govlezna.proofs.govlezna_check_table.Goals as goal

pub returns : goal.returns
unfolding check_table_call
returns c = c.put.ensures [] ∙ ap (λ (a : Answer). call_of a []) c.check_table.ensures
