-- `govlezna_register_count` puts what `count` answers.
use mathlib.Core.Path.{◌∙◌}
use mathlib.Core.List.{[]}
use Rattle.govlezna.proofs.govlezna_register_count.Goals as goal

pub returns : goal.returns
returns c = c.put.ensures [] ∙ c.count.ensures
