-- `govlezna_normalize_attribute_value_strict` puts what `checked_value` answers.
use mathlib.Core.Path.{◌∙◌}
use Rattle.govlezna.specs.Calls.{normalize_attribute_value_strict_call}
use Rattle.govlezna.proofs.govlezna_normalize_attribute_value_strict.Goals as goal

pub returns : goal.returns
unfolding normalize_attribute_value_strict_call
returns c = c.put.ensures _ ∙ c.checked_value.ensures
