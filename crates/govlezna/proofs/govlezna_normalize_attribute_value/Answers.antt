-- `govlezna_normalize_attribute_value` puts what `checked_value` answers.
use mathlib.Core.Path.{◌∙◌}
use Rattle.govlezna.specs.Calls.{normalize_attribute_value_call}
use Rattle.attribute.specs.Strict.{reading_by}
use Rattle.govlezna.proofs.govlezna_normalize_attribute_value.Goals as goal

pub returns : goal.returns
unfolding normalize_attribute_value_call reading_by
returns c = c.put.ensures _ ∙ c.checked_value.ensures
