-- `govlezna_canonical_form` puts what `checked_form` answers.
use mathlib.Core.Path.{◌∙◌}
use Rattle.govlezna.specs.Calls.{canonical_form_call}
use Rattle.attribute.specs.Strict.{reading_by}
use Rattle.govlezna.proofs.govlezna_canonical_form.Goals as goal

pub returns : goal.returns
unfolding canonical_form_call reading_by
returns c = c.put.ensures _ ∙ c.checked_form.ensures
