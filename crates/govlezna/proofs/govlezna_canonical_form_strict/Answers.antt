-- `govlezna_canonical_form_strict` puts what `checked_form` answers.
use mathlib.Core.Path.{◌∙◌}
use Rattle.govlezna.specs.Calls.{canonical_form_strict_call}
use Rattle.govlezna.proofs.govlezna_canonical_form_strict.Goals as goal

pub returns : goal.returns
unfolding canonical_form_strict_call
returns c = c.put.ensures _ ∙ c.checked_form.ensures
