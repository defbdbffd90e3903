-- `govlezna_normalize_nmtokens` puts what `checked_nmtokens` answers.
use mathlib.Core.Path.{◌∙◌}
use Rattle.govlezna.specs.Calls.{normalize_nmtokens_call}
use Rattle.attribute.specs.Strict.{reading_by}
use Rattle.govlezna.proofs.govlezna_normalize_nmtokens.Goals as goal

pub returns : goal.returns
unfolding normalize_nmtokens_call reading_by
returns c = c.put.ensures _ ∙ c.checked_nmtokens.ensures
