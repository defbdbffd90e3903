-- `govlezna_c14n_text` answers as `c14n` does.
use mathlib.Core.Path.{◌∙◌}
use Rattle.govlezna.specs.Calls.{c14n_text_call}
use Rattle.govlezna.proofs.govlezna_c14n_text.Goals as goal

pub returns : goal.returns
unfolding c14n_text_call
returns c = c.put.ensures _ ∙ c.c14n.ensures
