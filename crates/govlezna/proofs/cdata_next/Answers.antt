-- `cdata_next` leaves what `checked_piece` answers.
use mathlib.Core.Path.{◌∙◌}
use Rattle.govlezna.proofs.Lent.{cursor_left_lem}
use Rattle.govlezna.proofs.cdata_next.Goals as goal

pub returns : goal.returns
returns c = c.leave.ensures ∙ cursor_left_lem _ _ c.checked_piece-answered.ensures
