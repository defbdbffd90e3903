-- `govlezna_next_nmtoken` puts the answer of `checked_token` and stores the offset that it leaves (`offset_left`).
use mathlib.Core.Path.{◌∙◌}
use Rattle.govlezna.proofs.Lent.{offset_left}
use Rattle.govlezna.proofs.govlezna_next_nmtoken.Goals as goal

pub returns : goal.returns
returns c =
    let a = c.args in
    c.put.ensures _ ∙ offset_left a.text.now a.offset.now c.checked_token-moved.ensures
