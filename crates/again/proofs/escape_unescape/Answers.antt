-- `escape_unescape`: a refusal of the first call is the answer (`escape_stops`); else the form lies in the first bytes of `out`
-- (`escape_fits`), and what the second call leaves is the text (`escape_read`).
use Rattle.demands.proofs.Again.{escape_stops, escape_fits, escape_read, taken_size}
use Rattle.again.proofs.escape_unescape.Goals as goal

pub returns-then-number-ne0 : goal.returns-then-number-ne0
returns-then-number-ne0 c =
    let a = c.args in
    escape_stops a.text.now a.level a.out.now a.back.now c.govlezna_escape-number.ensures c.if-number-ne0.true

pub slice_bounds-govlezna_unescape-end : goal.slice_bounds-govlezna_unescape-end
slice_bounds-govlezna_unescape-end c =
    let a = c.args in
    escape_fits a.text.now a.level a.out.now a.back.now c.govlezna_escape-number.ensures c.if-number-ne0.false

pub slice_bounds-govlezna_unescape-end-2 : goal.slice_bounds-govlezna_unescape-end-2
slice_bounds-govlezna_unescape-end-2 c =
    let a = c.args in
    taken_size _ _ (escape_fits a.text.now a.level a.out.now a.back.now c.govlezna_escape-number.ensures c.if-number-ne0.false)

pub returns : goal.returns
returns c =
    let a = c.args in
    escape_read a.text.now a.level a.out.now a.back.now c.govlezna_escape-number.ensures c.if-number-ne0.false c.govlezna_unescape.ensures
