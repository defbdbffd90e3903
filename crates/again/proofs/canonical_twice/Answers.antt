-- `canonical_twice`: a refusal of the first call is the answer (`canonical_stops`); else its form lies in the first bytes of `out`
-- (`canonical_fits`), and what the second call leaves is that form (`canonical_read`).
use Rattle.demands.specs.Demands.{Asked}
use Rattle.demands.proofs.Again.{asked, canonical_stops, canonical_fits, canonical_read, taken_size}
use Rattle.again.proofs.canonical_twice.Goals as goal
use Rattle.again.proofs.canonical_twice.Goals.{After-govlezna_canonical_form-number}

abbrev first_asked : After-govlezna_canonical_form-number → Asked
first_asked c =
    let a = c.args in
    asked a.text.now a.version a.depth a.limit a.list.now a.pool.now

pub returns-then-number-ne0 : goal.returns-then-number-ne0
returns-then-number-ne0 c =
    let a = c.args in
    canonical_stops (first_asked (goal.at.returns-then-number-ne0 c).After-govlezna_canonical_form-number) a.scratch.now a.out.now a.again.now c.govlezna_canonical_form-number.ensures c.if-number-ne0.true

pub slice_bounds-govlezna_canonical_form-end : goal.slice_bounds-govlezna_canonical_form-end
slice_bounds-govlezna_canonical_form-end c =
    let a = c.args in
    canonical_fits (first_asked (goal.at.slice_bounds-govlezna_canonical_form-end c).After-govlezna_canonical_form-number) a.scratch.now a.out.now a.again.now c.govlezna_canonical_form-number.ensures c.if-number-ne0.false

pub slice_bounds-govlezna_canonical_form-end-2 : goal.slice_bounds-govlezna_canonical_form-end-2
slice_bounds-govlezna_canonical_form-end-2 c =
    let a = c.args in
    taken_size _ _ (canonical_fits (first_asked (goal.at.slice_bounds-govlezna_canonical_form-end-2 c).After-govlezna_canonical_form-number) a.scratch.now a.out.now a.again.now c.govlezna_canonical_form-number.ensures c.if-number-ne0.false)

pub returns : goal.returns
returns c =
    let a = c.args in
    canonical_read (first_asked (goal.at.returns c).After-govlezna_canonical_form-number) a.scratch.now a.out.now a.again.now c.govlezna_canonical_form-number.ensures c.if-number-ne0.false
    c.govlezna_canonical_form.ensures
