-- `check_declaration` asks 8, then 9: each return is a law of Parts.antt about the declaration (`past_refused`, `ascii_passed`, `ill_refused`, `well_passed`).
use mathlib.Core.Path.{sym, ◌∙◌}
use Rattle.entity.proofs.Parts.{name_fits, text_fits}
use Rattle.tables.proofs.Parts.{past_refused, ill_refused, well_passed, ascii_passed}
use native.Mathlib.Omega.{arith}
use Rattle.tables.proofs.check_declaration.Goals as goal

-- refusal 8
pub returns-then-pool-name_end : goal.returns-then-pool-name_end
returns-then-pool-name_end c =
    let a = c.args in
    past_refused a.pool.now a.name.start a.name.length a.text.start a.text.length a.at (omega arith) c.if-pool-name_end.true

-- ASCII
pub returns-then-name_end-ascii : goal.returns-then-name_end-ascii
returns-then-name_end-ascii c =
    let a = c.args in
    ascii_passed a.pool.now a.name.start a.name.length a.text.start a.text.length a.at a.ascii c.requires c.if-pool-name_end.false
    c.if-name_end-ascii.true (omega arith) (omega arith)

pub slice_bounds-ill_formed-end : goal.slice_bounds-ill_formed-end
slice_bounds-ill_formed-end c =
    let a = c.args in
    name_fits a.pool.now a.name.start a.name.length a.text.start a.text.length c.if-pool-name_end.false

pub slice_bounds-ill_formed-end-2 : goal.slice_bounds-ill_formed-end-2
slice_bounds-ill_formed-end-2 c =
    let a = c.args in
    text_fits a.pool.now a.name.start a.name.length a.text.start a.text.length c.if-pool-name_end.false

-- refusal 9
pub returns-then-ill_formed : goal.returns-then-ill_formed
returns-then-ill_formed c =
    let a = c.args in
    ill_refused a.pool.now a.name.start a.name.length a.text.start a.text.length a.at (omega arith) c.if-pool-name_end.false
    (sym c.if-ill_formed.true ∙ c.ill_formed.ensures)

pub returns : goal.returns
returns c =
    let a = c.args in
    well_passed a.pool.now a.name.start a.name.length a.text.start a.text.length a.at c.if-pool-name_end.false (sym c.if-ill_formed.false ∙ c.ill_formed.ensures)
