use mathlib.Core.Path.{sym, ◌∙◌}
use Rattle.eols.proofs.LineEnds.{step_copies, step_ends}
use Rattle.eols.proofs.normalize_eol_step.Goals as goal

pub returns-then-width-eq0 : goal.returns-then-width-eq0
returns-then-width-eq0 c =
    step_copies _ _ _ c.requires (sym c.if-width-eq0.true ∙ c.eol_width-width.ensures)

pub returns : goal.returns
returns c =
    step_ends _ _ _ _ c.requires c.if-width-eq0.false c.eol_width-width.ensures
