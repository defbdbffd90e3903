-- `utils::cdata_step` is the definition's step, case by case. Assumes nothing.
use native.Mathlib.Omega.{arith}
use mathlib.Core.Path.{◌≡◌, sym, ◌∙◌}
use mathlib.Core.Bool.{false}
use Rattle.utils.specs.CData.{outside}
use Rattle.utils.proofs.Cuts.{inside_le, step_outside, step_finished, step_last, step_cut}
use Rattle.utils.proofs.cdata_step.Goals as goal
use Rattle.utils.proofs.cdata_step.Goals.{Else-is_outside}

inside : (c : Else-is_outside) → outside c.args.text.now c.args.cursor.offset ≡ false
inside c = sym c.is_outside.ensures ∙ c.if-is_outside.false

pub returns-then-is_outside : goal.returns-then-is_outside
returns-then-is_outside c =
    let given = c.args in
    step_outside given.text.now given.cursor (sym c.is_outside.ensures ∙ c.if-is_outside.true)

pub returns-then-cursor-ne0 : goal.returns-then-cursor-ne0
returns-then-cursor-ne0 c =
    let given = c.args in
    step_finished given.text.now given.cursor (inside (goal.at.returns-then-cursor-ne0 c).Else-is_outside) c.if-cursor-ne0.true

pub piece_end-end-requires : goal.piece_end-end-requires
piece_end-end-requires c =
    let given = c.args in
    omega (arith, inside_le given.text.now given.cursor.offset (inside (goal.at.piece_end-end-requires c).Else-is_outside))

pub returns-then-end-text : goal.returns-then-end-text
returns-then-end-text c =
    let given = c.args in
    step_last given.text.now given.cursor (inside (goal.at.returns-then-end-text c).Else-is_outside) c.if-cursor-ne0.false c.piece_end-end.result c.piece_end-end.ensures c.if-end-text.true

pub returns : goal.returns
returns c =
    let given = c.args in
    step_cut given.text.now given.cursor (inside (goal.at.returns c).Else-is_outside) c.if-cursor-ne0.false c.piece_end-end.result c.piece_end-end.ensures c.if-end-text.false
