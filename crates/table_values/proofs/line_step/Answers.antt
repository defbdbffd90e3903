-- `line_step`: the byte stands for itself where no line end starts (`line_kept`), else the line end for an LF (`line_ended`).
use native.Mathlib.Omega.{arith}
use Rattle.table_values.proofs.LeftPlaces.{ended_inside}
use Rattle.table_values.proofs.EntityValues.{line_kept, line_ended, meets_put}
use Rattle.table_values.proofs.line_step.Goals as goal

pub returns-then-width-eq0 : goal.returns-then-width-eq0
returns-then-width-eq0 c =
    meets_put c.put_byte.ensures (line_kept c.args.quote c.args.newer c.args.text.now c.args.i c.eol_width-width.result
    c.args.out.now c.requires.0 c.requires.1 c.requires.2 c.if-width-eq0.true c.eol_width-width.ensures)

pub overflow_add-result-2 : goal.overflow_add-result-2
overflow_add-result-2 c =
    omega (arith, ended_inside c.args.newer c.args.text.now c.args.i c.eol_width-width.result c.requires.0 c.if-width-eq0.false c.eol_width-width.ensures)

pub returns : goal.returns
returns c =
    meets_put c.put_byte-2.ensures
    (line_ended c.args.quote c.args.newer c.args.text.now c.args.i c.eol_width-width.result c.args.out.now c.requires.0 c.if-width-eq0.false c.eol_width-width.ensures)
