-- Past line ends one byte (`halt_past`), else the line end (`halt_lines`).
use Rattle.attribute.proofs.Blanks.{halt_past, halt_lines}
use Rattle.flat.proofs.blank_width.Goals as goal

pub returns-then-how-eq2 : goal.returns-then-how-eq2
returns-then-how-eq2 c =
    let a = c.args in
    halt_past a.text.now a.at c.requires.at_in_bounds.0 a.how c.requires.text_value.0 c.requires.text_value.1 c.if-how-eq2.true

pub returns : goal.returns
returns c =
    let a = c.args in
    halt_lines a.text.now a.at c.requires.at_in_bounds.0 a.how c.requires.text_value.0 c.requires.text_value.1 c.if-how-eq2.false c.eol_width.ensures
