-- `space_width`: SPACE and TAB by themselves (`white_blank`), all else by whether a line end stands there (`white_line`).
use Rattle.table_values.proofs.WhiteSpace.{white_blank, white_line}
use Rattle.table_values.proofs.space.space_width.Goals as goal

pub returns-then-b : goal.returns-then-b
returns-then-b c = white_blank _ _ _ c.requires c.if-b.true

pub returns : goal.returns
returns c = white_line _ _ _ c.requires _ c.if-b.false c.eol_width.ensures
