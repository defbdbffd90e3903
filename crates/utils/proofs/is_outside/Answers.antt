-- `utils::is_outside` tests the offset; at the text's end no byte is read. Assumes nothing.
use mathlib.Core.Path.{sym}
use native.Mathlib.Omega.{arith}
use borrow.Author.Tests.{lt-ltb, le-ltb}
use Rattle.utils.specs.CData.{outside}
use Rattle.utils.proofs.Cuts.{at_end}
use Rattle.utils.proofs.is_outside.Goals as goal

pub returns-then-length-offset : goal.returns-then-length-offset
unfolding outside
returns-then-length-offset c = simp (lt-ltb _ _ c.if-length-offset.true)

pub returns-then-length-offset-2 : goal.returns-then-length-offset-2
returns-then-length-offset-2 c =
    let given = c.args in
    sym (at_end given.text.now given.offset (omega arith))

pub returns : goal.returns
unfolding outside
returns c = simp (le-ltb _ _ c.if-length-offset.false)
