use Rattle.charref.specs.Chars.{is_char}
use Rattle.charref.proofs.is_char.Goals as goal

pub returns-then-newer : goal.returns-then-newer
unfolding is_char
returns-then-newer c = rw c.if-newer.true

pub returns : goal.returns
unfolding is_char
returns c = rw c.if-newer.false
