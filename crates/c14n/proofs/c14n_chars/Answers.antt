-- `c14n_chars` meets its contract: the flags of each set. Assumes nothing.
use mathlib.Core.Path.{ap, sym}
use Rattle.c14n.specs.Flags.{c14n_chars}
use Rattle.c14n.proofs.c14n_chars.Goals as goal

pub returns-then-attribute : goal.returns-then-attribute
unfolding c14n_chars
returns-then-attribute c = sym (ap c14n_chars c.if-attribute.true)

pub returns : goal.returns
unfolding c14n_chars
returns c = sym (ap c14n_chars c.if-attribute.false)
