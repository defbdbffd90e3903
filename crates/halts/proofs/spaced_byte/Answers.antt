-- `spaced_byte`: at most one of the two gains is added, and makes a space of TAB or LF. Assumes nothing.
use mathlib.Core.Path.{refl}
use Rattle.halts.proofs.Spaces.{gains_spaced}
use Rattle.halts.proofs.spaced_byte.Goals as goal

pub returns : goal.returns
returns c = gains_spaced c.args.b 23 22 c.gain.ensures c.gain-2.ensures refl refl
