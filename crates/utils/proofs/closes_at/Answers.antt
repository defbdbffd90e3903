-- `utils::closes_at` tests three bytes. Assumes nothing.
use mathlib.Core.Path.{refl}
use Rattle.utils.specs.Blocks.{closes_at}
use Rattle.utils.proofs.closes_at.Goals as goal

pub returns : goal.returns
unfolding closes_at
returns c = refl
