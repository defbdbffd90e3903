use mathlib.Core.Path.{refl}
use Rattle.text.specs.Blocks.{misfit3}
use Rattle.text.proofs.validate.misplaced3.Goals as goal

pub returns : goal.returns
unfolding misfit3
returns c = refl
