use mathlib.Core.Path.{refl}
use Rattle.text.specs.Blocks.{misfit}
use Rattle.text.proofs.validate.misplaced.Goals as goal

pub returns : goal.returns
unfolding misfit
returns c = refl
