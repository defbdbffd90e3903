use mathlib.Core.Path.{refl}
use Rattle.text.specs.Blocks.{misfit2}
use Rattle.text.proofs.validate.misplaced2.Goals as goal

pub returns : goal.returns
unfolding misfit2
returns c = refl
