-- `escapes` meets its contract: it is the definition. Assumes nothing.
use mathlib.Core.Path.{refl}
use Rattle.escape.specs.Scan.{escaped_by}
use Rattle.escape.proofs.escapes.Goals as goal

pub returns : goal.returns
unfolding escaped_by
returns c = refl
