use Rattle.std.proofs.Common.{◌≡◌, false}
use Rattle.output.specs.Runs.{Plain}
use Rattle.canonical.specs.Runs.{changed_by}
use Rattle.canonical.proofs.any_changed.Given as goal

abbrev pub invariant-loop-b : goal.invariant-loop-b
invariant-loop-b l = l.any ≡ false → Plain (changed_by l.newer) l.block 0 l.b-index
