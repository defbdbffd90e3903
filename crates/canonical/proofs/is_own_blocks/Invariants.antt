use Prim.Native.Nat.{◌-◌}
use lib.ListN.{length}
use Rattle.output.specs.Runs.{Plain}
use Rattle.canonical.specs.Runs.{changed_by}
use Rattle.canonical.proofs.is_own_blocks.Given as goal

abbrev pub invariant-loop-newer : goal.invariant-loop-newer
invariant-loop-newer g l = Plain (changed_by l.newer) l.run 0 l.i

abbrev pub decreases-loop-newer : goal.decreases-loop-newer
decreases-loop-newer g l = length l.run - l.i
