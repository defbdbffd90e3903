use lib.ListN.{length}
use Prim.Native.Nat.{◌-◌}
use Rattle.entity.specs.Steps.{Agree, Here}
use Rattle.entity.proofs.resolve_short.Given as goal

abbrev pub invariant-bytes : goal.invariant-bytes
invariant-bytes l = Agree l.pool l.from l.name l.k

abbrev pub decreases-bytes : goal.decreases-bytes
decreases-bytes l = length l.name - l.k

abbrev pub invariant-commands : goal.invariant-commands
invariant-commands l = Here l.list l.pool l.name l.at

abbrev pub decreases-commands : goal.decreases-commands
decreases-commands l = length l.list - l.at
