use Prim.Native.Nat.{◌-◌}
use Rattle.runs.specs.RunEnds.{is_amp}
use Rattle.runs.proofs.Blockwise.{Blockwise}
use Rattle.runs.proofs.amp.put_wide.Given as goal

abbrev pub invariant-loop-k : goal.invariant-loop-k
invariant-loop-k l = Blockwise is_amp l.text l.from l.room l.initial.out 0 l.out l.k

abbrev pub decreases-loop-k : goal.decreases-loop-k
decreases-loop-k l = l.room - l.k
