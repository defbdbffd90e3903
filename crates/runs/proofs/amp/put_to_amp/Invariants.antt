use Prim.Native.Nat.{◌+◌, ◌-◌}
use Rattle.runs.specs.RunEnds.{is_amp}
use Rattle.runs.proofs.Blockwise.{Blocks, Blockwise}
use Rattle.runs.proofs.amp.put_to_amp.Given as goal

abbrev pub invariant-loop-k : goal.invariant-loop-k
invariant-loop-k l = record {
  begun : Blocks is_amp l.text l.from l.fn.out l.initial.out (l.from + l.initial.k) l.initial.k;
  blocks : Blockwise is_amp l.text l.from l.room l.initial.out l.initial.k l.out l.k;
}

abbrev pub decreases-loop-k : goal.decreases-loop-k
decreases-loop-k l = l.room - l.k
