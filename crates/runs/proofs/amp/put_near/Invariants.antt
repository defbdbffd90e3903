use Prim.Native.Nat.{◌-◌}
use Rattle.runs.specs.RunEnds.{is_amp}
use Rattle.runs.proofs.Puts.{Nearby}
use Rattle.runs.proofs.amp.put_near.Given as goal

abbrev pub invariant-loop-k : goal.invariant-loop-k
invariant-loop-k g l = Nearby is_amp l.text l.from g.row.N l.initial.out l.out l.k

abbrev pub decreases-loop-k : goal.decreases-loop-k
decreases-loop-k g l = g.row.N - l.k
