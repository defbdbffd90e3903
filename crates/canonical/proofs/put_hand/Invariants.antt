use Rattle.std.proofs.Common.{◌≡◌, take}
use Rattle.text.specs.Call.{laid}
use Rattle.canonical.proofs.put_hand.Given as goal

abbrev pub invariant-loop-k : goal.invariant-loop-k
invariant-loop-k l = l.scratch ≡ laid (take l.k l.b-items) l.initial.scratch
