-- the first k bytes of the run are laid over the output
use Rattle.std.proofs.Common.{◌≡◌, take}
use Rattle.text.specs.Call.{laid}
use Rattle.output.proofs.put_run.Given as goal

abbrev pub invariant-loop-k : goal.invariant-loop-k
invariant-loop-k l = l.out ≡ laid (take l.k l.src) l.initial.out
