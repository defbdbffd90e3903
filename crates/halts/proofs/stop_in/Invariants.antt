use Rattle.std.proofs.Common.{◌≡◌, take}
use Rattle.halts.specs.Halts.{any_stop, stop_byte}
use Rattle.halts.proofs.stop_in.Given as goal

abbrev pub invariant-loop-b : goal.invariant-loop-b
invariant-loop-b l = l.hit ≡ any_stop (stop_byte l.newer) (take l.b-index l.text)
