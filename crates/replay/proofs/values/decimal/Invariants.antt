use Rattle.std.proofs.Common.{◌≡◌, ◌^◌, ◌<◌, take}
use Rattle.io.specs.Digits.{last_digits}
use Rattle.replay.proofs.values.decimal.Given as goal

abbrev pub invariant-loop-b : goal.invariant-loop-b
invariant-loop-b l = (l.n < 10 ^ l.b-index) × (last_digits 10 l.b-index l.n ≡ take l.b-index l.field)
