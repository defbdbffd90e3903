use Rattle.std.proofs.Common.{◌≡◌, length, take}
use Rattle.std.specs.List.{flat_map}
use Rattle.replay.specs.Values.{hex_of}
use Rattle.replay.proofs.values.decode_pairs.Given as goal

abbrev pub invariant-loop-i : goal.invariant-loop-i
invariant-loop-i l = (length l.out ≡ length l.initial.out) × (hex_of (take l.i l.out) ≡ flat_map (λ p. p) (take l.i l.pairs))
