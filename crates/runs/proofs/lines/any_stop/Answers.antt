-- `any_stop`: under XML 1.1 a byte that neither test finds is no stop.
use mathlib.Core.Path.{◌≡◌}
use mathlib.Core.Bool.{Bool, true, false}
use Prim.Native.Nat.{ℕ}
use lib.Dec.{eqb}
use Rattle.text.proofs.Bytes.{or_left}
use Rattle.output.specs.Runs.{either_byte}
use Rattle.output.proofs.Runs.{plain_both}
use Rattle.runs.specs.RunEnds.{line_stop}
use Rattle.runs.proofs.lines.any_stop.Goals as goal

none : (newer : Bool) (b : ℕ) → either_byte 13 13 b ≡ false → either_byte 0xC2 0xE2 b ≡ false → line_stop newer b ≡ false
none true b p q = rw (or_left (eqb b 13) (eqb b 13) p) q
none false b p q = rw (or_left (eqb b 13) (eqb b 13) p)

pub returns-then-newer : goal.returns-then-newer
returns-then-newer c =
    λ e. plain_both _ (none c.args.newer) (c.any_of.ensures c.if-any_of.false) (c.any_of-then-newer.ensures e)
