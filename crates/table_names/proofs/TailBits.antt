-- What a UTF8-tail adds. Assumes nothing.
use mathlib.Core.Path.{◌≡◌}
use Rattle.std.specs.Prelude.{Some, None}
use mathlib.Core.Bool.{true, false}
use Prim.Native.Nat.{ℕ, ◌-◌}
use Rattle.text.specs.Bytes.{within}
use Rattle.table_names.specs.NameTerms.{tail_bits}

pub tail_is : (b : ℕ) → within 0x80 0xBF b ≡ true → tail_bits b ≡ Some (b - 0x80)
unfolding tail_bits
tail_is b t = rw t

pub tail_not : (b : ℕ) → within 0x80 0xBF b ≡ false → tail_bits b ≡ None
unfolding tail_bits
tail_not b t = rw t
