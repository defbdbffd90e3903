-- The bytes of a text from an index on. Assumes nothing.
use mathlib.Core.Path.{◌≡◌}
use Prim.Native.Nat.{ℕ, ◌+◌, ◌-◌, ◌<◌}
use native.Mathlib.Omega.{arith}
use native.Mathlib.Numerals.{add-one}
use mathlib.Core.List.{List, ◌∷◌}
use lib.ListN.{length, take, drop, get_or, length-drop}
use lib.Seq.{take_all, drop-cons}

pub byte_first : (t : List ℕ) (i : ℕ) → i < length t → drop i t ≡ get_or t i 0 ∷ drop (i + 1) t
byte_first t i h = rw (add-one i, drop-cons t i 0 h)

-- lent on as `&text[n..]`
pub rest : (t : List ℕ) (n : ℕ) → take (length t - n) (drop n t) ≡ drop n t
rest t n = take_all (length t - n) (drop n t) (omega (arith, length-drop n t))
