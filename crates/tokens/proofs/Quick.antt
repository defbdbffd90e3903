-- A character reference whose digits end at the `;` by themselves. Assumes nothing.
use mathlib.Core.Path.{◌≡◌}
use mathlib.Core.Logic.{◌≢◌}
use mathlib.Core.List.{List}
use Prim.Native.Nat.{ℕ, ◌+◌, ◌<◌}
use lib.ListN.{length, get_or}
use Rattle.std.specs.Prelude.{Option, Some, None, IfSome}
use Rattle.charref.specs.Reading.{Found, Quickly}
use Rattle.charref.specs.declared.Quick.{Quick}

-- what is read after the `#` is read of the reference
pub started : (text : List ℕ) (from : ℕ) (r : Option Quick) → from < length text → get_or text from 0 ≡ 35 → Quickly text (from + 1) r
    → IfSome r (λ q. (q.c ≢ 0) × (from < length text) × (get_or text from 0 ≡ 35) × Found text (from + 1) q)
started text from (Some q) inside hash q' = (q'.0, inside, hash, q'.1)
started text from None inside hash q = tt
