-- Pairs read back, and used where openings were made before: terms in which code is proved. No promise of a call rests on them.
-- Assumes nothing.
use Rattle.std.specs.Prelude.{ℕ, zero, suc, ◌+◌, ◌-◌, List, [], ◌∷◌, eqb, leb}
use Rattle.text.specs.Bytes.{pick}
use Rattle.entity.specs.Table.{Body, outside, Declaration}
use Rattle.walk_pairs.specs.Forecast.{Sum, sized, fails}

-- a pair where n openings were made before: more than the limit allows are 17 where the limit is reached
unfoldable pub placed : ℕ → ℕ → Sum → Sum
placed limit n (sized len openings) = pick (leb (n + openings) limit) (sized len (n + openings)) (fails 17 limit)
placed limit n (fails number openings) =
    pick (eqb number 17) (fails 17 limit) (pick (leb (n + openings) limit) (fails number (n + openings)) (fails 17 limit))

-- a pair from its words
unfoldable pub from_words : ℕ → ℕ → Sum
from_words a b = pick (eqb b 1000001) (fails 17 1000000) (pick (leb 9223372036854775808 a) (fails (a - 9223372036854775808) b) (sized a b))

-- what the definition with so many before it gives its name
abbrev pub nth_body : List Declaration → ℕ → Body
nth_body [] k = outside
nth_body (d ∷ ds) zero = d.body
nth_body (d ∷ ds) (suc k) = nth_body ds k
