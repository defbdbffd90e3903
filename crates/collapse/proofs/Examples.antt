-- K5's second stage and its tokens on short texts, computed. T is TAB, L is LF. Assumes nothing.
use mathlib.Core.Path.{◌≡◌, refl}
use mathlib.Core.List.{[], ◌∷◌}
use Rattle.utils.specs.CData.{part, no_more, outside_at}
use Rattle.collapse.specs.Collapse.{collapse, tokens}
use Rattle.collapse.specs.NextToken.{found, next_token}

-- `  a  b `, spaces alone, and ` L  T `, as references give them: only U+0020 counts
stage :
    (collapse (32 ∷ 32 ∷ 97 ∷ 32 ∷ 32 ∷ 98 ∷ 32 ∷ []) ≡ 97 ∷ 32 ∷ 98 ∷ [])
    × (collapse (32 ∷ 32 ∷ []) ≡ [])
    × (collapse (32 ∷ 10 ∷ 32 ∷ 32 ∷ 9 ∷ 32 ∷ []) ≡ 10 ∷ 32 ∷ 9 ∷ [])
    × (tokens (32 ∷ 97 ∷ 10 ∷ 98 ∷ 32 ∷ 32 ∷ 99 ∷ []) ≡ (97 ∷ 10 ∷ 98 ∷ []) ∷ (99 ∷ []) ∷ [])
unfolding collapse tokens
stage = (refl, refl, refl, refl)

-- `ab c` from 0, from inside a token, from after it, and from the end; a cut character; past the end
token :
    (next_token (97 ∷ 98 ∷ 32 ∷ 99 ∷ []) 0 ≡ found (part 0 2) 2)
    × (next_token (97 ∷ 98 ∷ 32 ∷ 99 ∷ []) 1 ≡ found (part 1 1) 2)
    × (next_token (97 ∷ 98 ∷ 32 ∷ 99 ∷ []) 2 ≡ found (part 3 1) 4)
    × (next_token (97 ∷ 98 ∷ 32 ∷ 99 ∷ []) 4 ≡ found no_more 4)
    × (next_token (97 ∷ 32 ∷ 32 ∷ []) 1 ≡ found no_more 1)
    × (next_token (0xC2 ∷ 0xBD ∷ []) 1 ≡ found (outside_at 1) 1)
    × (next_token [] 1 ≡ found (outside_at 1) 1)
unfolding next_token
token = (refl, refl, refl, refl, refl, refl, refl)
