-- The terms in which the canonical writer's code is proved, with those of runs/specs/Specials.antt. No promise of a call rests on these.
-- Assumes nothing.
use Rattle.std.specs.Prelude.{ℕ, Bool, ◌&&◌, ◌||◌, List, [], ◌∷◌, eqb, length}
use Rattle.text.specs.Bytes.{pick}
use Rattle.output.specs.Runs.{Plain}
use Rattle.escape.specs.Escape.{full}
use Rattle.escape.specs.Scan.{escaped_by, level_chars}

-- the reference for one of that width
abbrev pub special_reference : ℕ → List ℕ
special_reference width = pick (eqb width 2) (38 ∷ 35 ∷ 49 ∷ 51 ∷ 51 ∷ 59 ∷ []) (38 ∷ 35 ∷ 56 ∷ 50 ∷ 51 ∷ 50 ∷ 59 ∷ [])

-- the bytes that are written otherwise than as themselves or as a space, or, under 1.1, that may begin one that is
unfoldable pub changed_by : Bool → ℕ → Bool
unfolding escaped_by level_chars
changed_by newer b = escaped_by (level_chars full) b || (newer && (eqb b 0xC2 || eqb b 0xE2))

-- a run without them
abbrev pub Unchanged : Bool → List ℕ → Type 0
Unchanged newer run = Plain (changed_by newer) run 0 (length run)
