-- The cycle: what the step and the walker are asked, and what a text at depth 0 gives. Terms in which code is proved; no promise of a call
-- rests on them. Assumes nothing.
use Rattle.std.specs.Prelude.{ℕ, ◌+◌, ◌≤◌, ◌<◌, ◌≡◌, ◌≢◌, List, length, take}
use Rattle.tokens.specs.Outcome.{Outcome, done, refused}
use Rattle.tokens.specs.Walking.{step_of}
use Rattle.tokens.specs.Walking.{Step}
use Rattle.attribute.specs.Walk.{Settings, walk}
use Rattle.attribute.specs.Steps.{heads_by, read_by}
use Rattle.memory.specs.Slots.{shaped, shaped_in}
use Rattle.memory.specs.Levels.{settings_of, inner_level, Fitted, Lent}
use Rattle.memory.specs.declared.Reading.{Reading}
use Rattle.memory.specs.declared.Place.{Place}

-- ---- a text at depth 0

pub record Bottom (form : ℕ) (o : Outcome) (next : ℕ) (old new : List ℕ) (r : Step) : Type 0 where
  pub answers : r ≡ step_of next (shaped_in form o)
  pub buffer : length new ≡ length old
  pub fitted : (value : List ℕ) (made : ℕ) → o ≡ done value made → Fitted (shaped form value) old new

-- a character at `r` may not stand there, and no stop comes before it; or, at the end, such a character has no say
pub record BottomFault (how guard : ℕ) (text : List ℕ) (r : ℕ) : Type 0 where
  pub barred : r ≢ length text → (s : Settings) (n : ℕ) → walk s (read_by how guard) 0 text n ≡ refused (take r text) n 26 r 0
  pub other : r ≡ length text → (s : Settings) (n : ℕ) → walk s (read_by how guard) 0 text n ≡ walk s (heads_by how) 0 text n

-- ---- what the two functions are asked

-- the step: a depth and an opening are left, and the memory is there
pub record Openable (r : Reading) (p : Place) (words : List ℕ) : Type 0 where
  pub deep : r.depth ≢ 0
  pub few : p.openings < r.limit
  pub most : r.limit ≤ 1000000
  pub full : 84 ≤ length words

-- where the walk of the text begins that the step opens, and what it is lent
abbrev pub inner_start : Place → Place
inner_start p = record { at = 0; len = 0; openings = p.openings + 1 }

abbrev pub LentInner : Reading → Place → ℕ → List ℕ → List ℕ → List ℕ → List ℕ → Type 0
LentInner r p command list pool out words =
    Lent (inner_level (settings_of r list pool) r.form list pool r.depth command) (r.base + p.len) out words (inner_start p)

-- the walker
pub record Walkable (r : Reading) (text : List ℕ) : Type 0 where
  pub deep : r.depth ≢ 0
  pub most : r.limit ≤ 1000000
  pub short : length text ≤ 16777216
