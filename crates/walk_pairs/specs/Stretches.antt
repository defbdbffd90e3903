-- A walk of a text by the pairs of the texts inside it, good at a depth and at every greater one: terms in which code is proved. No promise of
-- a call rests on them. Assumes nothing.
use Rattle.std.specs.Prelude.{ℕ, ◌≤◌, ◌≡◌, List, []}
use Rattle.memory.specs.Levels.{Level, at_depth, left, Came, Opens}
use Rattle.walk_pairs.specs.Forecast.{Sum, summary}

-- it has come to `i`, at the depth `e` and at every greater one; nothing is written
abbrev pub Stretch : Level → ℕ → List ℕ → ℕ → ℕ → ℕ → Type 0
Stretch l e words i len made = (d : ℕ) → e ≤ d → Came (at_depth d l) [] [] 0 [] words i len made

-- it has come to a reference to the text of a command
abbrev pub AtReference : Level → ℕ → List ℕ → ℕ → ℕ → ℕ → ℕ → ℕ → ℕ → Type 0
AtReference l e words at next command slot len made = (d : ℕ) → e ≤ d → Opens (at_depth d l) [] [] 0 [] words at next command slot len made

-- it waits at one, without a memory: where a pair is 16, the walk goes on at the next depth from there
pub record Waiting (l : Level) (e next command len made : ℕ) : Type 0 where
  pub at : ℕ
  pub stands : AtReference l e [] at next command 0 len made

-- its outcome is summed up so, at the depth and at every greater one
abbrev pub Gives : Level → ℕ → Sum → Type 0
Gives l e pair = (d : ℕ) → e ≤ d → summary (left (at_depth d l) 0 0) ≡ pair
