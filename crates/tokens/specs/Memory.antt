-- What a walk keeps of the references that it has met: the terms in which its loop is proved. Assumes nothing.
use Rattle.std.specs.Prelude.{ℕ, ◌+◌, ◌≤◌, ◌<◌, ◌≡◌, List, ◌++◌, length, get_or, take, drop}
use Rattle.output.specs.Over.{over}
use Rattle.tokens.specs.Tokens.{Stop, Heads, token_of}
use Rattle.tokens.specs.Outcome.{Outcome, done, produced}
use Rattle.tokens.specs.Walking.{head_at, next_at, outcome_of, step_of}
use Rattle.tokens.specs.Seen.{Met, met_at, next_place, seen_size, width_of, Matches}
use Rattle.tokens.specs.Walking.{Step}

-- how a text is walked: its heads, the answers to stops, the opening limit, and how many bytes a reference of a width may give that
-- makes so many openings
pub record Walk : Type 0 where
  pub at : Heads
  pub answer : Stop → ℕ → Outcome
  pub limit : ℕ
  pub most : ℕ → ℕ → ℕ

-- what becomes of the token at an offset
abbrev pub given : Walk → List ℕ → ℕ → ℕ → Outcome
given w text e n = outcome_of w.answer (token_of (head_at w.at text e)) n

-- what is kept of a reference holds of every one with the same bytes
pub record Stands (w : Walk) (text value : List ℕ) (m : Met) : Type 0 where
  pub low : m.shift < 64
  pub inside : m.start + m.count ≤ length value
  pub few : m.opened ≤ w.limit
  pub small : m.count ≤ w.most (width_of m) m.opened
  pub next : (e : ℕ) → get_or text e 0 ≡ 38 → Matches text e m → next_at w.at text e ≡ e + width_of m
  pub again : (e : ℕ) → get_or text e 0 ≡ 38 → Matches text e m → (n : ℕ) → n + m.opened ≤ w.limit
      → given w text e n ≡ done (take m.count (drop m.start value)) (n + m.opened)

pub record Memory (w : Walk) (text seen value : List ℕ) : Type 0 where
  pub size : length seen ≡ seen_size
  pub place : next_place seen < 4
  pub each : (k : ℕ) → k < 4 → Stands w text value (met_at seen k)

-- a single step at `i`, after a value that lies over what the output held
pub record Advanced (w : Walk) (text : List ℕ) (i openings : ℕ) (value whole seen new : List ℕ) (r : Step) : Type 0 where
  pub answers : r ≡ step_of (next_at w.at text i) (given w text i openings)
  pub writes : new ≡ over (value ++ produced (given w text i openings)) whole
  pub keeps : (more : List ℕ) (made : ℕ) → given w text i openings ≡ done more made → Memory w text seen (value ++ more)
