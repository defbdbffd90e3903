-- The terms in which unescaping is proved: what one step gives and how far it goes. Assumes nothing.
use Rattle.std.specs.Prelude.{ℕ, ◌≤◌, ◌<◌, ◌≡◌, ◌≢◌, List, length}
use Rattle.entity.specs.Binding.{Bound}
use Rattle.table_index.specs.Index.{Ready}
use Rattle.tokens.specs.Tokens.{token_of}
use Rattle.tokens.specs.Outcome.{Outcome, done, refused}
use Rattle.tokens.specs.Walking.{head_at, next_at, outcome_of, Stepped}
use Rattle.tokens.specs.Memory.{Walk}
use Rattle.tokens.specs.Walking.{Step}
use Rattle.tokens.specs.Walking.{Next, Stopped}
use Rattle.unescape.specs.Unescape.{text_head, copied, replaced}

-- Entity table: a text is at most 65,535 bytes; Unescaping: it is not opened
abbrev pub Short : Outcome → Type 0
Short (done value openings) = (length value ≤ 65535) × (openings ≡ 0)
Short (refused before openings number first second) = Unit {0}

-- a step goes on inside the text
abbrev pub Near : List ℕ → ℕ → Step → Type 0
Near text i (Next at len openings) = (i < at) × (at ≤ length text) × (len ≤ 65535) × (openings ≡ 0)
Near text i (Stopped number first second) = Unit {0}

-- the step at a name that is so bound, whose `&` is at `i`
pub record Named (bound : Bound) (name : List ℕ) (i next : ℕ) (old new : List ℕ) (r : Step) : Type 0 where
  pub step : Stepped next (copied i name bound 0) old new r
  pub short : Short (copied i name bound 0)

-- the step at the `&` at `i`
pub record Referred (bind : List ℕ → Bound) (text : List ℕ) (i : ℕ) (old new : List ℕ) (r : Step) : Type 0 where
  pub step : Stepped (next_at text_head text i) (outcome_of (replaced bind) (token_of (head_at text_head text i)) 0) old new r
  pub near : Near text i r

-- how a text is unescaped: nothing is opened, and a value is a character or a text of the table
abbrev pub unescaping : (List ℕ → Bound) → Walk
unescaping bind = record { at = text_head; answer = replaced bind; limit = 0; most = λ width opened. 65535 }

-- the words of an index, lent to a walk: there are some
pub record Lent (list pool words : List ℕ) : Type 0 where
  pub some : length words ≢ 0
  pub ready : Ready list pool words
