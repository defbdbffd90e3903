-- Where runs end, over any test for the bytes at which a run stops: the terms in which searches and the copies made while searching are
-- proved. No promise of a call rests on them; theorems of K9 rest on `is_amp`. Assumes nothing.
use Rattle.std.specs.Prelude.{ℕ, ◌-◌, ◌<◌, ◌≡◌, Bool, true, ◌&&◌, ◌||◌, List, eqb, length, get_or, take, drop}
use Rattle.output.specs.Over.{over}
use Rattle.output.specs.Runs.{Plain}

-- no stop from `i` up to `e`, and at `e` there is a stop or the text's end
pub record RunEnd (stops : ℕ → Bool) (text : List ℕ) (i e : ℕ) : Type 0 where
  pub run : Plain stops text i e
  pub ends : e < length text → stops (get_or text e 0) ≡ true

-- the bytes from `i` up to `e` are written at the output's start, as many as there is room for
abbrev pub Put : List ℕ → ℕ → ℕ → List ℕ → List ℕ → Type 0
Put text i e old new = new ≡ over (take (e - i) (drop i text)) old

-- ---- the sets of stops

-- One byte
abbrev pub byte_stop : ℕ → ℕ → Bool
byte_stop b c = eqb c b

-- Unescaping: the one byte at which a run ends
abbrev pub is_amp : ℕ → Bool
is_amp b = eqb b 38

-- Line ends: the bytes at which one other than LF may start
abbrev pub line_stop : Bool → ℕ → Bool
line_stop newer b = eqb b 13 || (newer && (eqb b 0xC2 || eqb b 0xE2))
