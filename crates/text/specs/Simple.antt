-- Texts that stand for themselves: printable ASCII without `&`. Such a text is well-formed UTF-8 and has no stop of any reading. Terms in
-- which code is proved; no promise of a call rests on them. Assumes nothing.
use Rattle.std.specs.Prelude.{ℕ, ◌≤◌, ◌<◌, ◌≡◌, Bool, false, ◌||◌, List, eqb, ltb, length, get_or}

-- outside of 20 to 7E, or `&`
abbrev pub special : ℕ → Bool
special b = ltb b 32 || ltb 126 b || eqb b 38

-- no byte from `i` up to `e` is special
pub record SimplePart (text : List ℕ) (i e : ℕ) : Type 0 where
  pub to : e ≤ length text
  pub each : (k : ℕ) → i ≤ k → k < e → special (get_or text k 0) ≡ false

-- no byte of the text is
abbrev pub Simple : List ℕ → Type 0
Simple text = SimplePart text 0 (length text)
