-- The terms in which the reading of character numbers is proved: the rules by number, and digits read up to the `;`. Assumes nothing.
use Rattle.std.specs.Prelude.{Option, Some, None, ℕ, zero, suc, ◌-◌, ◌≤◌, ◌<◌, ◌≡◌, ◌≢◌, List, length, get_or, take, drop}
use Rattle.text.specs.Version.{xml10, xml11}
use Rattle.charref.specs.CharRef.{in_base, char_number, any_character, only_char}
use Rattle.charref.specs.CharNumbers.{Value, CharNumber, Char}
use Rattle.charref.specs.declared.Quick.{Quick}

-- which characters a number may name, by the code's number: all, those of XML 1.0, those of XML 1.1
abbrev pub legal_by : ℕ → ℕ → CharNumber
legal_by zero = any_character
legal_by (suc zero) = only_char xml10
legal_by (suc (suc rule)) = only_char xml11

-- the first `;` from `from` on is at `end`, and no `&` comes before it
pub record Closed (text : List ℕ) (from end : ℕ) : Type 0 where
  pub past : from ≤ end
  pub inside : end < length text
  pub semicolon : get_or text end 0 ≡ 59
  pub none : (k : ℕ) → from ≤ k → k < end → (get_or text k 0 ≢ 59) × (get_or text k 0 ≢ 38)

-- Character numbers: the digits from `from` up to the `;` write a number below the surrogates
pub record Written (base : ℕ) (text : List ℕ) (from : ℕ) (q : Quick) : Type 0 where
  pub closed : Closed text from q.end
  pub number : in_base base (take (q.end - from) (drop from text)) ≡ Value q.c
  pub low : q.c ≤ 0xD7FF

-- Character numbers: the text after `#`, which starts at `from`, is that of a character below the surrogates
pub record Found (text : List ℕ) (from : ℕ) (q : Quick) : Type 0 where
  pub closed : Closed text from q.end
  pub character : char_number any_character (take (q.end - from) (drop from text)) ≡ Char q.c
  pub low : q.c ≤ 0xD7FF

-- of none nothing is said
abbrev pub Quickly : List ℕ → ℕ → Option Quick → Type 0
Quickly text from (Some q) = (q.c ≢ 0) × Found text from q
Quickly text from None = Unit {0}
