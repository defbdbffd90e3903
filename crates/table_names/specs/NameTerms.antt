-- The terms in which names are proved; no promise of a call rests on them. A place of the text as it is handed over stands for what is left of
-- the text after line ends from there on. Assumes nothing.
use Rattle.std.specs.Prelude.{◌≡◌, Bool, List, ℕ, ◌-◌, drop, Option, Some, None}
use Rattle.text.specs.Bytes.{pick, within}
use Rattle.eols.specs.LineEnds.{eols_from}
use Rattle.eols.specs.Stops.{rule_for}
use Rattle.table_names.specs.NameChars.{is_name_start, is_name_char, char_width}

-- what is left of the text after line ends, from a place of the text as it is handed over
abbrev pub left : Bool → List ℕ → ℕ → List ℕ
left newer t i = eols_from (rule_for newer) 0 (drop i t)

-- what a UTF8-tail adds to its character's number
unfoldable pub tail_bits : ℕ → Option ℕ
tail_bits b = pick (within 0x80 0xBF b) (Some (b - 0x80)) None

-- the width of a character of that number, where there is one and it passes the test; else 0
abbrev pub width_of : (ℕ → Bool) → Option ℕ → ℕ → ℕ
width_of test None k = 0
width_of test (Some n) k = pick (test n) k 0

-- the character of k bytes at `i` by its number. A surrogate or what is beyond U+10FFFF is none; no name has it, so that it may be told by a number.
abbrev pub Numbered : List ℕ → ℕ → ℕ → Option ℕ → Type 0
Numbered t i k number = (first : Bool) → width_of (pick first is_name_start is_name_char) number k ≡ char_width (pick first is_name_start is_name_char) (drop i t)
