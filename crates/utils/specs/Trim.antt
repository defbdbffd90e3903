-- Trimming (document 01, Trimming): the part that is left, as its start and its length. Assumes nothing.
use Rattle.std.specs.Prelude.{ℕ, suc, ◌-◌, Bool, ◌||◌, List, [], ◌∷◌, reverse, length, take, drop, eqb}
use Rattle.text.specs.Bytes.{pick}
use Rattle.utils.specs.declared.Part.{Part}

-- Trimming: space, TAB, CR, LF
abbrev pub is_whitespace : ℕ → Bool
is_whitespace b = eqb b 32 || eqb b 9 || eqb b 13 || eqb b 10

-- Trimming: how many bytes of white space the text begins with
unfoldable pub blanks : List ℕ → ℕ
blanks [] = 0
blanks (b ∷ bs) = pick (is_whitespace b) (suc (blanks bs)) 0

-- Trimming: of blanks alone the start is the text's length
unfoldable pub trim_start : List ℕ → Part
unfolding blanks
trim_start text = record { start = blanks text; length = length text - blanks text }

-- Trimming: of blanks alone the start is 0
unfoldable pub trim_end : List ℕ → Part
unfolding blanks
trim_end text = record { start = 0; length = length text - blanks (reverse text) }

-- Trimming: the end of what `trim_start` leaves is trimmed, so of blanks alone the start is the text's length
unfoldable pub trim_spaces : List ℕ → Part
unfolding trim_end
trim_spaces text = record { start = blanks text; length = (trim_end (drop (blanks text) text)).length }

-- the bytes of a part
abbrev pub part_of : List ℕ → Part → List ℕ
part_of text part = take part.length (drop part.start text)
