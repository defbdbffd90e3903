-- The terms in which the code is proved to write as the definitions say. No promise of a call rests on these. Assumes nothing.
use Rattle.std.specs.Prelude.{◌≡◌, ℕ, ◌+◌, Bool, true, false, ◌&&◌, ◌||◌, List, eqb}
use Rattle.text.specs.Bytes.{pick}
use Rattle.halts.specs.Halts.{blanks_spaced}
use Rattle.escape.specs.Escape.{Replacements, Level, full, partial, minimal, attribute, reference, hex_reference}
use Rattle.escape.specs.declared.EscapeChars.{EscapeChars}

-- the bytes that are replaced: < & CR and what the flags name
unfoldable pub escaped_by : EscapeChars → ℕ → Bool
escaped_by chars b =
    (chars.blanks && (eqb b 10 || eqb b 9))
    || (chars.apos && eqb b 39)
    || (chars.quot && eqb b 34)
    || (chars.gt && eqb b 62)
    || eqb b 60
    || eqb b 38
    || eqb b 13

-- what is written for a byte, with hexadecimal numbers or decimal ones
unfoldable pub reference_by : Bool → ℕ → List ℕ
unfolding reference hex_reference
reference_by hex b = pick hex (hex_reference b) (reference b)

unfoldable pub chars_set : EscapeChars → Replacements
unfolding escaped_by reference_by
chars_set chars = record { picks = escaped_by chars; by = reference_by chars.hex }

-- how many bytes more than TAB is written for it
unfoldable pub tab_added : EscapeChars → ℕ
tab_added chars = pick chars.blanks 3 0 + pick (chars.blanks && chars.hex) 1 0

-- how many bytes more than the byte itself is written for it
unfoldable pub added_by : EscapeChars → ℕ → ℕ
unfolding tab_added
added_by chars b =
    pick (eqb b 60 || (eqb b 62 && chars.gt)) 3 0
    + pick (eqb b 38 || eqb b 13 || (eqb b 10 && chars.blanks)) 4 0
    + pick ((eqb b 39 && chars.apos) || (eqb b 34 && chars.quot)) 5 0
    + pick (eqb b 9) (tab_added chars) 0

-- the flags of each level
unfoldable pub level_chars : Level → EscapeChars
level_chars full = record { blanks = false; apos = true; quot = true; gt = true; hex = false }
level_chars partial = record { blanks = false; apos = false; quot = false; gt = true; hex = false }
level_chars minimal = record { blanks = false; apos = false; quot = false; gt = false; hex = false }
level_chars attribute = record { blanks = true; apos = true; quot = true; gt = true; hex = false }

-- ---- runs whose TAB and LF are copied as spaces, where these are wanted

abbrev pub shown_byte : Bool → ℕ → ℕ
shown_byte spaces b = pick (spaces && (eqb b 9 || eqb b 10)) 32 b

abbrev pub shown : Bool → List ℕ → List ℕ
shown false text = text
shown true text = blanks_spaced text

-- the flags leave both to be copied there
abbrev pub Shows : EscapeChars → Bool → Type 0
Shows chars spaces = spaces ≡ true → chars.blanks ≡ false
