-- The sets as flags: the terms in which the code is proved. No promise of a call rests on these. Assumes nothing.
use Rattle.std.specs.Prelude.{Bool, true, false}
use Rattle.escape.specs.declared.EscapeChars.{EscapeChars}

-- of attribute values, or of text
unfoldable pub c14n_chars : Bool → EscapeChars
c14n_chars true = record { blanks = true; apos = false; quot = true; gt = false; hex = true }
c14n_chars false = record { blanks = false; apos = false; quot = false; gt = true; hex = true }
