-- Where a value may be cut so that the forms of its parts are joined (document 02, K7). Assumes nothing.
use Rattle.std.specs.Prelude.{◌≡◌, false, List, [], ◌∷◌, ℕ}
use Rattle.text.specs.Bytes.{within}

-- RFC 3629, section 4: the first byte, if there is one, is no UTF8-tail: it starts a character
abbrev pub Starts : List ℕ → Type 0
Starts [] = Unit {0}
Starts (b ∷ bs) = within 0x80 0xBF b ≡ false
