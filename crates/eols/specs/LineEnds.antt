-- Line ends (XML 1.0, 2.11; XML 1.1, 2.11), with the version as a parameter. Assumes nothing.
use Rattle.std.specs.Prelude.{◌≡◌, ◌⊎◌, ℕ, zero, suc, List, [], ◌∷◌, length}
use Rattle.text.specs.Bytes.{pick, begins}
use Rattle.text.specs.Version.{Rule, xml10, xml11}

-- 2.11: each of these becomes one LF (CR LF, CR U+0085, CR, LF, U+0085, U+2028); where two of them fit, the earlier
unfoldable pub line_ends : Rule → List (List ℕ)
line_ends xml10 = (13 ∷ 10 ∷ []) ∷ (13 ∷ []) ∷ (10 ∷ []) ∷ []
line_ends xml11 = (13 ∷ 10 ∷ []) ∷ (13 ∷ 0xC2 ∷ 0x85 ∷ []) ∷ (13 ∷ []) ∷ (10 ∷ []) ∷ (0xC2 ∷ 0x85 ∷ []) ∷ (0xE2 ∷ 0x80 ∷ 0xA8 ∷ []) ∷ []

-- the length of the first pattern with which the text begins, and 0 where there is none
unfoldable pub width_of : List (List ℕ) → List ℕ → ℕ
width_of [] text = 0
width_of (p ∷ ps) text = pick (begins p text) (length p) (width_of ps text)

-- the width of the line end at the head of the text, and 0 where there is none
unfoldable pub line_end : Rule → List ℕ → ℕ
unfolding width_of line_ends
line_end r text = width_of (line_ends r) text

-- the byte that stands for a head of that width, and how many bytes after the first belong to it
unfoldable pub eol_byte : ℕ → ℕ → ℕ
eol_byte zero b = b
eol_byte (suc w) b = 10

unfoldable pub eol_skip : ℕ → ℕ
eol_skip zero = 0
eol_skip (suc w) = w

-- the text after `skip` bytes with its line ends normalized
unfoldable pub eols_from : Rule → ℕ → List ℕ → List ℕ
unfolding line_end eol_byte eol_skip
eols_from r skip [] = []
eols_from r (suc skip) (b ∷ bs) = eols_from r skip bs
eols_from r zero (b ∷ bs) = eol_byte (line_end r (b ∷ bs)) b ∷ eols_from r (eol_skip (line_end r (b ∷ bs))) bs

-- document 01, line ends
unfoldable pub eols : Rule → List ℕ → List ℕ
unfolding eols_from
eols r text = eols_from r 0 text

-- 2.11: no line end but LF
abbrev pub Normal : Rule → List ℕ → Type 0
Normal r [] = Unit {0}
Normal r (b ∷ bs) = ((line_end r (b ∷ bs) ≡ 0) ⊎ (b ≡ 10)) × Normal r bs
