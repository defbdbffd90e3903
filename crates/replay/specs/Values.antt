-- What a field writes, in the words of io's writers: a value is read right where writing it gives the field back.
-- A field that is refused is reported as malformed, so nothing is said of it. Assumes nothing.
use Rattle.std.specs.Prelude.{◌≡◌, ℕ, ◌+◌, ◌-◌, ◌*◌, ◌/◌, ◌%◌, ◌^◌, ◌<◌, ◌≤◌, List, [], ◌∷◌, length, take, Option, Some, None}
use Rattle.io.specs.Digits.{last_digits, hex_digit_ascii}

-- the field is not empty, and is the number in as many decimal digits as it has
abbrev pub Writes : List ℕ → Option ℕ → Type 0
Writes field (Some n) = (0 < length field) × (n < 10 ^ length field) × (last_digits 10 (length field) n ≡ field)
Writes field None = Unit {0}

-- the byte b is a decimal digit, and the number is n's digits and then b
abbrev pub Digit : ℕ → ℕ → Option ℕ → Type 0
Digit n b (Some m) = (48 ≤ b) × (b < 58) × (m ≡ n * 10 + (b - 48))
Digit n b None = Unit {0}

-- r is below 16, and is what the byte b writes
abbrev pub HexDigit : ℕ → Option ℕ → Type 0
HexDigit b (Some r) = (r < 16) × (hex_digit_ascii r ≡ b)
HexDigit b None = Unit {0}

-- P, where nothing was refused
abbrev pub When : Option (Unit {0}) → Type 0 → Type 0
When (Some _) P = P
When None P = Unit {0}

-- bytes in hexadecimal, two digits each
unfoldable pub hex_of : List ℕ → List ℕ
hex_of [] = []
hex_of (x ∷ xs) = hex_digit_ascii (x / 16) ∷ hex_digit_ascii (x % 16) ∷ hex_of xs

-- the field where there are no bytes, and else in hexadecimal
unfoldable pub field_of : List ℕ → List ℕ
field_of [] = 45 ∷ []
field_of (x ∷ xs) = hex_of (x ∷ xs)

-- what was put at the start of out is what the field writes
abbrev pub Decodes : List ℕ → List ℕ → Option ℕ → Type 0
Decodes field out (Some n) = field_of (take n out) ≡ field
Decodes field out None = Unit {0}
