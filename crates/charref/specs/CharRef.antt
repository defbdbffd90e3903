-- Character numbers (document 01, Character numbers and Refusals by place; document 02, K8) and the UTF-8 of a character (RFC 3629). Assumes nothing.
use Rattle.std.specs.Prelude.{ℕ, ◌+◌, ◌-◌, ◌*◌, ◌/◌, ◌%◌, ◌||◌, List, [], ◌∷◌, eqb, ltb}
use Rattle.std.proofs.Math.Option.{Option, none, some}
use Rattle.text.specs.Bytes.{pick, within}
use Rattle.text.specs.Version.{Rule}
use Rattle.text.specs.Answers.{Answer}
use Rattle.text.specs.Answers.{Done, Refused}
use Rattle.charref.specs.Chars.{is_char}
use Rattle.charref.specs.CharNumbers.{Parsed, Value, Signed, NoNumber}
use Rattle.charref.specs.CharNumbers.{CharNumber, Char, UnexpectedSign, InvalidNumber, InvalidCodepoint, IllegalCharacter, Forbidden}

-- Character numbers: what a byte is worth as a digit, in either letter case; 16, a digit of neither base, where it is none
unfoldable pub digit_value : ℕ → ℕ
digit_value b =
    pick (within 48 57 b) (b - 48)
    (pick (within 65 70 b) (b - 55)
    (pick (within 97 102 b) (b - 87)
    16))

-- Character numbers: the byte as a digit of the base
unfoldable pub digit : ℕ → ℕ → Option ℕ
unfolding digit_value
digit base b = pick (ltb (digit_value b) base) (some (digit_value b)) none

-- Character numbers: the number that the digits write, however large, with `n` for the digits already read
unfoldable pub number_from : ℕ → ℕ → List ℕ → Option ℕ
unfolding digit
number_from base n [] = some n
number_from base n (b ∷ bs) = elim (digit base b) [ none ↦ none | some d ↦ number_from base (base * n + d) bs ]

-- Character numbers: a value at most 4,294,967,295
unfoldable pub small : Option ℕ → Parsed
small none = NoNumber
small (some n) = pick (ltb 4294967295 n) NoNumber (Value n)

-- Character numbers: a sign first, else one or more digits
unfoldable pub in_base : ℕ → List ℕ → Parsed
unfolding number_from small
in_base base [] = NoNumber
in_base base (b ∷ bs) = pick (eqb b 43 || eqb b 45) Signed (small (number_from base 0 (b ∷ bs)))

-- Character numbers: 15 and 14, then `legal`, which says what becomes of a number that 12 to 15 let pass
unfoldable pub judge : (ℕ → CharNumber) → Parsed → CharNumber
judge legal Signed = UnexpectedSign
judge legal NoNumber = InvalidNumber
judge legal (Value n) =
    pick (eqb n 0) IllegalCharacter
    (pick (within 0xD800 0xDFFF n || ltb 1114111 n) (InvalidCodepoint n)
    (legal n))

-- Character numbers: one lower-case x first means base 16, else base 10
unfoldable pub char_number : (ℕ → CharNumber) → List ℕ → CharNumber
unfolding in_base judge
char_number legal [] = judge legal (in_base 10 [])
char_number legal (b ∷ bs) = judge legal (pick (eqb b 120) (in_base 16 bs) (in_base 10 (b ∷ bs)))

-- Character numbers: every character that 12 to 15 let pass
abbrev pub any_character : ℕ → CharNumber
any_character n = Char n

-- K8: 25 where a number that 12 to 15 let pass is of a character outside Char
unfoldable pub only_char : Rule → ℕ → CharNumber
unfolding is_char
only_char r n = pick (is_char r n) (Char n) Forbidden

-- Refusals by place: the number and values of each case; document 02, K8: 25 has the values 0, 0
unfoldable pub number_answer : CharNumber → Answer
number_answer (Char n) = Done n 0
number_answer UnexpectedSign = Refused 12 0 0
number_answer InvalidNumber = Refused 13 0 0
number_answer (InvalidCodepoint n) = Refused 14 n 0
number_answer IllegalCharacter = Refused 15 0 0
number_answer Forbidden = Refused 25 0 0

-- RFC 3629, section 3: the bytes of a character
unfoldable pub encode : ℕ → List ℕ
encode n =
    pick (ltb n 0x80) (n ∷ [])
    (pick (ltb n 0x800) ((0xC0 + n / 64) ∷ (0x80 + n % 64) ∷ [])
    (pick (ltb n 0x10000) ((0xE0 + n / 4096) ∷ (0x80 + n / 64 % 64) ∷ (0x80 + n % 64) ∷ [])
    ((0xF0 + n / 262144) ∷ (0x80 + n / 4096 % 64) ∷ (0x80 + n / 64 % 64) ∷ (0x80 + n % 64) ∷ [])))
