-- Names (XML 1.0, fifth edition, 2.3), on the bytes of a text: what is no UTF-8 is no name. Assumes nothing.
use Rattle.std.specs.Prelude.{Bool, false, ◌||◌, List, [], ◌∷◌, ℕ, zero, suc, eqb, leb}
use Rattle.std.proofs.Math.Option.{Option, none, some}
use Rattle.text.specs.Bytes.{pick, within}
use Rattle.text.specs.Utf8.{between}
use Rattle.legal.specs.Legal.{char_from}

-- [4] NameStartChar
unfoldable pub is_name_start : ℕ → Bool
is_name_start n =
    eqb n 0x3A || within 0x41 0x5A n || eqb n 0x5F || within 0x61 0x7A n || within 0xC0 0xD6 n || within 0xD8 0xF6 n || within 0xF8 0x2FF n
    || within 0x370 0x37D n || within 0x37F 0x1FFF n || within 0x200C 0x200D n || within 0x2070 0x218F n || within 0x2C00 0x2FEF n
    || within 0x3001 0xD7FF n || within 0xF900 0xFDCF n || within 0xFDF0 0xFFFD n || within 0x10000 0xEFFFF n

-- [4a] NameChar
unfoldable pub is_name_char : ℕ → Bool
unfolding is_name_start
is_name_char n = is_name_start n || eqb n 0x2D || eqb n 0x2E || within 0x30 0x39 n || eqb n 0xB7 || within 0x300 0x36F n || within 0x203F 0x2040 n

-- there is a character, and it passes the test
abbrev pub passes : (ℕ → Bool) → Option ℕ → Bool
passes test none = false
passes test (some n) = test n

-- RFC 3629, section 3: how many bytes a character has, by its first one
unfoldable pub char_size : ℕ → ℕ
char_size b = pick (leb b 0x7F) 1 (pick (leb b 0xDF) 2 (pick (leb b 0xEF) 3 4))

-- the size of the character at the head of these bytes, where there is one that passes the test; else 0
unfoldable pub char_width : (ℕ → Bool) → List ℕ → ℕ
unfolding char_from char_size
char_width test [] = 0
char_width test (b ∷ bs) = pick (passes test (char_from between 0 (b ∷ bs))) (char_size b) 0

-- how many bytes the name characters at the head have, the first `skip` bytes with them
unfoldable pub name_chars : ℕ → List ℕ → ℕ
unfolding char_width is_name_char
name_chars skip [] = 0
name_chars (suc skip) (b ∷ bs) = suc (name_chars skip bs)
name_chars zero (b ∷ bs) = elim (char_width is_name_char (b ∷ bs)) [ zero ↦ 0 | suc w ↦ suc (name_chars w bs) ]

-- [5] Name: how many bytes the name at the head has; 0 where there is none
unfoldable pub name_length : List ℕ → ℕ
unfolding char_width is_name_start name_chars
name_length [] = 0
name_length (b ∷ bs) = elim (char_width is_name_start (b ∷ bs)) [ zero ↦ 0 | suc w ↦ suc (name_chars w bs) ]
