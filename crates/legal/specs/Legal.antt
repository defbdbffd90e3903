-- Legal characters by XML version (XML 1.0 and XML 1.1, 2.2; document 02, K8), and where one that may not stand begins in a text.
-- Assumes nothing.
use Rattle.std.specs.Prelude.{ℕ, ◌+◌, ◌-◌, ◌*◌, Bool, false, not, ◌&&◌, ◌||◌, List, [], ◌∷◌, leb}
use Rattle.std.proofs.Math.Option.{Option, none, some}
use Rattle.text.specs.Bytes.{pick, within}
use Rattle.text.specs.Version.{Rule, xml10, xml11}
use Rattle.text.specs.Utf8.{State, between, next, is_between}
unfoldable pub use Rattle.charref.specs.Chars.{is_char}

-- ---- characters

-- XML 1.1, 2.2, RestrictedChar
unfoldable pub is_restricted : ℕ → Bool
is_restricted n = within 1 8 n || within 0xB 0xC n || within 0xE 0x1F n || within 0x7F 0x84 n || within 0x86 0x9F n

-- K8: where a raw character stands, in the value itself or in a text of the table
pub data Place : Type 0 where
  in_value in_table : Place

-- K8: may the character stand there raw? Under 1.1 a RestrictedChar may only in a text of the table
unfoldable pub may_stand : Place → Rule → ℕ → Bool
unfolding is_char is_restricted
may_stand in_value xml10 n = is_char xml10 n
may_stand in_value xml11 n = is_char xml11 n && not (is_restricted n)
may_stand in_table r n = is_char r n

-- ---- characters in a text

-- RFC 3629, section 3: the bits of a character's first byte
unfoldable pub first_bits : ℕ → ℕ
first_bits b = pick (leb b 0x7F) b (pick (leb b 0xDF) (b - 0xC0) (pick (leb b 0xEF) (b - 0xE0) (b - 0xF0)))

-- RFC 3629, section 3: the bits so far with those of the byte b, read where the reader stands
unfoldable pub bits : State → ℕ → ℕ → ℕ
unfolding is_between first_bits
bits s n b = pick (is_between s) (first_bits b) (64 * n + (b - 0x80))

-- the number of the character that is whole first, if one is; `n` has the bits so far
unfoldable pub char_from : State → ℕ → List ℕ → Option ℕ
unfolding next is_between bits
char_from s n [] = none
char_from s n (b ∷ bs) =
    let rest = char_from (next s b) (bits s n b) bs in
    pick (is_between (next s b)) (some (bits s n b)) rest

-- there is one, and it may not
abbrev pub refuses : (ℕ → Bool) → Option ℕ → Bool
refuses may none = false
refuses may (some n) = not (may n)

-- K8: does a character that may not stand begin at the head of these bytes? A byte inside of a character begins none
unfoldable pub fault_at : (ℕ → Bool) → List ℕ → Bool
unfolding char_from
fault_at may bytes = refuses may (char_from between 0 bytes)
