-- UTF-8 as RFC 3629, section 4, has it: shortest forms, no surrogates, at most U+10FFFF. Assumes nothing.
use Rattle.std.specs.Prelude.{◌≡◌, ℕ, suc, Bool, true, false, List, [], ◌∷◌, eqb, leb}
use Rattle.text.specs.Bytes.{pick, within}

-- Where a reader stands: between two characters; in one that wants that many tails (UTF8-tail); after the first byte E0, ED, F0 or
-- F4, whose second byte has a range of its own; or past a byte that fits no character.
pub data State : Type 0 where
  between one two three after_e0 after_ed after_f0 after_f4 broken : State

-- section 4: UTF8-1, UTF8-2, UTF8-3 and UTF8-4 by their first byte
unfoldable pub first : ℕ → State
first b =
    pick (leb b 0x7F) between
    (pick (within 0xC2 0xDF b) one
    (pick (eqb b 0xE0) after_e0
    (pick (eqb b 0xED) after_ed
    (pick (within 0xE1 0xEF b) two
    (pick (eqb b 0xF0) after_f0
    (pick (within 0xF1 0xF3 b) three
    (pick (eqb b 0xF4) after_f4
    broken)))))))

-- section 4: the second byte after E0, ED, F0 and F4, and UTF8-tail
unfoldable pub next : State → ℕ → State
unfolding first
next between b = first b
next one b = pick (within 0x80 0xBF b) between broken
next two b = pick (within 0x80 0xBF b) one broken
next three b = pick (within 0x80 0xBF b) two broken
next after_e0 b = pick (within 0xA0 0xBF b) one broken
next after_ed b = pick (within 0x80 0x9F b) one broken
next after_f0 b = pick (within 0x90 0xBF b) two broken
next after_f4 b = pick (within 0x80 0x8F b) two broken
next broken b = broken

unfoldable pub after : State → List ℕ → State
unfolding next
after s [] = s
after s (b ∷ bs) = after (next s b) bs

-- section 4, UTF8-octets: the bytes are whole characters
unfoldable pub WellFormed : List ℕ → Type 0
unfolding after
WellFormed bytes = after between bytes ≡ between

unfoldable pub is_between : State → Bool
is_between between = true
is_between one = false
is_between two = false
is_between three = false
is_between after_e0 = false
is_between after_ed = false
is_between after_f0 = false
is_between after_f4 = false
is_between broken = false

-- the same as a test
unfoldable pub well_formed : List ℕ → Bool
unfolding is_between after
well_formed bytes = is_between (after between bytes)

-- `at` is where the reader stands, `end` the last place between two characters before it
unfoldable pub end_from : State → ℕ → ℕ → List ℕ → ℕ
unfolding next is_between
end_from s at end [] = pick (is_between s) at end
end_from s at end (b ∷ bs) = end_from (next s b) (suc at) (pick (is_between s) at end) bs

-- document 01, refusal 5: the end of the longest well-formed prefix
unfoldable pub utf8_end : List ℕ → ℕ
unfolding end_from
utf8_end bytes = end_from between 0 0 bytes
