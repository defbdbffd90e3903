-- The register as the used bytes of a buffer (document 02, K10): what they are for given entries, and which entries they hold. Assumes nothing.
use Rattle.std.specs.Prelude.{ℕ, zero, suc, ◌+◌, ◌-◌, ◌*◌, ◌/◌, ◌%◌, Bool, false, ◌&&◌, List, [], ◌∷◌, ◌++◌, leb, ltb, length, get_or, take, drop, replicate}
use Rattle.text.specs.Bytes.{pick}
use Rattle.text.specs.Call.{laid}
use Rattle.register.specs.Entries.{Entry, entry, cost, good, distinct}

-- K10: u32 little-endian, the number that stands at an index, and the bytes of a number
abbrev pub u32_at : List ℕ → ℕ → ℕ
u32_at bytes i =
    get_or bytes i 0 + get_or bytes (i + 1) 0 * 0x100 + get_or bytes (i + 2) 0 * 0x10000 + get_or bytes (i + 3) 0 * 0x1000000

unfoldable pub u32 : ℕ → List ℕ
u32 n = (n % 0x100) ∷ (n / 0x100 % 0x100) ∷ (n / 0x10000 % 0x100) ∷ (n / 0x1000000 % 0x100) ∷ []

-- K10: length and count, u32 little-endian, before the bytes
unfoldable pub entry_bytes : Entry → List ℕ
unfolding u32
entry_bytes e = u32 (length e.form) ++ (u32 e.count ++ e.form)

unfoldable pub bytes_of : List Entry → List ℕ
unfolding entry_bytes
bytes_of [] = []
bytes_of (e ∷ es) = entry_bytes e ++ bytes_of es

-- what used bytes hold: entries, or nothing that is a register
pub data Held : Type 0 where
  holds : List Entry → Held
  damaged : Held

abbrev pub also : Entry → Held → Held
also e (holds es) = holds (e ∷ es)
also e damaged = damaged

-- the entry at the start of these bytes
abbrev pub entry_at : List ℕ → Entry
entry_at bytes = entry (take (u32_at bytes 0) (drop 8 bytes)) (u32_at bytes 4)

-- K10: entries fill the used bytes exactly; those after the first `skip` bytes
unfoldable pub entries_from : ℕ → List ℕ → Held
entries_from skip [] = holds []
entries_from (suc skip) (b ∷ bs) = entries_from skip bs
entries_from zero (b ∷ bs) =
    let rest = entries_from (7 + u32_at (b ∷ bs) 0) bs in
    pick (ltb (length bs) (7 + u32_at (b ∷ bs) 0)) damaged (also (entry_at (b ∷ bs)) rest)

unfoldable pub entries : List ℕ → Held
unfolding entries_from
entries bytes = entries_from 0 bytes

-- K10: none of them has a zero count, breaks UTF-8 or repeats a form
unfoldable pub sound : Held → Bool
unfolding good distinct
sound (holds es) = good es && distinct es
sound damaged = false

-- K10: is there a register in the first `used` bytes of the buffer? Not where the used length passes it
unfoldable pub intact : List ℕ → ℕ → Bool
unfolding sound entries
intact buffer used = leb used (length buffer) && sound (entries (take used buffer))

-- K10: the register in a buffer, by its used length; a damaged one is refusal 28
unfoldable pub register : List ℕ → ℕ → Held
unfolding intact entries
register buffer used = pick (intact buffer used) (entries (take used buffer)) damaged

-- K10: the buffer with other entries: the bytes freed are zero, those past the used length otherwise stay
unfoldable pub written : ℕ → List Entry → List ℕ → List ℕ
unfolding bytes_of cost
written used es buffer = laid (bytes_of es ++ replicate (used - cost es) 0) buffer
