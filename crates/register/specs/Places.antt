-- Entries in bytes, and where they stand: the terms in which the code is proved. No promise of a call rests on these. Assumes nothing.
use Rattle.std.specs.Prelude.{ℕ, ◌+◌, ◌≤◌, ◌<◌, ◌≡◌, true, false, List, [], ◌∷◌, ◌++◌, Option, Some, None, length, get_or, take, drop}
use Rattle.text.specs.Bytes.{same_bytes}
use Rattle.text.specs.Utf8.{well_formed}
use Rattle.register.specs.Entries.{Entry, entry, cost}
use Rattle.register.specs.Stored.{u32_at, bytes_of, Held, holds, damaged, entries_from, entries, sound}

-- each number of a list is a byte
abbrev pub Small : List ℕ → Type 0
Small l = (k : ℕ) → get_or l k 0 < 0x100

-- ---- entries

-- lengths and counts that fit their 32 bits
abbrev pub Narrow : List Entry → Type 0
Narrow [] = Unit {0}
Narrow (e ∷ es) = (length e.form < 0x100000000) × (e.count < 0x100000000) × Narrow es

-- `absent`, `distinct` and `good` as types
abbrev pub Absent : List ℕ → List Entry → Type 0
Absent f [] = Unit {0}
Absent f (e ∷ es) = (same_bytes e.form f ≡ false) × Absent f es

abbrev pub Distinct : List Entry → Type 0
Distinct [] = Unit {0}
Distinct (e ∷ es) = Absent e.form es × Distinct es

abbrev pub Good : List Entry → Type 0
Good [] = Unit {0}
Good (e ∷ es) = (e.count ≡ 0 → ⊥) × (well_formed e.form ≡ true) × Good es

-- entries that a register may have
pub record Sound (es : List Entry) : Type 0 where
  pub narrow : Narrow es
  pub good : Good es
  pub distinct : Distinct es

-- a register that sits in a buffer: its bytes are those of sound entries
pub record Sits (buffer : List ℕ) (used : ℕ) (es : List Entry) : Type 0 where
  pub within : used ≤ length buffer
  pub is : take used buffer ≡ bytes_of es
  pub sound : Sound es

-- ---- bytes that hold entries

abbrev pub listed : Held → List Entry
listed (holds es) = es
listed damaged = []

abbrev pub entries_in : List ℕ → List Entry
entries_in bytes = listed (entries bytes)

pub record Filled (bytes : List ℕ) : Type 0 where
  pub is : bytes ≡ bytes_of (entries_in bytes)
  pub narrow : Narrow (entries_in bytes)

-- a whole entry starts at `at`
pub record Whole (bytes : List ℕ) (at : ℕ) : Type 0 where
  pub fits : at + 8 + u32_at bytes at ≤ length bytes

-- the entry of the form starts at `at`, after those of other forms
pub record Stands (form : List ℕ) (es : List Entry) (at : ℕ) : Type 0 where
  pub before : List Entry
  pub count : ℕ
  pub after : List Entry
  pub is : es ≡ before ++ (entry form count ∷ after)
  pub others : Absent form before
  pub place : at ≡ cost before

abbrev pub Finds : List ℕ → List Entry → Option ℕ → Type 0
Finds form es (Some at) = Stands form es at
Finds form es None = Absent form es

-- ---- the walk that checks

-- a good entry from `at` up to `end`
pub record GoodAt (bytes : List ℕ) (at end : ℕ) : Type 0 where
  pub whole : Whole bytes at
  pub ends : end ≡ at + 8 + u32_at bytes at
  pub counts : u32_at bytes (at + 4) ≡ 0 → ⊥
  pub utf8 : well_formed (take (u32_at bytes at) (drop (at + 8) bytes)) ≡ true

-- the bytes from `at` on are no good entries
abbrev pub Spoiled : List ℕ → ℕ → Type 0
Spoiled bytes at = (es : List Entry) → entries_from 0 (drop at bytes) ≡ holds es → Good es → ⊥

abbrev pub Steps : List ℕ → ℕ → Option ℕ → Type 0
Steps bytes at (Some end) = GoodAt bytes at end
Steps bytes at None = Spoiled bytes at

-- bytes that hold good entries
pub record Plausible (bytes : List ℕ) : Type 0 where
  pub filled : Filled bytes
  pub is : entries bytes ≡ holds (entries_in bytes)
  pub good : Good (entries_in bytes)

abbrev pub Checks : List ℕ → Option ℕ → Type 0
Checks bytes (Some n) = Plausible bytes
Checks bytes None = sound (entries bytes) ≡ false

-- ---- bytes that are compared

-- the first bytes of two lists are the same
pub record Alike (a b : List ℕ) (i : ℕ) : Type 0 where
  pub each : (k : ℕ) → k < i → get_or a k 0 ≡ get_or b k 0
