-- An index of a table's names: slots with commands, in the list's order from a name's home on. Which slot is home is any function of the name:
-- nothing is asked of it. Terms in which code is proved; no promise of a call rests on them. Assumes nothing.
use Rattle.std.specs.Prelude.{◌≡◌, ℕ, zero, suc, ◌+◌, ◌-◌, ◌*◌, ◌/◌, ◌%◌, ◌<◌, ◌≤◌, Bool, true, false, ◌||◌, ◌≢◌, List, [], ◌∷◌, length, ◌==◌, slice_index}
use Rattle.text.specs.Bytes.{same_bytes}
use Rattle.entity.specs.Table.{mark_size, declares, ValidTable}
use Rattle.entity.specs.Commands.{command_name}
use Rattle.entity.specs.Steps.{command_size}
use Rattle.table_index.specs.NameHash.{hash_of}

-- the commands of the list before the place `at`, the last one first: from the mark on one follows the other
abbrev pub Passed : List ℕ → ℕ → List ℕ → Type 0
Passed list at [] = at ≡ mark_size list
Passed list at (c ∷ cs) = Passed list c cs × (declares (slice_index list c) ≡ true) × (at ≡ c + command_size (slice_index list c))

unfoldable pub member : ℕ → List ℕ → Bool
member c [] = false
member c (d ∷ ds) = c == d || member c ds

-- the command's place among the 16 slots of its name: those before it are taken by commands before it, and it stands there; or all are taken so
pub record Filed (slot : ℕ → ℕ) (home c : ℕ) : Type 0 where
  pub place : ℕ
  pub within : place ≤ 16
  pub taken : (i : ℕ) → i < place → slot (home + i) ≢ 0
  pub before : (i : ℕ) → i < place → slot (home + i) ≤ c
  pub stands : place < 16 → slot (home + place) ≡ c + 1

-- an index of the commands passed: every slot that is taken has one of them, and each of them is filed
pub record Indexes (list pool : List ℕ) (home : List ℕ → ℕ) (slot : ℕ → ℕ) (cs : List ℕ) : Type 0 where
  pub only : (s : ℕ) → slot s ≢ 0 → member (slot s - 1) cs ≡ true
  pub all : (c : ℕ) → member c cs ≡ true → Filed slot (home (command_name list pool c)) c

-- a slot is filled, and no other changes
pub record FilledAt (old new : ℕ → ℕ) (s c : ℕ) : Type 0 where
  pub was : old s ≡ 0
  pub is : new s ≡ c + 1
  pub others : (i : ℕ) → i ≢ s → new i ≡ old i

-- where a probe stands: the slots before it are taken, and none of their commands has the name
pub record Probing (list pool : List ℕ) (home : List ℕ → ℕ) (slot : ℕ → ℕ) (name : List ℕ) (k : ℕ) : Type 0 where
  pub taken : (i : ℕ) → i < k → slot (home name + i) ≢ 0
  pub others : (i : ℕ) → i < k → same_bytes (command_name list pool (slot (home name + i) - 1)) name ≡ false

-- ---- the words of an index: its state, then the slots, four to a word

-- a digit of a number to the base 65,536, the lowest at place 0
unfoldable pub digit : ℕ → ℕ → ℕ
digit zero word = word % 0x10000
digit (suc place) word = digit place (word / 0x10000)

-- slot s: 16 bits of a word after the state
abbrev pub slot_of : List ℕ → ℕ → ℕ
slot_of words s = digit (s % 4) (slice_index words (1 + s / 4))

-- which of the slots but the last 16 a hash below 2^32 begins at, among those of so many words
abbrev pub home_at : ℕ → ℕ → ℕ
home_at hash words = hash * (4 * words - 16) / 0x100000000

-- where the slots of a name begin in an index of so many words, the state among them
abbrev pub home_of : ℕ → List ℕ → ℕ
home_of size name = home_at (hash_of name) (size - 1)

-- nothing stands in the slot
pub record Vacant (words : List ℕ) (s : ℕ) : Type 0 where
  pub is : slot_of words s ≡ 0

-- the states above any number of bytes that lookups passed: an index of all commands; no index, as too many slots were wanted in vain
abbrev pub built_state : ℕ
built_state = 0x100000000

abbrev pub given_up : ℕ
given_up = 0x100000001

abbrev pub state_of : List ℕ → ℕ
state_of words = slice_index words 0

-- room for the state and 16 slots, and no more than the products of the code allow for
pub record Sized (words : List ℕ) : Type 0 where
  pub least : 5 ≤ length words
  pub large : length words ≤ 0x10000

-- an index of all commands of a list
pub record Whole (list pool words : List ℕ) : Type 0 where
  pub end : ℕ
  pub commands : List ℕ
  pub passed : Passed list end commands
  pub over : declares (slice_index list end) ≡ false
  pub indexes : Indexes list pool (home_of (length words)) (slot_of words) commands

-- what holds of the words of an index at any time; of no words nothing that matters
pub record Ready (list pool words : List ℕ) : Type 0 where
  pub size : length words ≢ 0 → 5 ≤ length words
  pub large : length words ≤ 0x10000
  pub low : state_of words ≤ given_up
  pub built : state_of words ≡ built_state → Whole list pool words
  pub empty : state_of words < built_state → (s : ℕ) → slot_of words s ≡ 0

-- ---- what loops keep

-- a lookup
pub record Looking (list pool name words : List ℕ) (from k : ℕ) : Type 0 where
  pub valid : ValidTable list pool
  pub whole : Whole list pool words
  pub is : from ≡ home_of (length words) name
  pub fits : from + 16 ≤ 4 * (length words - 1)
  pub large : length words ≤ 0x10000
  pub within : k ≤ 16
  pub probing : Probing list pool (home_of (length words)) (slot_of words) name k

-- the first empty slot of a name, counted from its home, or 16; and the search for it
pub record FirstEmpty (words : List ℕ) (from k : ℕ) : Type 0 where
  pub within : k ≤ 16
  pub taken : (i : ℕ) → i < k → slot_of words (from + i) ≢ 0
  pub empty : k < 16 → slot_of words (from + k) ≡ 0

pub record Emptying (words : List ℕ) (from k : ℕ) : Type 0 where
  pub within : k ≤ 16
  pub taken : (i : ℕ) → i < k → slot_of words (from + i) ≢ 0

-- one command more
pub record Inserted (list pool : List ℕ) (at : ℕ) (old new : List ℕ) : Type 0 where
  pub size : length new ≡ length old
  pub more : (cs : List ℕ) → Passed list at cs → Indexes list pool (home_of (length old)) (slot_of old) cs
      → Indexes list pool (home_of (length old)) (slot_of new) (at ∷ cs)

-- all commands in turn
pub record Building (list pool words : List ℕ) (at : ℕ) : Type 0 where
  pub valid : ValidTable list pool
  pub sized : Sized words
  pub commands : List ℕ
  pub passed : Passed list at commands
  pub indexes : Indexes list pool (home_of (length words)) (slot_of words) commands

-- an index that is built or given up, of as many words as before
pub record Built (list pool old new : List ℕ) : Type 0 where
  pub size : length new ≡ length old
  pub ready : Ready list pool new
