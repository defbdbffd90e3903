-- References met before in a text: the terms in which walks are proved that do not read such a reference again. Assumes nothing.
use Rattle.std.specs.Prelude.{ℕ, ◌+◌, ◌-◌, ◌*◌, ◌/◌, ◌%◌, ◌^◌, ◌≤◌, ◌<◌, ◌≡◌, List, ◌++◌, length, get_or, take, drop, Option, Some, None}
use Rattle.text.specs.Blocks.{word_at}
use Rattle.output.specs.Over.{over}
use Rattle.tokens.specs.Tokens.{Stop, number, named, unterminated}
use Rattle.tokens.specs.Outcome.{Outcome, done}
use Rattle.tokens.specs.declared.Next.{Next}

-- a value stays the same at another offset and after other openings, as long as the openings stay within the limit; a `&` that
-- nothing ends has none
pub record Shifts (limit : ℕ) (answer : Stop → ℕ → Outcome) : Type 0 where
  pub numbers : (digits value : List ℕ) (m n k : ℕ) → answer (number digits) m ≡ done value (m + k) → n + k ≤ limit
      → answer (number digits) n ≡ done value (n + k)
  pub names : (i j : ℕ) (name value : List ℕ) (m n k : ℕ) → answer (named i name) m ≡ done value (m + k) → n + k ≤ limit
      → answer (named j name) n ≡ done value (n + k)
  pub unended : (i e m n : ℕ) (value : List ℕ) → answer (unterminated i e) m ≡ done value n → ⊥

-- a number of 64 bits moved up: what passes the highest bit is lost
abbrev pub moved_up : ℕ → ℕ → ℕ
moved_up shift word = (word * 2 ^ shift) % 2 ^ 64

-- the first bytes at an offset as a number, one less than eight for each eight bits of the shift
abbrev pub key_at : ℕ → List ℕ → ℕ → ℕ
key_at shift text e = moved_up shift (word_at text e)

-- what is kept of a reference: its bytes as a key, the key's shift, where its value starts in the value so far, the value's
-- length, and the openings that it made
pub record Met : Type 0 where
  pub key : ℕ
  pub shift : ℕ
  pub start : ℕ
  pub count : ℕ
  pub opened : ℕ

abbrev pub width_of : Met → ℕ
width_of m = 8 - m.shift / 8

-- four references are kept side by side
abbrev pub met_at : List ℕ → ℕ → Met
met_at seen k =
    record { key = get_or seen k 0; shift = get_or seen (k + 4) 0; start = get_or seen (k + 8) 0; count = get_or seen (k + 12) 0; opened = get_or seen (k + 16) 0 }

-- the place of the next one stands after them
abbrev pub next_place : List ℕ → ℕ
next_place seen = get_or seen 20 0

-- and nothing after that
abbrev pub seen_size : ℕ
seen_size = 21

-- the reference of `width` bytes at `place`
abbrev pub met_of : List ℕ → ℕ → ℕ → ℕ → ℕ → ℕ → Met
met_of text place width start count opened =
    record { key = key_at (64 - 8 * width) text place; shift = 64 - 8 * width; start = start; count = count; opened = opened }

-- the bytes at `at` are those of the reference
pub record Matches (text : List ℕ) (at : ℕ) (m : Met) : Type 0 where
  pub room : at + 8 ≤ length text
  pub same : key_at m.shift text at ≡ m.key

-- bounds of what is kept: no sum overflows, and every value lies in the value so far
pub record Kept (seen : List ℕ) (len limit : ℕ) : Type 0 where
  pub size : length seen ≡ seen_size
  pub shifts : (k : ℕ) → k < 4 → get_or seen (k + 4) 0 < 64
  pub inside : (k : ℕ) → k < 4 → get_or seen (k + 8) 0 + get_or seen (k + 12) 0 ≤ len
  pub few : (k : ℕ) → k < 4 → get_or seen (k + 16) 0 ≤ limit

-- the reference at `at` is kept: its value is written again after the value so far, as much of it as there is room for
pub record Repeated (text : List ℕ) (at len openings limit : ℕ) (seen old new : List ℕ) (a l m : ℕ) : Type 0 where
  pub slot : ℕ
  pub known : slot < 4
  pub met : Matches text at (met_at seen slot)
  pub to : a ≡ at + width_of (met_at seen slot)
  pub size : l ≡ (met_at seen slot).count
  pub opens : m ≡ openings + (met_at seen slot).opened
  pub within : m ≤ limit
  pub same_length : length new ≡ length old
  pub writes : (value whole : List ℕ) → old ≡ over value whole → length value ≡ len
      → new ≡ over (value ++ take l (drop (met_at seen slot).start value)) whole

-- or it is not, and nothing is written
abbrev pub Recalled : List ℕ → ℕ → ℕ → ℕ → ℕ → List ℕ → List ℕ → List ℕ → Option Next → Type 0
Recalled text at len openings limit seen old new (Some n) = Repeated text at len openings limit seen old new n.at n.len n.openings
Recalled text at len openings limit seen old new None = new ≡ old

-- one of the four after a reference was to be kept: as before, or the new one
pub data Entered (text : List ℕ) (place width : ℕ) (fresh before after : Met) : Type 0 where
  stays : after ≡ before → Entered text place width fresh before after
  enters : width ≤ 8 → place + 8 ≤ length text → after ≡ fresh → Entered text place width fresh before after

-- all four, and the place of the next one, which stands after them
pub record Remembered (text : List ℕ) (place width start count opened : ℕ) (old new : List ℕ) : Type 0 where
  pub size : length new ≡ seen_size
  pub next : next_place new < 4
  pub entries : (k : ℕ) → k < 4 → Entered text place width (met_of text place width start count opened) (met_at old k) (met_at new k)
