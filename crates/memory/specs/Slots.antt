-- One memory for all levels of a walk: what its words say. Terms in which code is proved; no promise of a call rests on them.
-- Assumes nothing.
use Rattle.std.specs.Prelude.{ℕ, ◌+◌, ◌-◌, ◌≤◌, ◌<◌, ◌≡◌, ◌≢◌, List, eqb, length, get_or, set, take, drop}
use Rattle.text.specs.Bytes.{pick}
use Rattle.eols.specs.Stops.{rule_for}
use Rattle.canonical.specs.Canonical.{canonical}
use Rattle.entity.specs.Commands.{command_text, Defines, Unhidden}
use Rattle.table_index.specs.Index.{Ready}
use Rattle.tokens.specs.Outcome.{Outcome, done, refused}
use Rattle.attribute.specs.Walk.{Settings, walk}

-- a text opened at a depth that is not used up, after so many openings: it is walked with the depth one less, one opening more
abbrev pub opening : Settings → ℕ → List ℕ → ℕ → Outcome
opening s depth t openings = walk s s.inner (depth - 1) t (openings + 1)

-- ---- what is written of a value

-- by the code's number: 0 the value itself, else its canonical form, 1 under XML 1.0, 2 under XML 1.1
unfoldable pub shaped : ℕ → List ℕ → List ℕ
unfolding canonical
shaped form value = pick (eqb form 0) value (canonical (rule_for (eqb form 2)) value)

-- an outcome with what is written of its value
abbrev pub shaped_in : ℕ → Outcome → Outcome
shaped_in form (done value openings) = done (shaped form value) openings
shaped_in form (refused before openings number first second) = refused before openings number first second

-- ---- a slot

-- a depth that is enough for the text, where what is written of its value starts in all that the call writes, its length, the openings that
-- it takes
pub record Slot : Type 0 where
  pub depth : ℕ
  pub place : ℕ
  pub count : ℕ
  pub opened : ℕ

abbrev pub slot_of : ℕ → ℕ → ℕ → ℕ → Slot
slot_of depth place count opened = record { depth = depth; place = place; count = count; opened = opened }

-- what a slot says of the text `t`, where `v` is what the whole call has written so far; one whose openings are one more than the limit
-- tells nothing but whose text it is
pub record Stands (s : Settings) (form : ℕ) (t v : List ℕ) (x : Slot) : Type 0 where
  pub value : List ℕ
  pub inside : x.place + x.count ≤ length v
  pub is : shaped form value ≡ take x.count (drop x.place v)
  pub few : x.opened ≤ s.limit + 1
  pub again : (e m : ℕ) → x.depth ≤ e → m + x.opened ≤ s.limit → opening s e t m ≡ done value (m + x.opened)

-- ---- the words: 16 slots side by side, the offset of the command and 1 first; then a word for each of lt, gt, apos, quot; then the words of
-- an index of the table's names, which may be none

abbrev pub slot_at : List ℕ → ℕ → Slot
slot_at words k = record { depth = get_or words (k + 16) 0; place = get_or words (k + 32) 0; count = get_or words (k + 48) 0; opened = get_or words (k + 64) 0 }

-- where it is kept that the table does not define `<`, `>`, `'`, else `"`
abbrev pub plain_word : ℕ → ℕ
plain_word b = pick (eqb b 60) 80 (pick (eqb b 62) 81 (pick (eqb b 39) 82 83))

-- what the words say of the table alone; `amp` never comes to the memory, and would share the word of `quot`
pub record Trusts (list pool words : List ℕ) : Type 0 where
  pub size : length words ≢ 0 → 84 ≤ length words
  pub defines : (k c : ℕ) → k < 16 → get_or words k 0 ≡ c + 1 → Defines list pool c
  pub plain : (b : ℕ) → b ≢ 38 → get_or words (plain_word b) 0 ≢ 0 → Unhidden list pool b
  pub index : Ready list pool (drop 84 words)

-- a memory of no words keeps nothing
pub record Memory (s : Settings) (form : ℕ) (list pool v words : List ℕ) : Type 0 where
  pub size : length words ≢ 0 → 84 ≤ length words
  pub defines : (k c : ℕ) → k < 16 → get_or words k 0 ≡ c + 1 → Defines list pool c
  pub stands : (k c : ℕ) → k < 16 → get_or words k 0 ≡ c + 1 → Stands s form (command_text list pool c) v (slot_at words k)
  pub plain : (b : ℕ) → b ≢ 38 → get_or words (plain_word b) 0 ≢ 0 → Unhidden list pool b
  pub index : Ready list pool (drop 84 words)

-- the words after a text was kept in the slot `k`, store by store
abbrev pub kept_in : List ℕ → ℕ → ℕ → Slot → List ℕ
kept_in words k c x = set (set (set (set (set words k (c + 1)) (k + 16) x.depth) (k + 32) x.place) (k + 48) x.count) (k + 64) x.opened

-- a memory of no words keeps nothing
pub record Kept (old : List ℕ) (slot command : ℕ) (x : Slot) (new : List ℕ) : Type 0 where
  pub none : length old ≡ 0 → new ≡ old
  pub enters : length old ≢ 0 → new ≡ kept_in old slot command x

-- the words after it was found that the table does not define the name of the byte
pub record Noted (old : List ℕ) (b : ℕ) (new : List ℕ) : Type 0 where
  pub none : length old ≡ 0 → new ≡ old
  pub enters : length old ≢ 0 → new ≡ set old (plain_word b) 1

-- the words after a name was looked up: the index alone may have changed
pub record Indexed (list pool old new : List ℕ) : Type 0 where
  pub words : length new ≡ length old
  pub front : take 84 new ≡ take 84 old
  pub index : Ready list pool (drop 84 new)

-- the words after the texts of a walk were forgotten, so that another can begin
pub record Forgot (old new : List ℕ) : Type 0 where
  pub words : length new ≡ length old
  pub slots : (k : ℕ) → k < 16 → get_or new k 0 ≡ 0
  pub others : (k : ℕ) → 16 ≤ k → get_or new k 0 ≡ get_or old k 0
  pub behind : drop 84 new ≡ drop 84 old
