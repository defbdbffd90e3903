-- The terms in which the recursion of the least depth is proved: what it is lent, what it tells. No promise of a call rests on them.
-- Assumes nothing.
use Rattle.std.specs.Prelude.{ℕ, ◌+◌, ◌-◌, ◌*◌, ◌≤◌, ◌<◌, ◌≡◌, Bool, List, ◌++◌, length, get_or, set, take, eqb, ltb, Result, Ok, Err}
use Rattle.text.specs.Bytes.{pick}
use Rattle.text.specs.Answers.{Answer, Done, Refused}
use Rattle.text.specs.Utf8.{WellFormed}
use Rattle.entity.specs.Commands.{command_text, Defines}
use Rattle.tokens.specs.Outcome.{Outcome}
use Rattle.attribute.specs.Walk.{Settings, walk}
use Rattle.attribute.specs.Steps.{read_by}
use Rattle.memory.specs.Slots.{slot_of, Stands, Memory}
use Rattle.memory.specs.Levels.{settings_by}
use Rattle.memory.specs.declared.Reading.{Reading}
use Rattle.walk_depths.specs.Summary.{Enough, Refusal, Known}
use Rattle.text.specs.Refusals.{number_of, first_of, second_of}
use Rattle.text.specs.declared.refusals.Refusal.{Refusal as Refused_by}
use Rattle.walk_least_depth.specs.declared.Least.{Least}

-- ---- what the code's numbers mean

-- the reading of the walk between two openings: values themselves, all characters, at some depth
abbrev pub plain_at : Reading → ℕ → Reading
plain_at r depth = record { how = r.how; inner = r.inner; guard = 0; inguard = 0; form = 0; depth = depth; limit = r.limit; base = r.base }

-- that of a text inside, after so many bytes of this one's value
abbrev pub inner_at : Reading → ℕ → Reading
inner_at r before =
    record { how = r.inner; inner = r.inner; guard = 0; inguard = 0; form = 0; depth = r.depth - 1; limit = r.limit; base = r.base + before }

abbrev pub settings_for : Reading → List ℕ → List ℕ → Settings
settings_for r list pool = settings_by r.inner 0 list pool r.limit

-- the outcomes of a text by depth
abbrev pub outcomes : Reading → List ℕ → List ℕ → List ℕ → ℕ → ℕ → Outcome
outcomes r list pool text openings depth = walk (settings_for r list pool) (read_by r.how 0) depth text openings

-- ---- the room: the walk's 84 words, and 64 for what is known of texts

abbrev pub Knows : Settings → List ℕ → List ℕ → List ℕ → Type 0
Knows s list pool words =
    (k c : ℕ) → k < 16 → get_or words (k + 84) 0 ≡ c + 1
    → Known s (command_text list pool c) (get_or words (k + 100) 0) (get_or words (k + 116) 0) (get_or words (k + 132) 0)

pub record Room (s : Settings) (list pool v words : List ℕ) : Type 0 where
  pub size : length words ≡ 148
  pub memory : Memory s 0 list pool v (take 84 words)
  pub known : Knows s list pool words

-- the words after a text was made known, store by store
abbrev pub known_in : List ℕ → ℕ → ℕ → ℕ → ℕ → ℕ → List ℕ
known_in words k c least len opened = set (set (set (set words (k + 84) (c + 1)) (k + 100) least) (k + 116) len) (k + 132) opened

-- after the text of a command was kept, for the walk and as known
pub record Remembers (old : List ℕ) (slot command least place len opened : ℕ) (new : List ℕ) : Type 0 where
  pub words : length new ≡ length old
  pub keeps : (s : Settings) (list pool v : List ℕ) → Room s list pool v old → Defines list pool command
      → Stands s 0 (command_text list pool command) v (slot_of least place len opened) → Known s (command_text list pool command) least len opened
      → Room s list pool v new

-- is the text of the command known, with a depth that is allowed and openings that the limit allows?
pub record IsKnown (command slot openings : ℕ) (r : Reading) (words : List ℕ) : Type 0 where
  pub is : get_or words (slot + 84) 0 ≡ command + 1
  pub allowed : get_or words (slot + 100) 0 ≤ r.depth
  pub within : openings + get_or words (slot + 132) 0 ≤ r.limit

-- what that asks
pub record Asks (command slot openings : ℕ) (r : Reading) (words : List ℕ) : Type 0 where
  pub size : length words ≡ 148
  pub named : command < 49153
  pub slots : slot < 16
  pub few : openings ≤ r.limit
  pub most : r.limit ≤ 1000000
  pub opened : get_or words (slot + 84) 0 ≡ command + 1 → get_or words (slot + 132) 0 ≤ r.limit

-- ---- contracts

-- what is asked before the recursion: some v is such, and no sum overflows
pub record Begins (s : Settings) (list pool text words : List ℕ) (base openings : ℕ) : Type 0 where
  pub v : List ℕ
  pub at_base : length v ≡ base
  pub room : Room s list pool v words
  pub utf8 : WellFormed text
  pub few : openings ≤ s.limit
  pub sum : base + 24 * length text ≤ 402653184 + 1572840 * openings

pub record Small (r : Reading) (text : List ℕ) : Type 0 where
  pub most : r.limit ≤ 1000000
  pub short : length text ≤ 16777216
  pub deep : r.depth ≤ 128

-- the least depth, and the room for whatever came before
pub record Counts (s : Settings) (list pool : List ℕ) (base allowance : ℕ) (o : ℕ → Outcome) (seen kept : List ℕ) (depth openings len : ℕ) : Type 0 where
  pub enough : Enough allowance depth openings len o
  pub room : (v : List ℕ) → length v ≡ base → Room s list pool v seen → Room s list pool (v ++ enough.value) kept

-- the least depth, the openings of the whole walk so far, and the length; or the refusal at the allowance
pub data Need : Type 0 where
  Found : ℕ → ℕ → ℕ → Need
  Cannot : ℕ → ℕ → ℕ → Need

-- the code's result
abbrev pub needed : Result Least Refused_by → Need
needed (Ok least) = Found least.depth least.openings least.len
needed (Err refusal) = Cannot (number_of refusal) (first_of refusal) (second_of refusal)

abbrev pub Tells : Settings → List ℕ → List ℕ → ℕ → ℕ → (ℕ → Outcome) → List ℕ → List ℕ → Need → Type 0
Tells s list pool base allowance o seen kept (Found depth openings len) = Counts s list pool base allowance o seen kept depth openings len
Tells s list pool base allowance o seen kept (Cannot number first second) = Refusal number first second (o allowance)

pub record NeedKeeps (s : Settings) (list pool : List ℕ) (base allowance : ℕ) (o : ℕ → Outcome) (seen kept : List ℕ) (r : Need) : Type 0 where
  pub words : length kept ≡ length seen
  pub tells : Tells s list pool base allowance o seen kept r

-- the recursion's, of a text after so many openings: its reading's depth is the allowance
abbrev pub NeedOf : Reading → List ℕ → List ℕ → List ℕ → ℕ → List ℕ → List ℕ → Need → Type 0
NeedOf r list pool text openings seen kept need =
    NeedKeeps (settings_for r list pool) list pool r.base r.depth (outcomes r list pool text openings) seen kept need

-- what is said of a text without regard to any room
abbrev pub Says : ℕ → (ℕ → Outcome) → Need → Type 0
Says allowance o (Found depth openings len) = Enough allowance depth openings len o
Says allowance o (Cannot number first second) = Refusal number first second (o allowance)

-- ---- the call

abbrev pub how_for : ℕ → ℕ
how_for version = pick (ltb 1 version) 1 0

abbrev pub allowed_for : ℕ → Bool → ℕ → ℕ → Reading
allowed_for version past depth limit =
    record { how = how_for version; inner = pick past 2 (how_for version); guard = 0; inguard = 0; form = 0; depth = depth; limit = limit; base = 0 }

-- the least depth, or the refusal of the allowance, 32 for 16
abbrev pub least_answer : Need → Answer
least_answer (Found depth openings len) = Done depth 0
least_answer (Cannot number first second) = pick (eqb number 16) (Refused 32 0 0) (Refused number first second)
