-- One level of a walk, outer or replacement text, with the memory of all: what a walker's loop keeps, and the contracts of the walker,
-- of the step that opens a text, and of the part between two openings. Terms in which code is proved. Assumes nothing.
use Rattle.std.specs.Prelude.{ℕ, ◌+◌, ◌-◌, ◌*◌, ◌≤◌, ◌<◌, ◌≡◌, ◌≢◌, List, ◌++◌, length, get_or, take, drop, Option, Some, None, Result, Ok, Err}
use Rattle.text.specs.Call.{laid}
use Rattle.text.specs.Utf8.{WellFormed}
use Rattle.text.specs.Answers.{Answer}
use Rattle.text.specs.Refusals.{number_of, first_of, second_of}
use Rattle.entity.specs.Binding.{binding}
use Rattle.entity.specs.Commands.{command_text, Defines}
use Rattle.tokens.specs.Tokens.{Heads, tokens}
use Rattle.tokens.specs.Outcome.{Outcome, done, refused, prepend, followed, run, answer_of}
use Rattle.tokens.specs.Walking.{step_of}
use Rattle.tokens.specs.Walking.{Step}
use Rattle.attribute.specs.Walk.{Settings}
use Rattle.attribute.specs.Steps.{read_by, legal_by, stop_answer}
use Rattle.memory.specs.Slots.{opening, shaped, shaped_in, slot_at, Memory}
use Rattle.memory.specs.declared.Reading.{Reading}
use Rattle.memory.specs.declared.Place.{Place}
use Rattle.memory.specs.declared.Had.{Had}
use Rattle.memory.specs.declared.Stop.{Stop}
use Rattle.memory.specs.declared.Reached.{Reached}
use Rattle.memory.specs.declared.Reached.TheVariants.{End, Opening, Paused}

-- ---- what the code's numbers mean

-- the settings of a walk whose replacement texts are read so (`read_by`), with a table and a limit; it asks nothing of the outer heads
unfoldable pub settings_by : ℕ → ℕ → List ℕ → List ℕ → ℕ → Settings
unfolding binding
settings_by inner guard list pool limit =
    record { outer = read_by inner guard; inner = read_by inner guard; bind = binding list pool; limit = limit; legal = legal_by guard }

abbrev pub settings_of : Reading → List ℕ → List ℕ → Settings
settings_of r list pool = settings_by r.inner r.inguard list pool r.limit

-- ---- a level

-- what a level is told: the reading, what is written of values, the heads of its text, its depth, its text, the table
pub record Level : Type 0 where
  pub settings : Settings
  pub form : ℕ
  pub at : Heads
  pub depth : ℕ
  pub text : List ℕ
  pub list : List ℕ
  pub pool : List ℕ

abbrev pub level_of : Reading → List ℕ → List ℕ → List ℕ → Level
level_of r list pool text =
    record { settings = settings_of r list pool; form = r.form; at = read_by r.how r.guard; depth = r.depth; text = text; list = list; pool = pool }

-- the same level at another depth
abbrev pub at_depth : ℕ → Level → Level
at_depth depth l = record { settings = l.settings; form = l.form; at = l.at; depth = depth; text = l.text; list = l.list; pool = l.pool }

-- the level of a text that is opened
abbrev pub inner_level : Settings → ℕ → List ℕ → List ℕ → ℕ → ℕ → Level
inner_level s form list pool depth command =
    record { settings = s; form = form; at = s.inner; depth = depth - 1; text = command_text list pool command; list = list; pool = pool }

-- the outcome of what is left from an offset on
abbrev pub left : Level → ℕ → ℕ → Outcome
left l i openings = run (stop_answer l.settings l.depth) (tokens l.at i 0 (drop i l.text)) openings

-- What fits is written, else nothing: where all of the value fits, it lies over what the buffer held; of a longer one nothing is said.
pub record Fitted (value whole out : List ℕ) : Type 0 where
  pub size : length out ≡ length whole
  pub holds : length value ≤ length whole → out ≡ laid value whole

-- bytes that are added after a value of `len` bytes
pub record Adds (more : List ℕ) (len : ℕ) (old new : List ℕ) : Type 0 where
  pub buffer : length new ≡ length old
  pub fits : (value whole : List ℕ) → length value ≡ len → Fitted value whole old → Fitted (value ++ more) whole new

-- Where a level stands that began after `v`, which the whole call had written, with `begun` openings, over the buffer `whole`: the tokens
-- before `i` gave `value`, and the memory is good for all that is written. The value and the rest of the text are whole characters, so that
-- the canonical form of what comes next can be written after that of the value.
pub record Came (l : Level) (v whole : List ℕ) (begun : ℕ) (out words : List ℕ) (i len made : ℕ) : Type 0 where
  pub value : List ℕ
  pub size : length (shaped l.form value) ≡ len
  pub outcome : left l 0 begun ≡ prepend value (left l i made)
  pub fitted : Fitted (shaped l.form value) whole out
  pub memory : Memory l.settings l.form l.list l.pool (v ++ shaped l.form value) words
  pub utf8 : WellFormed value
  pub rest : WellFormed (drop i l.text)
  pub inside : i ≤ length l.text
  pub more : begun ≤ made
  pub within : made ≤ l.settings.limit
  pub counted : len + 1572840 * begun ≤ 24 * i + 1572840 * made

-- the level is at its end: its whole outcome, and the memory for what comes after it
pub record Whole (l : Level) (v whole : List ℕ) (begun : ℕ) (out words : List ℕ) (len made : ℕ) : Type 0 where
  pub value : List ℕ
  pub size : length (shaped l.form value) ≡ len
  pub outcome : left l 0 begun ≡ done value made
  pub fitted : Fitted (shaped l.form value) whole out
  pub memory : Memory l.settings l.form l.list l.pool (v ++ shaped l.form value) words
  pub more : begun ≤ made
  pub within : made ≤ l.settings.limit
  pub counted : len + 1572840 * begun ≤ 24 * length l.text + 1572840 * made

-- the level is refused
pub record Refuses (l : Level) (begun number first second : ℕ) : Type 0 where
  pub before : List ℕ
  pub made : ℕ
  pub outcome : left l 0 begun ≡ refused before made number first second

-- after so many openings
pub record RefusesAt (l : Level) (begun number first second made : ℕ) : Type 0 where
  pub before : List ℕ
  pub outcome : left l 0 begun ≡ refused before made number first second

-- a text of the table is to be opened at the reference at `at`, which ends before `next`; there is an opening left
pub record Opens (l : Level) (v whole : List ℕ) (begun : ℕ) (out words : List ℕ) (at next command slot len made : ℕ) : Type 0 where
  pub came : Came l v whole begun out words at len made
  pub on : at < next
  pub inside : next ≤ length l.text
  pub is : left l at made ≡ followed (opening l.settings l.depth (command_text l.list l.pool command) made) (λ n. left l next n)
  pub defines : Defines l.list l.pool command
  pub rest : WellFormed (drop next l.text)
  pub known : slot < 16
  pub room : made < l.settings.limit

-- where a walk came to
abbrev pub Reaches : Level → List ℕ → List ℕ → ℕ → List ℕ → List ℕ → Result Reached Stop → Type 0
Reaches l v whole begun out words (Ok (End len made)) = Whole l v whole begun out words len made
Reaches l v whole begun out words (Ok (Opening at next command slot len made)) = Opens l v whole begun out words at next command slot len made
Reaches l v whole begun out words (Ok (Paused p)) = Came l v whole begun out words p.at p.len p.openings
Reaches l v whole begun out words (Err stop) =
    RefusesAt l begun (number_of stop.refusal) (first_of stop.refusal) (second_of stop.refusal) stop.openings

-- ---- contracts

-- What is asked before a call that walks from a place on: some v, whole and begun are such, and no sum overflows.
pub record Lent (l : Level) (base : ℕ) (out words : List ℕ) (p : Place) : Type 0 where
  pub v : List ℕ
  pub whole : List ℕ
  pub begun : ℕ
  pub size : length v ≡ base
  pub came : Came l v whole begun out words p.at p.len p.openings
  pub room : base + 24 * length l.text ≤ 402653184 + 1572840 * begun

-- how far the part between two openings goes: so the walker ends. It pauses for want of a memory alone
abbrev pub Onward : ℕ → ℕ → List ℕ → Result Reached Stop → Type 0
Onward size from seen (Ok (End len made)) = Unit {0}
Onward size from seen (Ok (Opening at next command slot len made)) = (from < next) × (next ≤ size)
Onward size from seen (Ok (Paused p)) = (from ≤ p.at) × (p.at < size) × (length seen ≡ 0)
Onward size from seen (Err stop) = Unit {0}

-- of `normalize_flat`: what it came to holds at its depth and at every greater one, since it never uses its depth up
pub record FlatKeeps (l : Level) (base : ℕ) (p : Place) (old seen new kept : List ℕ) (r : Result Reached Stop) : Type 0 where
  pub onward : Onward (length l.text) p.at seen r
  pub buffer : length new ≡ length old
  pub words : length kept ≡ length seen
  pub reaches : (depth : ℕ) → l.depth ≤ depth → (v whole : List ℕ) (begun : ℕ) → length v ≡ base
      → Came (at_depth depth l) v whole begun old seen p.at p.len p.openings → Reaches (at_depth depth l) v whole begun new kept r

-- the answer of a level; of a refusal nothing but the answer is said
pub record Finishes (l : Level) (v whole : List ℕ) (begun : ℕ) (out words : List ℕ) (r : Answer) : Type 0 where
  pub answers : r ≡ answer_of (shaped_in l.form (left l 0 begun))
  pub made : (value : List ℕ) (openings : ℕ) → left l 0 begun ≡ done value openings → Whole l v whole begun out words (length (shaped l.form value)) openings

-- of `normalize_attr_steps`, which is lent a memory, so that nothing is paused at
pub record StepsKeep (l : Level) (base : ℕ) (p : Place) (old seen new kept : List ℕ) (r : Answer) : Type 0 where
  pub buffer : length new ≡ length old
  pub words : length kept ≡ length seen
  pub finishes : (v whole : List ℕ) (begun : ℕ) → length v ≡ base → Came l v whole begun old seen p.at p.len p.openings → Finishes l v whole begun new kept r

-- what the step that opens the text of a command answers, after `openings` and `v`, which the whole call had written
pub record Opened (s : Settings) (form : ℕ) (list pool : List ℕ) (depth command next openings : ℕ) (v old new words : List ℕ) (r : Step) : Type 0 where
  pub answers : r ≡ step_of next (shaped_in form (opening s depth (command_text list pool command) openings))
  pub fitted : (value : List ℕ) (made : ℕ) → opening s depth (command_text list pool command) openings ≡ done value made → Fitted (shaped form value) old new
  pub keeps : (value : List ℕ) (made : ℕ) → opening s depth (command_text list pool command) openings ≡ done value made
      → Memory s form list pool (v ++ shaped form value) words

-- of `normalize_attr_step`, at the place where the text is opened: `at` is the end of its reference
pub record StepKeeps (s : Settings) (form : ℕ) (list pool : List ℕ) (depth command base : ℕ) (p : Place) (old seen new kept : List ℕ) (r : Step) : Type 0 where
  pub buffer : length new ≡ length old
  pub words : length kept ≡ length seen
  pub opened : (v : List ℕ) → length v ≡ base + p.len → Memory s form list pool v seen → Opened s form list pool depth command p.at p.openings v old new kept r

-- ---- below these

-- of `again` where it answers with a value that is kept, of `count` bytes with `made` openings: it is written where all of it
-- fits, and its place is then in the level's own part
pub record Taken (command slot : ℕ) (r : Reading) (p : Place) (seen old new : List ℕ) (count made : ℕ) : Type 0 where
  pub is : get_or seen slot 0 ≡ command + 1
  pub enough : (slot_at seen slot).depth ≤ r.depth
  pub size : count ≡ (slot_at seen slot).count
  pub opens : made ≡ p.openings + (slot_at seen slot).opened
  pub within : made ≤ r.limit
  pub buffer : length new ≡ length old
  pub writes : (v value whole : List ℕ) → length v ≡ r.base → length value ≡ p.len → (slot_at seen slot).place + count ≤ r.base + p.len → Fitted value whole old
      → Fitted (value ++ take count (drop (slot_at seen slot).place (v ++ value))) whole new

abbrev pub HadKeeps : ℕ → ℕ → Reading → Place → List ℕ → List ℕ → List ℕ → Option Had → Type 0
HadKeeps command slot r p seen old new (Some had) = Taken command slot r p seen old new had.len had.openings
HadKeeps command slot r p seen old new None = new ≡ old

-- what it asks of the slot: bounds that a memory has
pub record Bounds (command slot limit reached : ℕ) (seen : List ℕ) : Type 0 where
  pub size : length seen ≢ 0 → 84 ≤ length seen
  pub inside : get_or seen slot 0 ≡ command + 1 → (slot_at seen slot).place + (slot_at seen slot).count ≤ reached
  pub few : get_or seen slot 0 ≡ command + 1 → (slot_at seen slot).opened ≤ limit + 1
