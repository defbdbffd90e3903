-- A text surveyed by the pairs of the texts inside it: what the code's numbers mean, what is asked and told. No promise of a call rests on them.
-- Assumes nothing.
use Rattle.std.specs.Prelude.{ℕ, ◌+◌, ◌-◌, ◌*◌, ◌≤◌, ◌<◌, ◌≡◌, ◌≢◌, List, [], length, get_or, Result, Ok, Err}
use Rattle.entity.specs.Table.{Body, declarations}
use Rattle.attribute.specs.Walk.{Settings}
use Rattle.memory.specs.Levels.{Level, settings_by, level_of, at_depth, left}
use Rattle.memory.specs.declared.Reading.{Reading}
use Rattle.memory.specs.declared.Place.{Place}
use Rattle.walk_pairs.specs.Forecast.{Sum, sized, fails, summary, body_words}
use Rattle.walk_pairs.specs.PairSums.{nth_body}
use Rattle.walk_pairs.specs.Stretches.{Stretch, Waiting, Gives}
use Rattle.walk_forecast.specs.Numbering.{Numbered}
use Rattle.walk_forecast.specs.declared.Survey.{Survey}
use Rattle.walk_forecast.specs.declared.Bytes.{Bytes}
use Rattle.walk_forecast.specs.declared.Failed.{Failed}
use Rattle.walk_forecast.specs.declared.Outlook.{Outlook}
use Rattle.walk_forecast.specs.declared.Outlook.TheVariants.{Sized, Waits}

-- ---- what the code's numbers mean

-- values themselves, all characters, from the start of all that is written
abbrev pub reading_for : Survey → Reading
reading_for by =
    record { how = by.how; inner = by.inner; guard = 0; inguard = 0; form = 0; depth = by.depth; limit = by.limit; base = 0 }

abbrev pub level_for : Survey → List ℕ → List ℕ → List ℕ → Level
level_for by list pool text = level_of (reading_for by) list pool text

-- the settings of pairs
abbrev pub pair_settings : ℕ → List ℕ → List ℕ → Settings
pair_settings inner list pool = settings_by inner 0 list pool 1000000

-- where the pair of a definition at one depth less stands
abbrev pub pair_below : ℕ → Survey → ℕ
pair_below number by = number * by.width + 2 * (by.depth - 1)

-- ---- a pair where its definition is referred to

abbrev pub added_sum : Result Bytes Failed → Sum
added_sum (Ok bytes) = sized bytes.len bytes.openings
added_sum (Err failed) = fails failed.number failed.openings

-- numbers that a pair's words have, 2^63 + 17 not among them, and room for one opening more
pub record Addable (first second openings limit : ℕ) : Type 0 where
  pub low : first ≤ 9223372036854775835
  pub other : first ≢ 9223372036854775825
  pub few : second ≤ 1000001
  pub room : openings < limit
  pub most : limit ≤ 1000000

pub record PairIn (number openings : ℕ) (by : Survey) (words : List ℕ) : Type 0 where
  pub some : 1 ≤ by.depth
  pub fits : pair_below number by + 1 < length words
  pub pair : Addable (get_or words (pair_below number by) 0) (get_or words (pair_below number by + 1) 0) openings by.limit

-- ---- rows

-- the pair of a definition at a depth stands in its row
pub record Right (s : Settings) (pool : List ℕ) (body : Body) (words : List ℕ) (row depth : ℕ) : Type 0 where
  pub first : get_or words (row + 2 * depth) 0 ≡ get_or (body_words s pool depth body) 0 0
  pub second : get_or words (row + 2 * depth + 1) 0 ≡ get_or (body_words s pool depth body) 1 0

-- all pairs of one depth less do
pub record Below (by : Survey) (list pool words : List ℕ) : Type 0 where
  pub some : 1 ≤ by.depth
  pub wide : 2 * by.depth ≤ by.width
  pub most : by.limit ≤ 1000000
  pub room : length (declarations list) * by.width ≤ length words
  pub right : (k : ℕ) → k < length (declarations list)
      → Right (pair_settings by.inner list pool) pool (nth_body (declarations list) k) words (k * by.width) (by.depth - 1)

-- ---- contracts

pub record Surveys (by : Survey) (list pool text : List ℕ) (from : Place) : Type 0 where
  pub short : length text ≤ 16777216
  pub came : Stretch (level_for by list pool text) by.depth [] from.at from.len from.openings

pub record FailsBy (l : Level) (e number openings : ℕ) : Type 0 where
  pub here : summary (left (at_depth e l) 0 0) ≡ fails number openings
  pub stays : number ≢ 16 → Gives l e (fails number openings)

-- it waits at a reference to the definition `number`, after `until` openings of the whole
pub record WaitsFor (l : Level) (e : ℕ) (list pool : List ℕ) (next number len openings until : ℕ) : Type 0 where
  pub here : summary (left (at_depth e l) 0 0) ≡ fails 16 until
  pub command : ℕ
  pub waits : Waiting l e next command len openings
  pub numbered : Numbered list pool command number

abbrev pub Foretells : Level → ℕ → List ℕ → List ℕ → Result Outlook Failed → Type 0
Foretells l e list pool (Ok (Sized len openings)) = Gives l e (sized len openings)
Foretells l e list pool (Err failed) = FailsBy l e failed.number failed.openings
Foretells l e list pool (Ok (Waits next number len openings until)) = WaitsFor l e list pool next number len openings until

abbrev pub Surveyed : Survey → List ℕ → List ℕ → List ℕ → Result Outlook Failed → Type 0
Surveyed by list pool text o = Foretells (level_for by list pool text) by.depth list pool o
