-- The two loops over the spans, turn by turn. Terms in which code is proved; no promise of a call rests on them. Assumes nothing.
use Rattle.std.specs.Prelude.{ℕ, suc, ◌+◌, ◌*◌, ◌≤◌, ◌≡◌, ◌&&◌, not, List, eqb, length, get_or, replicate}
use Rattle.text.specs.Bytes.{pick}
use Rattle.text.specs.Version.{rule_of}
use Rattle.text.specs.Call.{answered, and_then, passed, argument_check}
use Rattle.text.specs.Answers.{Answer}
use Rattle.text.specs.Answers.{Done, Refused}
use Rattle.entity.specs.Table.{table_check, ValidTable}
use Rattle.attribute.specs.Checks.{settings_check}
use Rattle.attribute.specs.Walk.{Settings, reading_of}
use Rattle.walk_rehearsal.specs.declared.Span.{Span}
use Rattle.walk_rehearsal.specs.declared.Job.{Job}
use Rattle.walk_rehearsal.specs.Rehearsal.{Verdict}
use Rattle.walk_rehearsal.specs.Rehearsal.{Accepted, Fallen}
use Rattle.walk_rehearsal.specs.Rehearsal.{leaves_text, spans_by, bytes_of, verdict_of, counted}

-- the span at index `at`, after which one more stays inside if all before it did
abbrev pub further_by : ℕ → Span → ℕ → ℕ → ℕ
further_by size s at staying = pick (eqb staying at && not (leaves_text size s)) (staying + 1) staying

-- an answer of a reading without room: 19 is acceptance, with the length needed
abbrev pub verdict_by : Answer → Verdict
verdict_by (Done first second) = Accepted first
verdict_by (Refused number first second) = pick (eqb number 19) (Accepted first) (Fallen number)

-- the checks of a job's arguments, then those of its spans
abbrev pub job_check : List ℕ → ℕ → ℕ → ℕ → List ℕ → List ℕ → ℕ → ℕ → Answer
job_check text version depth limit list pool count staying =
    and_then (and_then (argument_check text (settings_check version depth limit)) (table_check list pool)) (spans_by count staying)

-- how a job starts: what it is set to, how many of its spans are to be read, and its answer
pub record Started : Type 0 where
  pub version : ℕ
  pub depth : ℕ
  pub limit : ℕ
  pub count : ℕ
  pub answer : Answer

-- the code's job
abbrev pub started : Job → Started
started j = record { version = j.version; depth = j.depth; limit = j.limit; count = j.count; answer = answered j.answer }

-- a job that was refused has no spans to read
abbrev pub job_for : Answer → ℕ → ℕ → ℕ → ℕ → Started
job_for (Done first second) version depth limit count =
    record { version = version; depth = depth; limit = limit; count = count; answer = passed }
job_for (Refused number first second) version depth limit count =
    record { version = version; depth = depth; limit = limit; count = 0; answer = Refused number first second }

-- and its report stays as it was
abbrev pub cleared_by : Answer → List ℕ → List ℕ
cleared_by (Done first second) words = replicate 29 0
cleared_by (Refused number first second) words = words

-- how a job starts
pub record Begins (checked : Answer) (version depth limit count : ℕ) (words : List ℕ) (j : Job) (after : List ℕ) : Type 0 where
  pub job : started j ≡ job_for checked version depth limit count
  pub cleared : after ≡ cleared_by checked words

-- how the values of a job are read
abbrev pub settings_of : Job → List ℕ → List ℕ → Settings
settings_of j list pool = reading_of (rule_of j.version) list pool j.limit

-- after the verdicts of n values: no word is greater than n times the longest value
pub record Within (n : ℕ) (words : List ℕ) : Type 0 where
  pub size : length words ≡ 29
  pub small : (k : ℕ) → get_or words k 0 ≤ n * 68719476736

-- a verdict that normalization gives: a length within its limits, or one of the numbers that the report counts
abbrev pub Modest : Verdict → Type 0
Modest (Accepted size) = size ≤ 68719476736
Modest (Fallen number) = (1 ≤ number) × (number ≤ 27)

-- the verdict on a value, which is modest
pub record Reads (j : Job) (list pool value : List ℕ) (v : Verdict) : Type 0 where
  pub is : v ≡ verdict_of (settings_of j list pool) j.depth value
  pub modest : Modest v

-- words that a verdict can raise: no sum reaches 2^64
pub record Countable (v : Verdict) (words : List ℕ) : Type 0 where
  pub modest : Modest v
  pub small : (k : ℕ) → get_or words k 0 ≤ 4503599627370496

-- what one turn asks: a valid table, a span inside a text of a call, words that can be raised
pub record Ready (text : List ℕ) (s : Span) (j : Job) (list pool words : List ℕ) : Type 0 where
  pub valid : ValidTable list pool
  pub short : length text ≤ 16777216
  pub limited : j.limit ≤ 1000000
  pub stays : s.start + s.length ≤ length text
  pub turn : ℕ
  pub early : turn ≤ 65535
  pub within : Within turn words

-- and what it leaves
pub record Turn (text : List ℕ) (s : Span) (j : Job) (list pool words after : List ℕ) : Type 0 where
  pub is : after ≡ counted (verdict_of (settings_of j list pool) j.depth (bytes_of text s)) words
  pub within : (n : ℕ) → Within n words → Within (suc n) after
