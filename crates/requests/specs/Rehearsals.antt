-- K11, the rehearsal of a job (document 02), stated of the calls. Assumes nothing.
use Rattle.std.specs.Prelude.{◌≡◌, ◌≢◌, Bool, ◌&&◌, ℕ, ◌+◌, ◌≤◌, ◌<◌, List, [], ◌∷◌, ◌++◌, eqb, ltb, length, get_or}
use Rattle.text.specs.Bytes.{pick}
use Rattle.text.specs.Call.{Called, called}
use Rattle.walk_rehearsal.specs.declared.Span.{Span}
use Rattle.walk_rehearsal.specs.Rehearsal.{bytes_of}
use Rattle.walk_rehearsal.specs.Counts.{summed, first_words}
use Rattle.govlezna.specs.Calls.{rehearse_call}
use Rattle.demands.specs.Demands.{Asked}
use Rattle.demands.specs.CallDemands.{normalize_of}

-- K11: "one text, a lent list of value spans, a table, version, depth and limit"
pub record Rehearsed : Type 0 where
  pub whole : Asked
  pub spans : List Span

-- K11: the call, and what it was lent as report
abbrev pub rehearse_of : Rehearsed → List ℕ → Called
rehearse_of j words =
    rehearse_call j.whole.text j.spans j.whole.version j.whole.depth j.whole.limit j.whole.list j.whole.pool words

-- K11: "each value by itself"
abbrev pub value_at : Rehearsed → Span → Asked
value_at j s =
    record {
      version = j.whole.version;
      text = bytes_of j.whole.text s;
      list = j.whole.list;
      pool = j.whole.pool;
      depth = j.whole.depth;
      limit = j.whole.limit;
    }

-- its own normalization, with an output for it
abbrev pub own_call : Rehearsed → (Span → List ℕ) → Span → Called
own_call j out s = normalize_of (value_at j s) (out s)

abbrev pub number_of : Called → ℕ
number_of (called number words left) = number

abbrev pub first_word_of : Called → ℕ
first_word_of (called number words left) = get_or words 0 0

-- 1 where a call answers with that number
abbrev pub is_answered_by : ℕ → Called → ℕ
is_answered_by n c = pick (eqb n (number_of c)) 1 0

-- the first answer word where a call accepts
abbrev pub length_if_accepted : Called → ℕ
length_if_accepted c = pick (eqb 0 (number_of c)) (first_word_of c) 0

abbrev pub EachSpan : (Span → Type 0) → List Span → Type 0
EachSpan P [] = Unit {0}
EachSpan P (s ∷ ss) = P s × EachSpan P ss

-- K11: "with room"
abbrev pub WithRoom : Rehearsed → (Span → List ℕ) → Type 0
WithRoom j out = EachSpan (λ s. number_of (own_call j out s) ≢ 19) j.spans

-- K11: "how many are accepted, how many fall to each refusal number from 1 to 27, and the total length of the accepted ones' normalized values",
-- "those of reading each value by itself, with room; together they make the number of spans"
pub record ReportOf (j : Rehearsed) (out : Span → List ℕ) (report : List ℕ) : Type 0 where
  pub size : length report ≡ 29
  pub number : (n : ℕ) → n ≤ 27 → get_or report n 0 ≡ summed (λ s. is_answered_by n (own_call j out s)) j.spans
  pub total : get_or report 28 0 ≡ summed (λ s. length_if_accepted (own_call j out s)) j.spans
  pub together : first_words 28 report ≡ length j.spans

-- K11: such a report is what is left, and the words are 0
pub record Reports (j : Rehearsed) (out : Span → List ℕ) (words : List ℕ) (left : List (List ℕ)) : Type 0 where
  pub report : List ℕ
  pub zeros : words ≡ 0 ∷ 0 ∷ []
  pub leaves : left ≡ report ∷ []
  pub is : ReportOf j out report

-- a report, whatever was lent
pub record Accepts (j : Rehearsed) (lent : List ℕ) : Type 0 where
  pub report : List ℕ
  pub answer : rehearse_of j lent ≡ called 0 (0 ∷ 0 ∷ []) (report ∷ [])

-- one of 1 to 9
abbrev pub of_arguments : ℕ → Bool
of_arguments n = ltb 0 n && ltb n 10

-- K11: a span that stays inside the text, and one that leaves it
abbrev pub Stays : Rehearsed → Span → Type 0
Stays j s = s.start + s.length ≤ length j.whole.text

abbrev pub Leaves : Rehearsed → Span → Type 0
Leaves j s = length j.whole.text < s.start + s.length

-- K11: "one leaves the text, with the first such index"
pub record FirstLeaves (j : Rehearsed) (index : ℕ) : Type 0 where
  pub before : List Span
  pub span : Span
  pub after : List Span
  pub splits : j.spans ≡ before ++ span ∷ after
  pub place : length before ≡ index
  pub stay : EachSpan (Stays j) before
  pub leaves : Leaves j span

-- K11: when 31 is answered, with which words
pub data Answers31 (j : Rehearsed) : List ℕ → Type 0 where
  too_many : 65536 < length j.spans → Answers31 j (65536 ∷ 0 ∷ [])
  leaving : (index : ℕ) → length j.spans ≤ 65536 → FirstLeaves j index → Answers31 j (index ∷ 0 ∷ [])
