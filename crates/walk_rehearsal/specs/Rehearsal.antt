-- The rehearsal of a job (document 02, K11). Assumes nothing.
use Rattle.std.specs.Prelude.{ℕ, suc, ◌+◌, Bool, List, [], ◌∷◌, ltb, length, get_or, set, replicate, Result, Ok, Err}
use Rattle.text.specs.Bytes.{pick}
use Rattle.text.specs.Utf8.{well_formed}
use Rattle.text.specs.Call.{passed}
use Rattle.text.specs.Answers.{Answer}
use Rattle.text.specs.Answers.{Refused}
use Rattle.entity.specs.Table.{part}
use Rattle.tokens.specs.Outcome.{Outcome, done, refused}
use Rattle.attribute.specs.Walk.{Settings, normalize}
use Rattle.walk_rehearsal.specs.declared.Span.{Span}
use Rattle.text.specs.Refusals.{number_of}
use Rattle.text.specs.declared.refusals.Refusal.{Refusal}

-- how a value fares: the length of its normalized value, or the number of its refusal
pub data Verdict : Type 0 where
  Accepted : ℕ → Verdict
  Fallen : ℕ → Verdict

-- the code's verdict
abbrev pub fared : Result ℕ Refusal → Verdict
fared (Ok length) = Accepted length
fared (Err refusal) = Fallen (number_of refusal)

-- K11: does a span leave a text of that length? A sum of numbers, which does not wrap
abbrev pub leaves_text : ℕ → Span → Bool
leaves_text size s = ltb size (s.start + s.length)

-- how many spans stand before the first that leaves the text: its index, where there is one
unfoldable pub inside : ℕ → List Span → ℕ
inside size [] = 0
inside size (s ∷ ss) = pick (leaves_text size s) 0 (suc (inside size ss))

-- 31 by how many spans there are, and how many stand before the first that leaves
abbrev pub spans_by : ℕ → ℕ → Answer
spans_by count staying = pick (ltb 65536 count) (Refused 31 65536 0) (pick (ltb staying count) (Refused 31 staying 0) passed)

-- K11: "31, after the table, when there are more than 65,536 spans, with 65,536; else when one leaves the text, with the first such index"
unfoldable pub spans_check : ℕ → List Span → Answer
unfolding inside
spans_check size spans = spans_by (length spans) (inside size spans)

-- K11: "reading each value by itself, with room": its normalized value's length, or the number by which it falls
unfoldable pub verdict : Outcome → Verdict
verdict (done value openings) = Accepted (length value)
verdict (refused before openings number first second) = Fallen number

-- K11: "A span whose bytes by themselves are not UTF-8 counts under 5"
unfoldable pub verdict_of : Settings → ℕ → List ℕ → Verdict
unfolding verdict well_formed normalize
verdict_of s depth value = let read = verdict (normalize s depth value) in pick (well_formed value) read (Fallen 5)

-- the bytes of a span
abbrev pub bytes_of : List ℕ → Span → List ℕ
bytes_of text s = part text s.start s.length

-- the report with n more in a word
abbrev pub raised : List ℕ → ℕ → ℕ → List ℕ
raised words k n = set words k (get_or words k 0 + n)

-- K11: "how many are accepted, how many fall to each refusal number from 1 to 27, and the total length of the accepted ones' normalized values"
unfoldable pub counted : Verdict → List ℕ → List ℕ
counted (Accepted size) words = raised (raised words 0 1) 28 size
counted (Fallen number) words = raised words number 1

-- the words after the values of these spans, one after the other
unfoldable pub counted_over : Settings → ℕ → List ℕ → List Span → List ℕ → List ℕ
unfolding counted verdict_of part
counted_over s depth text [] words = words
counted_over s depth text (x ∷ xs) words = counted_over s depth text xs (counted (verdict_of s depth (bytes_of text x)) words)

-- K11: the report of a job, 29 words
unfoldable pub report : Settings → ℕ → List ℕ → List Span → List ℕ
unfolding counted_over
report s depth text spans = counted_over s depth text spans (replicate 29 0)
