-- What a call answers, and the checks of its arguments (document 01, Refusals by place). Assumes nothing.
use Rattle.std.specs.Prelude.{ℕ, List, [], ◌∷◌, ◌++◌, length, drop, eqb, ltb, Result, Ok, Err}
use Rattle.text.specs.Bytes.{pick}
use Rattle.text.specs.Version.{known_version}
use Rattle.text.specs.Utf8.{utf8_end}
use Rattle.text.specs.Answers.{Answer, Done, Refused}
use Rattle.text.specs.Refusals.{number_of, first_of, second_of}
use Rattle.text.specs.declared.Success.{Success}
use Rattle.text.specs.declared.refusals.Refusal.{Refusal}

-- what the code's results are to the documents: words and refusals by their numbers
abbrev pub answered : Result Success Refusal → Answer
answered (Ok words) = Done words.first words.second
answered (Err refusal) = Refused (number_of refusal) (first_of refusal) (second_of refusal)

-- all that a call leaves behind: its number, the answer words, and each lent buffer whole, in the order of the parameters
pub data Called : Type 0 where
  called : ℕ → List ℕ → List (List ℕ) → Called

-- document 01's number and values for each case of an answer
abbrev pub call_of : Answer → List (List ℕ) → Called
call_of (Done first second) buffers = called 0 (first ∷ second ∷ []) buffers
call_of (Refused number first second) buffers = called number (first ∷ second ∷ []) buffers

-- checks run top to bottom: the first that refuses answers
abbrev pub and_then : Answer → Answer → Answer
and_then (Done first second) later = later
and_then (Refused number first second) later = Refused number first second

abbrev pub passed : Answer
passed = Done 0 0

-- a refusal by the checks of the arguments leaves every lent buffer; else what the call does
abbrev pub guarded : Answer → List (List ℕ) → Called → Called
guarded (Done first second) buffers rest = rest
guarded (Refused number first second) buffers rest = called number (first ∷ second ∷ []) buffers

-- the value in the first bytes of the output, whose rest keeps its bytes
abbrev pub laid : List ℕ → List ℕ → List ℕ
laid value out = value ++ drop (length value) out

-- refusal 19: output shorter than the result, with the length needed; else the result's length and the second answer word
unfoldable pub finish : List ℕ → ℕ → List ℕ → Called
finish value second out =
    pick (ltb (length out) (length value)) (called 19 (length value ∷ 0 ∷ []) (out ∷ []))
    (called 0 (length value ∷ second ∷ []) (laid value out ∷ []))

-- the longest text that a call takes, in bytes
abbrev pub longest_text : ℕ
longest_text = 16777216

-- refusal 1: text over 16,777,216 bytes
unfoldable pub length_check : List ℕ → Answer
length_check text = pick (ltb longest_text (length text)) (Refused 1 (length text) 0) passed

-- refusal 4: unknown version byte
unfoldable pub version_check : ℕ → Answer
version_check version = pick (known_version version) passed (Refused 4 0 0)

-- refusal 5: text not UTF-8, with the end of its longest well-formed prefix
unfoldable pub utf8_check : List ℕ → Answer
utf8_check text = pick (eqb (utf8_end text) (length text)) passed (Refused 5 (utf8_end text) 0)

-- the checks of a call: 1, then those of its other arguments (2 to 4), then 5
abbrev pub argument_check : List ℕ → Answer → Answer
argument_check text others = and_then (length_check text) (and_then others (utf8_check text))

-- the checks of a call that has a text and nothing else
abbrev pub text_check : List ℕ → Answer
text_check text = and_then (length_check text) (utf8_check text)
