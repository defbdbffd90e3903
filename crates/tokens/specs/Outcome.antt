-- What becomes of tokens from left to right (document 01, Attribute walk: the first refusal is the answer). Assumes nothing.
use Rattle.std.specs.Prelude.{ℕ, List, [], ◌∷◌, ◌++◌, ltb, length}
use Rattle.text.specs.Bytes.{pick}
use Rattle.text.specs.Call.{Called, call_of, laid}
use Rattle.text.specs.Answers.{Answer}
use Rattle.text.specs.Answers.{Done, Refused}
use Rattle.charref.specs.CharRef.{char_number, number_answer, encode}
use Rattle.charref.specs.CharNumbers.{CharNumber}
use Rattle.tokens.specs.Tokens.{Stop, Token, copy, stop, barred}

-- Attribute walk: the value and the openings made; or the bytes before the refusal, the openings made until then, and the
-- refusal's number, first and second
pub data Outcome : Type 0 where
  done : List ℕ → ℕ → Outcome
  refused : List ℕ → ℕ → ℕ → ℕ → ℕ → Outcome

abbrev pub prepend : List ℕ → Outcome → Outcome
prepend front (done value openings) = done (front ++ value) openings
prepend front (refused before openings number first second) = refused (front ++ before) openings number first second

-- the outcome, and after it the rest, which is told the openings so far
abbrev pub followed : Outcome → (ℕ → Outcome) → Outcome
followed (done value openings) rest = prepend value (rest openings)
followed (refused before openings number first second) rest = refused before openings number first second

-- the tokens from left to right, each stop answered by `answer`, which is told the openings so far; document 02, K8: 26, whatever the
-- depth
unfoldable pub run : (Stop → ℕ → Outcome) → List Token → ℕ → Outcome
run answer [] openings = done [] openings
run answer (copy b ∷ ts) openings = prepend (b ∷ []) (run answer ts openings)
run answer (stop s ∷ ts) openings = followed (answer s openings) (λ n. run answer ts n)
run answer (barred offset ∷ ts) openings = refused [] openings 26 offset 0

-- Character numbers: the character copied, or the refusal passed upward as it came
unfoldable pub numbered : Answer → ℕ → Outcome
unfolding encode
numbered (Done n second) openings = done (encode n) openings
numbered (Refused number first second) openings = refused [] openings number first second

unfoldable pub number_outcome : (ℕ → CharNumber) → List ℕ → ℕ → Outcome
unfolding numbered number_answer char_number
number_outcome legal digits openings = numbered (number_answer (char_number legal digits)) openings

-- the bytes produced, before a refusal too
abbrev pub produced : Outcome → List ℕ
produced (done value openings) = value
produced (refused before openings number first second) = before

-- the answer: length and openings, or number, first and second
abbrev pub answer_of : Outcome → Answer
answer_of (done value openings) = Done (length value) openings
answer_of (refused before openings number first second) = Refused number first second

-- Refusals by place, 18 and 19: the answer of a walk whose value goes to a buffer; `short` refuses one shorter than the value, with
-- the length needed
unfoldable pub answer_in : ℕ → Outcome → List ℕ → Answer
answer_in short (done value openings) out = pick (ltb (length out) (length value)) (Refused short (length value) 0) (Done (length value) openings)
answer_in short (refused before openings number first second) out = Refused number first second

-- Refusals by place: the value in the buffer's first bytes, the rest kept; a refusal changes no buffer
unfoldable pub left_in : Outcome → List ℕ → List ℕ
left_in (done value openings) out = pick (ltb (length out) (length value)) out (laid value out)
left_in (refused before openings number first second) out = out

-- Refusals by place: what a call that walks leaves behind
unfoldable pub finished : Outcome → List ℕ → Called
unfolding answer_in left_in
finished o out = call_of (answer_in 19 o out) (left_in o out ∷ [])
