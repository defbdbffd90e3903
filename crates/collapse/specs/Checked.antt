-- The next token after the checks of the text. Terms in which code is proved; no promise of a call rests on them. Assumes nothing.
use Rattle.std.specs.Prelude.{ℕ, List}
use Rattle.text.specs.Call.{text_check}
use Rattle.text.specs.Answers.{Answer}
use Rattle.text.specs.Answers.{Done, Refused}
use Rattle.utils.specs.CData.{piece_answer}
use Rattle.collapse.specs.NextToken.{next_token}
use Rattle.collapse.specs.declared.Found.{Found}

-- an answer beside the offset that it leaves
pub record Moved : Type 0 where
  pub answer : Answer
  pub offset : ℕ

abbrev pub moved : Answer → ℕ → Moved
moved answer offset = record { answer = answer; offset = offset }

-- a refusal by the checks of the text leaves the offset; else what is found
abbrev pub after_check : Answer → ℕ → Found → Moved
after_check (Done first second) offset f = moved (piece_answer f.piece) f.next
after_check (Refused number first second) offset f = moved (Refused number first second) offset

abbrev pub token_answer : List ℕ → ℕ → Moved
token_answer text offset = after_check (text_check text) offset (next_token text offset)
