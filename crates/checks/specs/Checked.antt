-- The step over a text for CDATA sections, after the checks of the text. Terms in which code is proved; no promise of a call rests on
-- them. Assumes nothing.
use Rattle.std.specs.Prelude.{ℕ, List}
use Rattle.text.specs.Call.{text_check}
use Rattle.text.specs.Answers.{Answer, Done, Refused}
use Rattle.utils.specs.CData.{cdata_step, piece_answer}
use Rattle.utils.specs.declared.Cursor.{Cursor}
use Rattle.utils.specs.declared.Stepped.{Stepped}

-- an answer beside the cursor that it leaves
pub record Answered : Type 0 where
  pub answer : Answer
  pub next : Cursor

abbrev pub beside : Answer → Cursor → Answered
beside answer next = record { answer = answer; next = next }

-- a refusal by the checks of the text leaves the cursor; else what the step does
abbrev pub after_check : Answer → Cursor → Stepped → Answered
after_check (Done first second) cursor step = beside (piece_answer step.piece) step.next
after_check (Refused number first second) cursor step = beside (Refused number first second) cursor

abbrev pub cdata_answer : List ℕ → Cursor → Answered
cdata_answer text cursor = after_check (text_check text) cursor (cdata_step text cursor)
