-- A call that is lent a cursor leaves the answer and the cursor of the piece that was checked (`cursor_left_lem`); one that is lent an offset
-- those of the token (`offset_left`). Assumes nothing.
use mathlib.Core.Path.{◌≡◌, refl, ◌∙◌, ap}
use mathlib.Core.List.{List, [], ◌∷◌}
use Prim.Native.Nat.{ℕ}
use Rattle.text.specs.Call.{Called, call_of, guarded, text_check}
use Rattle.text.specs.Answers.{Answer, Done, Refused}
use Rattle.utils.specs.CData.{cdata_step}
use Rattle.utils.specs.declared.Cursor.{Cursor}
use Rattle.utils.specs.declared.Stepped.{Stepped}
use Rattle.checks.specs.Checked.{Answered, after_check, cdata_answer}
use Rattle.collapse.specs.NextToken.{next_token}
use Rattle.collapse.specs.Checked.{Moved, after_check as tokenChecked, token_answer}
use Rattle.collapse.specs.declared.Found.{Found}
use Rattle.govlezna.specs.declared.CDataNext.{CDataNext}
use Rattle.govlezna.specs.Calls.{cursor_left, cursor_guarded, cdata_next_call, token_call, next_nmtoken_call}

abbrev left_of : Answered → CDataNext
left_of x = cursor_left x.answer x.next

left_guarded : (checked : Answer) (cursor : Cursor) (step : Stepped) → left_of (after_check checked cursor step) ≡ cursor_guarded checked cursor step
left_guarded (Done first second) cursor step = refl
left_guarded (Refused number first second) cursor step = refl

pub cursor_left_lem : (text : List ℕ) (cursor : Cursor) {x : Answered} → x ≡ cdata_answer text cursor → cursor_left x.answer x.next ≡ cdata_next_call text cursor
unfolding cdata_next_call
cursor_left_lem text cursor e = ap left_of e ∙ left_guarded (text_check text) cursor (cdata_step text cursor)

abbrev call_with : Moved → Called
call_with m = call_of m.answer ((m.offset ∷ []) ∷ [])

with_guarded : (checked : Answer) (offset : ℕ) (f : Found) → call_with (tokenChecked checked offset f) ≡ guarded checked ((offset ∷ []) ∷ []) (token_call f)
with_guarded (Done first second) offset f = refl
with_guarded (Refused number first second) offset f = refl

pub offset_left : (text : List ℕ) (offset : ℕ) {m : Moved} → m ≡ token_answer text offset → call_of m.answer ((m.offset ∷ []) ∷ []) ≡ next_nmtoken_call text offset
unfolding next_nmtoken_call
offset_left text offset e = ap call_with e ∙ with_guarded (text_check text) offset (next_token text offset)
