-- One iteration over a text for CDATA sections (document 01, CDATA), in terms of the call: `govlezna_cdata_next` again and again, from
-- { 0, 0 }, each time with the cursor that it left. Assumes nothing.
use Rattle.std.specs.Prelude.{◌≡◌, ℕ, zero, suc, ◌+◌, ◌/◌, ◌<◌, ◌≤◌, false, List, [], ◌∷◌, ◌++◌, length, take, drop, get_or}
use Rattle.text.specs.Call.{called}
use Rattle.utils.specs.Pieces.{holds, AtCut, cursor_at}
use Rattle.utils.specs.declared.Cursor.{Cursor}
use Rattle.govlezna.specs.declared.CDataNext.{CDataNext}
use Rattle.govlezna.specs.Calls.{check_utf8_call, cdata_next_call}

-- 1 and 5 let the text pass, as `govlezna_check_utf8` says
abbrev pub Utf8Accepted : List ℕ → Type 0
Utf8Accepted text = check_utf8_call text ≡ called 0 (length text ∷ 0 ∷ []) []

-- what a call leaves behind that comes after `before` others, the first of them with this cursor
unfoldable pub call_from : ℕ → List ℕ → Cursor → CDataNext
call_from zero text cursor = cdata_next_call text cursor
call_from (suc before) text cursor = call_from before text (cdata_next_call text cursor).next

-- the same from { 0, 0 }
abbrev pub call_after : ℕ → List ℕ → CDataNext
call_after before text = call_from before text (cursor_at 0 0)

-- the part of the text that a call's answer words name: start and length
abbrev pub part_of : List ℕ → CDataNext → List ℕ
part_of text c = take (get_or c.words 1 0) (drop (get_or c.words 0 0) text)

-- the parts that the first `count` calls hand over, joined
abbrev pub joined_parts : ℕ → List ℕ → List ℕ
joined_parts zero text = []
joined_parts (suc count) text = joined_parts count text ++ part_of text (call_after count text)

-- CDATA, a whole iteration: `count` calls hand over a piece each, and every later one answers "no more"
pub record Iterates (text : List ℕ) : Type 0 where
  pub count : ℕ
  pub some : 1 ≤ count
  pub most : count ≤ length text / 3 + 1
  pub hands : (k : ℕ) → k < count → (call_after k text).number ≡ 0
  pub joins : joined_parts count text ≡ text
  pub free : (k : ℕ) → k < count → holds (part_of text (call_after k text)) ≡ false
  pub cuts : (k : ℕ) → k + 1 < count → AtCut (part_of text (call_after k text)) (part_of text (call_after (k + 1) text))
  -- the cursor after the last piece, which no later call changes
  pub last : Cursor
  pub no_more : (k : ℕ) → count ≤ k → call_after k text ≡ record { number = 255; words = 0 ∷ 0 ∷ []; next = last }
