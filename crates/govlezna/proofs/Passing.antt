-- What the checks of a call answer, and what they let pass. Assumes nothing.
use mathlib.Core.Path.{◌≡◌, refl, sym, ◌∙◌, ap}
use mathlib.Core.Bool.{Bool, true, false}
use mathlib.Core.List.{List, []}
use Prim.Native.Nat.{ℕ, ◌≤◌}
use native.Mathlib.Omega.{arith}
use lib.Dec.{eqb}
use lib.ListN.{length}
use borrow.Author.Tests.{eqb-true}
use Rattle.text.specs.Bytes.{pick}
use Rattle.text.specs.Utf8.{utf8_end, WellFormed}
use Rattle.text.proofs.Longest.{end_whole}
use Rattle.std.specs.Prelude.{Result, Err}
use Rattle.text.specs.declared.Success.{Success}
use Rattle.text.specs.declared.refusals.Refusal.{Refusal}
use Rattle.text.specs.Call.{answered, Called, passed, and_then, call_of, guarded, longest_text, length_check, utf8_check, text_check}
use Rattle.text.specs.Answers.{Answer, Done, Refused}
use Rattle.text.proofs.Call.{halts, checked_length}
use Rattle.entity.specs.Table.{table_check, ValidTable}
use Rattle.entity.proofs.Tables.{checked_table}
use Rattle.attribute.specs.Checks.{settings_check}
use Rattle.attribute.proofs.Checked.{checked_settings}
use Rattle.utils.specs.declared.Part.{Part}
use Rattle.govlezna.specs.Calls.{part_call, trim_call, walk_check}

-- a call that answers with the first that refuses
pub guards : (checked later : Answer) (buffers : List (List ℕ)) → call_of (and_then checked later) buffers ≡ guarded checked buffers (call_of later buffers)
guards (Done first second) later buffers = refl
guards (Refused number first second) later buffers = refl

-- what the checks refuse is handed on, and the buffers stay as they were lent
pub refuses : (buffers : List (List ℕ)) (rest : Called) {checked : Answer} {asked handed : Result Success Refusal} {e : Refusal} → answered asked ≡ checked
    → asked ≡ Err e → handed ≡ Err e → call_of (answered handed) buffers ≡ guarded checked buffers rest
refuses buffers rest {asked = asked} {handed = handed} is was now = halts buffers rest (ap answered (now ∙ sym was) ∙ is) (ap answered now)

-- the part that a trim finds, once the text is checked
pub trims : (trim : List ℕ → Part) (text : List ℕ) {answer : Answer} {part : Part} → answer ≡ and_then (text_check text) (Done part.start part.length)
    → part ≡ trim text → call_of answer [] ≡ trim_call trim text
unfolding trim_call part_call
trims trim text {part = part} e p =
    ap (λ (a : Answer). call_of a []) e
    ∙ guards (text_check text) (Done part.start part.length) []
    ∙ ap (λ (x : Part). part_call text x) p

record Passes (a : Answer) : Type 0 where
  first : ℕ
  second : ℕ
  is : a ≡ Done first second

-- two checks, one after the other
both : (a b : Answer) {first second : ℕ} → and_then a b ≡ Done first second → Passes a × (b ≡ Done first second)
both (Done x y) b e = (record { first = x; second = y; is = refl }, e)
both (Refused number x y) b e = let z : ◌≡◌ {A = ℕ} 0 1 = cc in absurd (omega arith)

module _ (text list pool : List ℕ) (others : Answer) {r : Answer} {first second : ℕ} (e : r ≡ and_then (and_then (length_check text) others) (table_check list pool)) (d : r ≡ Done first second) where
  pub passed_table : ValidTable list pool
  passed_table = checked_table list pool refl (both (and_then (length_check text) others) (table_check list pool) (let q : and_then (and_then (length_check text) others) (table_check list pool) ≡ Done first second = cc in q)).1

  front : Passes (and_then (length_check text) others)
  front = (both (and_then (length_check text) others) (table_check list pool) (let q : and_then (and_then (length_check text) others) (table_check list pool) ≡ Done first second = cc in q)).0

  pub passed_length : length text ≤ longest_text
  passed_length = checked_length text others front.is

  passed_others : Passes others
  passed_others = let k = (both (length_check text) others front.is).1 in record { first = front.first; second = front.second; is = k }

-- the text is UTF-8
checked_utf8 : (text : List ℕ) {first second : ℕ} → utf8_check text ≡ Done first second → WellFormed text
unfolding utf8_check
checked_utf8 text {first} {second} e = go (eqb (utf8_end text) (length text)) refl e
  where
    go : (t : Bool) → eqb (utf8_end text) (length text) ≡ t → pick t passed (Refused 5 (utf8_end text) 0) ≡ Done first second → WellFormed text
    go true q k = end_whole text (eqb-true (utf8_end text) (length text) q)
    go false q k = let z : ◌≡◌ {A = ℕ} 0 1 = cc in absurd (omega arith)

module _ (text : List ℕ) (version depth limit : ℕ) (list pool : List ℕ) {r : Answer} {first second : ℕ} (e : r ≡ walk_check text version depth limit list pool) (d : r ≡ Done first second) where
  pub passed_limit : limit ≤ 1000000
  passed_limit =
      let k = passed_others text list pool (and_then (settings_check version depth limit) (utf8_check text)) e d in
      let s = (both (settings_check version depth limit) (utf8_check text) k.is).0 in
      (checked_settings version depth limit s.is).1

  pub passed_utf8 : WellFormed text
  passed_utf8 =
      let k = passed_others text list pool (and_then (settings_check version depth limit) (utf8_check text)) e d in
      checked_utf8 text (both (settings_check version depth limit) (utf8_check text) k.is).1

  -- all that a walk asks of its arguments
  pub passed_walk : ValidTable list pool × (length text ≤ longest_text × (limit ≤ 1000000 × WellFormed text))
  passed_walk =
      let others = and_then (settings_check version depth limit) (utf8_check text) in
      (passed_table text list pool others e d, (passed_length text list pool others e d, (passed_limit, passed_utf8)))
