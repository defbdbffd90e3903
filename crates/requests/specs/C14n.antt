-- K1, the writers of Canonical XML (document 02), stated of the calls. Assumes nothing.
use Rattle.std.specs.Prelude.{◌≡◌, ℕ, ◌*◌, ◌≤◌, List, [], ◌∷◌, length, take}
use Rattle.text.specs.Utf8.{WellFormed}
use Rattle.text.specs.Call.{called, laid}
use Rattle.govlezna.specs.Calls.{normalize_eols_call, normalize_attribute_value_call}
use Rattle.demands.specs.CallDemands.{EmptyTable, UnescapesTo}

-- "read under 1.0 with an empty table at depth 1, is the value written": under version 0 or 1, with any limit up to 1,000,000 and any output that
-- has room; no openings, and the output's rest is kept
abbrev pub NormalizesTo : List ℕ → List ℕ → Type 0
NormalizesTo value form = (version limit : ℕ) → version ≤ 1 → limit ≤ 1000000 → (list pool out : List ℕ) → EmptyTable list pool → length value ≤ length out
    → normalize_attribute_value_call form version 1 limit list pool out ≡ called 0 (length value ∷ 0 ∷ []) (laid value out ∷ [])

-- "after 1.0 line ends and `unescape`, is the text written": line ends under version 0 or 1 into any output that has room, and what they
-- leave there unescapes, with an empty table, to the text
pub record LinesUnescapeTo (text form : List ℕ) (version : ℕ) (lines : List ℕ) : Type 0 where
  pub size : ℕ
  pub left : List ℕ
  pub ended : normalize_eols_call form version lines ≡ called 0 (size ∷ 0 ∷ []) (left ∷ [])
  pub unescapes : UnescapesTo text (take size left)

-- what either writer gives
pub record Writes (text form : List ℕ) : Type 0 where
  pub utf8 : WellFormed form
  pub least : length text ≤ length form
  pub most : length form ≤ 6 * length text
