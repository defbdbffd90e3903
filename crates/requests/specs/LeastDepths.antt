-- K14, the least depth (document 02), stated of the calls. Assumes nothing.
use Rattle.std.specs.Prelude.{◌≡◌, ℕ, ◌≤◌, ◌<◌, List, [], ◌∷◌, eqb}
use Rattle.text.specs.Bytes.{pick}
use Rattle.text.specs.Call.{Called, called, finish}
use Rattle.govlezna.specs.Calls.{least_depth_call}
use Rattle.demands.specs.Demands.{Asked}
use Rattle.demands.specs.CallDemands.{normalize_of}

-- K14: the same value, under its version, limit and table, read at another depth
abbrev pub deepened : Asked → ℕ → Asked
deepened a depth =
    record { version = a.version; text = a.text; list = a.list; pool = a.pool; depth = depth; limit = a.limit }

-- K14: the call, which is told no depth
abbrev pub least_depth_of : Asked → Called
least_depth_of a = least_depth_call a.text a.version a.limit a.list a.pool

-- K14: "Reading at any depth from there to 128 gives the same text and openings, and at any smaller depth 16": normalization leaves this
-- value with these openings, or 19 where the output has no room for it, whatever it was lent
pub record LeastIs (a : Asked) (least : ℕ) : Type 0 where
  pub value : List ℕ
  pub openings : ℕ
  pub allowed : least ≤ 128
  pub from : (depth : ℕ) → least ≤ depth → depth ≤ 128 → (out : List ℕ) → normalize_of (deepened a depth) out ≡ finish value openings out
  pub below : (depth : ℕ) → depth < least → (out : List ℕ) → normalize_of (deepened a depth) out ≡ called 16 (0 ∷ 0 ∷ []) (out ∷ [])

-- K14: the call answers the least depth
pub record AnswersLeast (a : Asked) : Type 0 where
  pub least : ℕ
  pub answer : least_depth_of a ≡ called 0 (least ∷ 0 ∷ []) []
  pub is : LeastIs a least

-- K14: the least depth is no greater than this one
pub record LeastWithin (a : Asked) (depth : ℕ) : Type 0 where
  pub answers : AnswersLeast a
  pub within : answers.least ≤ depth

-- K14: what depth 128 refuses by is the call's answer; 32 in place of 16
abbrev pub RefusedAs : Asked → ℕ → ℕ → ℕ → Type 0
RefusedAs a number first second = least_depth_of a ≡ called (pick (eqb number 16) 32 number) (first ∷ second ∷ []) []

-- K14, from the call's side: what it refuses by is the answer of depth 128, whatever output that is lent; 16 where it is 32
abbrev pub RefusesAs : Asked → ℕ → List ℕ → List ℕ → Type 0
RefusesAs a number words out = normalize_of (deepened a 128) out ≡ called (pick (eqb number 32) 16 number) words (out ∷ [])

-- K14: the numbers by which it refuses: 1, 3 to 9, those of the walk but 16, and 32
abbrev pub least_numbers : List ℕ
least_numbers = 1 ∷ 3 ∷ 4 ∷ 5 ∷ 6 ∷ 7 ∷ 8 ∷ 9 ∷ 10 ∷ 11 ∷ 12 ∷ 13 ∷ 14 ∷ 15 ∷ 17 ∷ 27 ∷ 32 ∷ []
