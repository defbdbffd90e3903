-- The standards' wording (XML 1.0 and 1.1, 3.3.3 after 2.11), stated of normalization, lenient and strict (document 02, K8), with lists of either
-- marking (K4). Assumes nothing.
use Rattle.std.specs.Prelude.{◌≡◌, ℕ, ◌≤◌, ◌<◌, Bool, true, false, List, [], ◌∷◌, length}
use Rattle.std.proofs.Math.Option.{Option, none, some}
use Rattle.text.specs.Call.{Called, called, laid}
use Rattle.charref.specs.CharRef.{any_character, only_char}
use Rattle.charref.specs.CharNumbers.{CharNumber}
use Rattle.entity.specs.Table.{marked}
use Rattle.entity.specs.Binding.{binding}
use Rattle.demands.specs.Demands.{Asked, rule_for}
use Rattle.demands.specs.CallDemands.{listed}
use Rattle.demands.specs.Characters.{encode_all, decode}
use Rattle.demands.specs.Standard.{line_ends_of, lines_of, standard, lookup_of, SteadyText, SteadyBound}

-- 4.1: what a character reference may name: in the lenient reading every character, in the strict one Char (2.2)
abbrev pub legal_by : Bool → Asked → ℕ → CharNumber
legal_by false a = any_character
legal_by true a = only_char (rule_for a)

-- 3.3.3 after 2.11, with that fuel, of what a call is asked to read
abbrev pub standard_by : Bool → Asked → ℕ → Option (List ℕ)
standard_by strict a fuel =
    standard (legal_by strict a) (lookup_of (binding a.list a.pool)) (lines_of (marked a.list) (rule_for a)) fuel (line_ends_of (rule_for a) (decode a.text))

-- 3.3.3 gives these characters: with some fuel
pub record Gives (strict : Bool) (a : Asked) (v : List ℕ) : Type 0 where
  pub fuel : ℕ
  pub defined : standard_by strict a fuel ≡ some v

-- 3.3.3 gives no value: with no fuel
abbrev pub GivesNone : Bool → Asked → Type 0
GivesNone strict a = (fuel : ℕ) → standard_by strict a fuel ≡ none

-- Departure: no reference of the value, and none of a text of an unmarked list, holds a line end
pub record SteadyAsked (a : Asked) : Type 0 where
  pub value : SteadyText (rule_for a) a.text
  pub texts : (name : List ℕ) → SteadyBound (marked a.list) (rule_for a) (binding a.list a.pool name)

-- the bytes that a call gave are the UTF-8 of what 3.3.3 gives
pub record GaveStandard (strict : Bool) (a : Asked) (value : List ℕ) : Type 0 where
  pub characters : List ℕ
  pub gives : Gives strict a characters
  pub bytes : value ≡ encode_all characters

-- Refusals by place: of a reference in the value or in a text that is opened
abbrev pub reference_numbers : List ℕ
reference_numbers = 10 ∷ 11 ∷ 12 ∷ 13 ∷ 14 ∷ 15 ∷ 25 ∷ 27 ∷ []

-- Refusals by place: of the arguments
abbrev pub argument_numbers : List ℕ
argument_numbers = 1 ∷ 2 ∷ 3 ∷ 4 ∷ 5 ∷ 6 ∷ 7 ∷ 8 ∷ 9 ∷ []

-- limits that 3.3.3 has not: depth and openings, and in the strict reading raw characters (2.2, which is no part of 3.3.3)
abbrev pub limit_numbers : Bool → List ℕ
limit_numbers false = 16 ∷ 17 ∷ []
limit_numbers true = 16 ∷ 17 ∷ 26 ∷ []

-- what a call answers where 3.3.3 gives these characters: their UTF-8, or 19 with its length where there is no room; else it meets a limit, or was
-- not rightly asked
pub data AnswersStandard (strict : Bool) (v out : List ℕ) : Called → Type 0 where
  gives : (openings : ℕ) → length (encode_all v) ≤ length out → AnswersStandard strict v out (called 0 (length (encode_all v) ∷ openings ∷ []) (laid (encode_all v) out ∷ []))
  no_room : length out < length (encode_all v) → AnswersStandard strict v out (called 19 (length (encode_all v) ∷ 0 ∷ []) (out ∷ []))
  limit : (number : ℕ) (words : List ℕ) → listed number (limit_numbers strict) ≡ true → AnswersStandard strict v out (called number words (out ∷ []))
  wrongly_asked : (number : ℕ) (words : List ℕ) → listed number argument_numbers ≡ true → AnswersStandard strict v out (called number words (out ∷ []))
