-- The code's results of character numbers, by the readings of document 01, and the refusals that its errors become. Assumes nothing.
use Rattle.std.specs.Prelude.{ℕ, Result, Ok, Err}
use Rattle.text.specs.declared.refusals.Refusal.{Refusal}
use Rattle.text.specs.declared.refusals.Refusal.TheVariants as refusal
use Rattle.text.specs.Answers.{Answer, Done, Refused}
use Rattle.text.specs.Refusals.{number_of, first_of, second_of}
use Rattle.charref.specs.CharNumbers.{Parsed, Value, Signed, NoNumber}
use Rattle.charref.specs.CharNumbers.{CharNumber, Char, UnexpectedSign, InvalidNumber, InvalidCodepoint, IllegalCharacter, Forbidden}
use Rattle.charref.specs.declared.ParseCharRefError.{ParseCharRefError}
use Rattle.charref.specs.declared.ParseCharRefError.TheVariants as error

abbrev pub parsed_as : Parsed → Result ℕ ParseCharRefError
parsed_as (Value n) = Ok n
parsed_as Signed = Err error.UnexpectedSign
parsed_as NoNumber = Err error.InvalidNumber

abbrev pub read_as : CharNumber → Result ℕ ParseCharRefError
read_as (Char c) = Ok c
read_as UnexpectedSign = Err error.UnexpectedSign
read_as InvalidNumber = Err error.InvalidNumber
read_as (InvalidCodepoint n) = Err (error.InvalidCodepoint n)
read_as IllegalCharacter = Err error.IllegalCharacter
read_as Forbidden = Err error.Forbidden

abbrev pub refusal_for : ParseCharRefError → Refusal
refusal_for error.UnexpectedSign = refusal.UnexpectedSign
refusal_for error.InvalidNumber = refusal.InvalidNumber
refusal_for (error.InvalidCodepoint n) = refusal.InvalidCodepoint n
refusal_for error.IllegalCharacter = refusal.IllegalCharacter
refusal_for error.Forbidden = refusal.ForbiddenReference

-- document 01's answer to a character number
abbrev pub answer_as : Result ℕ ParseCharRefError → Answer
answer_as (Ok c) = Done c 0
answer_as (Err e) = Refused (number_of (refusal_for e)) (first_of (refusal_for e)) (second_of (refusal_for e))
