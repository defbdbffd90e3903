-- What the code's results of character numbers tell of the readings. Assumes nothing.
use mathlib.Core.Path.{◌≡◌, refl}
use Prim.Native.Nat.{ℕ}
use Rattle.std.specs.Prelude.{Ok, Err}
use Rattle.charref.specs.CharNumbers.{Parsed, Value, Signed, NoNumber}
use Rattle.charref.specs.CharNumbers.{CharNumber, Char, UnexpectedSign, InvalidNumber, InvalidCodepoint, IllegalCharacter, Forbidden}
use Rattle.charref.specs.CharRef.{judge, number_answer}
use Rattle.charref.specs.Errors.{parsed_as, read_as, answer_as}
use Rattle.charref.specs.declared.ParseCharRefError.{ParseCharRefError}

-- a value was parsed
pub parsed_value : (p : Parsed) {n : ℕ} → Ok n ≡ parsed_as p → p ≡ Value n
parsed_value (Value m) e = cc
parsed_value Signed e = cc
parsed_value NoNumber e = cc

-- what refuses the digits refuses the number
pub parsed_error : (legal : ℕ → CharNumber) (p : Parsed) {e : ParseCharRefError} → Err e ≡ parsed_as p → Err e ≡ read_as (judge legal p)
unfolding judge
parsed_error legal (Value m) h = cc
parsed_error legal Signed h = h
parsed_error legal NoNumber h = h

-- a character was read
pub read_char : (n : CharNumber) {c : ℕ} → Ok c ≡ read_as n → n ≡ Char c
read_char (Char d) e = cc
read_char UnexpectedSign e = cc
read_char InvalidNumber e = cc
read_char (InvalidCodepoint d) e = cc
read_char IllegalCharacter e = cc
read_char Forbidden e = cc

-- it answers with the number and values of document 01
pub answers : (n : CharNumber) → answer_as (read_as n) ≡ number_answer n
unfolding number_answer
answers (Char c) = refl
answers UnexpectedSign = refl
answers InvalidNumber = refl
answers (InvalidCodepoint n) = refl
answers IllegalCharacter = refl
answers Forbidden = refl
