-- What the text of a character reference is read as (document 01, Character numbers; document 02, K8). Assumes nothing.
use Rattle.std.specs.Prelude.{ℕ}

-- what the digits write: a value of 32 bits, or what refuses them
pub data Parsed : Type 0 where
  Value : ℕ → Parsed
  Signed : Parsed
  NoNumber : Parsed

-- a character, or the refusal of its number: 12, 13, 14 with the value, 15; 25 where the rule does not allow the character
pub data CharNumber : Type 0 where
  Char : ℕ → CharNumber
  UnexpectedSign : CharNumber
  InvalidNumber : CharNumber
  InvalidCodepoint : ℕ → CharNumber
  IllegalCharacter : CharNumber
  Forbidden : CharNumber
