-- What a call answers as documents 01 and 02 have it: its first and second on success, else the refusal's number with first and second.
-- Assumes nothing.
use Rattle.std.specs.Prelude.{ℕ}

pub data Answer : Type 0 where
  Done : ℕ → ℕ → Answer
  Refused : ℕ → ℕ → ℕ → Answer
