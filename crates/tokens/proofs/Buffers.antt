-- A buffer that is too short, by its refusal's number. Assumes nothing.
use mathlib.Core.Path.{◌≡◌}
use Prim.Native.Nat.{ℕ}
use Rattle.std.specs.Prelude.{Err}
use Rattle.text.specs.Answers.{Refused}
use Rattle.text.specs.Call.{answered}
use Rattle.text.specs.declared.refusals.Refusal.{Refusal}
use Rattle.tokens.specs.Walking.{short_of, too_short}
use Rattle.tokens.specs.declared.Buffer.{Buffer}
use Rattle.tokens.specs.declared.Buffer.TheVariants.{Scratch, Output, Numbered}

pub short_answer : (b : Buffer) (needed : ℕ) {r : Refusal} → r ≡ too_short b needed → answered (Err r) ≡ Refused (short_of b) needed 0
short_answer Scratch needed e = rw e
short_answer Output needed e = rw e
short_answer (Numbered number) needed e = rw e
