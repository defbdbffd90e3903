-- The checks of a call on a register, in their order (document 02, K10). Assumes nothing.
use Rattle.std.specs.Prelude.{ℕ, List}
use Rattle.text.specs.Bytes.{pick}
use Rattle.text.specs.Call.{and_then, text_check, passed}
use Rattle.text.specs.Answers.{Answer}
use Rattle.text.specs.Answers.{Refused}
use Rattle.register.specs.Stored.{intact}

-- K10: refusal 28
unfoldable pub held_check : List ℕ → ℕ → Answer
unfolding intact
held_check buffer used = pick (intact buffer used) passed (Refused 28 0 0)

-- K10: 1 and 5 of the form, then 28
abbrev pub register_check : List ℕ → List ℕ → ℕ → Answer
register_check form buffer used = and_then (text_check form) (held_check buffer used)
