-- The least depth (document 02, K14). Assumes nothing.
use Rattle.std.specs.Prelude.{ℕ, zero, suc, Bool, true, false, List, eqb}
use Rattle.text.specs.Bytes.{pick}
use Rattle.text.specs.Answers.{Answer}
use Rattle.text.specs.Answers.{Done, Refused}
use Rattle.tokens.specs.Outcome.{Outcome, done, refused}
use Rattle.attribute.specs.Walk.{Settings, normalize}

-- is the depth used up: 16?
abbrev pub used_up : Outcome → Bool
used_up (done value openings) = false
used_up (refused before openings number first second) = eqb number 16

-- the first of `count` numbers from `from` on of which it does not hold; else the number after them
unfoldable pub first_not : (ℕ → Bool) → ℕ → ℕ → ℕ
first_not so from zero = from
first_not so from (suc count) = let rest = first_not so (suc from) count in pick (so from) rest from

-- K14: "A value met by another refusal at depth 128 gets that refusal. 32 when even depth 128 is answered by 16, in place of that 16"
unfoldable pub least_of : ℕ → Outcome → Answer
least_of least (done value openings) = Done least 0
least_of least (refused before openings number first second) = pick (eqb number 16) (Refused 32 0 0) (Refused number first second)

-- K14: "the smallest depth from 0 to 128 at which a value is accepted under its limit"
unfoldable pub least_depth : Settings → List ℕ → Answer
unfolding first_not least_of normalize
least_depth s t = least_of (first_not (λ e. used_up (normalize s e t)) 0 129) (normalize s 128 t)
