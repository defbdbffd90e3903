-- K11's definitions on the smallest inputs, each a case that is easily misread. Assumes nothing.
use mathlib.Core.Path.{◌≡◌, refl}
use mathlib.Core.Bool.{true, false}
use mathlib.Core.List.{[], ◌∷◌}
use Prim.Native.Nat.{ℕ}
use lib.ListN.{replicate}
use Rattle.text.specs.Call.{length_check, version_check, utf8_check}
use Rattle.text.specs.Utf8.{utf8_end}
use Rattle.text.specs.Answers.{Refused}
use Rattle.entity.specs.Table.{table_check}
use Rattle.attribute.specs.Checks.{settings_check}
use Rattle.walk_rehearsal.specs.declared.Span.{Span}
use Rattle.walk_rehearsal.specs.Rehearsal.{Accepted, Fallen}
use Rattle.walk_rehearsal.specs.Rehearsal.{leaves_text, inside, spans_check, counted}
use Rattle.walk_rehearsal.specs.Turns.{job_check}

abbrev at : ℕ → ℕ → Span
at start size = record { start = start; length = size }

-- an accepted value of three bytes: word 0, and the total
accepted : counted (Accepted 3) (replicate 29 0) ≡ 1 ∷ 0 ∷ 0 ∷ 0 ∷ 0 ∷ 0 ∷ 0 ∷ 0 ∷ 0 ∷ 0 ∷ 0 ∷ 0 ∷ 0 ∷ 0 ∷ 0 ∷ 0 ∷ 0 ∷ 0 ∷ 0 ∷ 0 ∷ 0 ∷ 0 ∷ 0 ∷ 0 ∷ 0 ∷ 0 ∷ 0 ∷ 0 ∷ 3 ∷ []
unfolding counted
accepted = refl

-- a refusal by 27: the last of the counts
external : counted (Fallen 27) (replicate 29 0) ≡ 0 ∷ 0 ∷ 0 ∷ 0 ∷ 0 ∷ 0 ∷ 0 ∷ 0 ∷ 0 ∷ 0 ∷ 0 ∷ 0 ∷ 0 ∷ 0 ∷ 0 ∷ 0 ∷ 0 ∷ 0 ∷ 0 ∷ 0 ∷ 0 ∷ 0 ∷ 0 ∷ 0 ∷ 0 ∷ 0 ∷ 0 ∷ 1 ∷ 0 ∷ []
unfolding counted
external = refl

-- 5 and 2^64 - 1: in 64 bits the end would be 4
wrapped : leaves_text 9 (at 5 18446744073709551615) ≡ true
wrapped = refl

-- an empty span at the end stays inside
empty : leaves_text 9 (at 9 0) ≡ false
empty = refl

-- of two that leave, the first
first : spans_check 9 (at 0 4 ∷ at 5 5 ∷ at 9 1 ∷ []) ≡ Refused 31 1 0
unfolding spans_check inside
first = refl

-- a list without its end, and a span that leaves: 7
table : job_check [] 0 0 0 [] [] 1 0 ≡ Refused 7 0 0
unfolding length_check settings_check version_check utf8_check utf8_end table_check
table = refl
