-- What the words of a report count. Assumes nothing.
use Rattle.std.specs.Prelude.{ℕ, zero, suc, ◌+◌, List, [], ◌∷◌, eqb, get_or}
use Rattle.text.specs.Bytes.{pick}
use Rattle.walk_rehearsal.specs.declared.Span.{Span}
use Rattle.walk_rehearsal.specs.Rehearsal.{Verdict}
use Rattle.walk_rehearsal.specs.Rehearsal.{Accepted, Fallen}

-- what a verdict adds to word j
abbrev pub share : ℕ → Verdict → ℕ
share j (Accepted size) = pick (eqb j 0) 1 0 + pick (eqb j 28) size 0
share j (Fallen number) = pick (eqb j number) 1 0

-- the sum over the spans
abbrev pub summed : (Span → ℕ) → List Span → ℕ
summed f [] = 0
summed f (s ∷ ss) = f s + summed f ss

-- the sum of the first n words
unfoldable pub first_words : ℕ → List ℕ → ℕ
first_words zero words = 0
first_words (suc n) words = first_words n words + get_or words n 0
