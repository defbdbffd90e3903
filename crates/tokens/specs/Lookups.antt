-- The names that a reading asks a table for (document 02, K13). Assumes nothing.
use Rattle.std.specs.Prelude.{ℕ, List, [], ◌∷◌, ◌++◌}
use Rattle.tokens.specs.Tokens.{Stop, Token, copy, stop, barred}
use Rattle.tokens.specs.Outcome.{Outcome, done, refused}

-- K13: after an answer the rest is read, with the openings so far; after a refusal nothing
abbrev pub unless_refused : Outcome → (ℕ → List (List ℕ)) → List (List ℕ)
unless_refused (done value openings) rest = rest openings
unless_refused (refused before openings number first second) rest = []

-- K13: the tokens from left to right, up to the first refusal: at each stop the names that `asked` gives it; `answer` as in `run`
unfoldable pub lookups : (Stop → ℕ → Outcome) → (Stop → ℕ → List (List ℕ)) → List Token → ℕ → List (List ℕ)
lookups answer asked [] openings = []
lookups answer asked (copy b ∷ ts) openings = lookups answer asked ts openings
lookups answer asked (stop s ∷ ts) openings = asked s openings ++ unless_refused (answer s openings) (λ n. lookups answer asked ts n)
lookups answer asked (barred offset ∷ ts) openings = []

-- each of these names
abbrev pub Each : (List ℕ → Type 0) → List (List ℕ) → Type 0
Each P [] = Unit {0}
Each P (name ∷ names) = P name × Each P names
