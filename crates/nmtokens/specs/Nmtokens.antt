-- The second stage over what a walk makes of a value (document 02, K5; document 01, Refusals by place). Assumes nothing.
use Rattle.std.specs.Prelude.{List, [], ◌∷◌, ℕ, ltb, length}
use Rattle.text.specs.Bytes.{pick}
use Rattle.text.specs.Call.{Called, called, laid}
use Rattle.collapse.specs.Collapse.{collapse}
use Rattle.tokens.specs.Outcome.{Outcome, done, refused}

-- 18 where the scratch is shorter than the value; else it holds the value, its rest kept, after 19 too
unfoldable pub collapsed : Outcome → List ℕ → List ℕ → Called
unfolding collapse
collapsed (done value openings) scratch out =
    pick (ltb (length scratch) (length value)) (called 18 (length value ∷ 0 ∷ []) (scratch ∷ out ∷ []))
    (pick (ltb (length out) (length (collapse value))) (called 19 (length (collapse value) ∷ 0 ∷ []) (laid value scratch ∷ out ∷ []))
    (called 0 (length (collapse value) ∷ openings ∷ []) (laid value scratch ∷ laid (collapse value) out ∷ [])))
collapsed (refused before openings number first second) scratch out = called number (first ∷ second ∷ []) (scratch ∷ out ∷ [])
