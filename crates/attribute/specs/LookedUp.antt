-- The names that reading an attribute value looks up (document 02, K13), over the tokens of the walk. Assumes nothing.
use Rattle.std.specs.Prelude.{ℕ, zero, suc, List, [], ◌∷◌, eqb}
use Rattle.text.specs.Bytes.{pick, same_bytes}
use Rattle.entity.specs.Binding.{Bound, text, external, predefined, unknown}
use Rattle.tokens.specs.Tokens.{Stop, kept, space, number, named, unterminated, Heads, tokens}
use Rattle.tokens.specs.Lookups.{lookups}
use Rattle.attribute.specs.Walk.{Settings, answer, walk}

-- "Names looked up in replacement texts count as well": where the text is opened (`opened`); none where 17, 27 or 11 keeps it closed
unfoldable pub names_inside : ℕ → (List ℕ → ℕ → List (List ℕ)) → Bound → ℕ → List (List ℕ)
names_inside limit names (text t) openings = let inner = names t (suc openings) in pick (eqb openings limit) [] inner
names_inside limit names external openings = []
names_inside limit names (predefined t) openings = names t openings
names_inside limit names unknown openings = []

-- the name of a reference, and those of its replacement text; `amp` gives `&` without asking the table
unfoldable pub names_at : Settings → (List ℕ → ℕ → List (List ℕ)) → Stop → ℕ → List (List ℕ)
unfolding names_inside
names_at s names (kept b) openings = []
names_at s names space openings = []
names_at s names (number digits) openings = []
names_at s names (named offset name) openings =
    let inside = names_inside s.limit names (s.bind name) openings in
    pick (same_bytes name (97 ∷ 109 ∷ 112 ∷ [])) [] (name ∷ inside)
names_at s names (unterminated offset end) openings = []

-- those of a text that is walked with a depth, in order, up to the refusal; at depth 0 every stop is 16, and none is looked up
unfoldable pub walk_names : Settings → Heads → ℕ → List ℕ → ℕ → List (List ℕ)
unfolding lookups tokens answer walk names_at
walk_names s at zero t openings = []
walk_names s at (suc depth) t openings =
    lookups (answer s (λ u n. walk s s.inner depth u n)) (names_at s (λ u n. walk_names s s.inner depth u n)) (tokens at 0 0 t) openings

-- the names that normalizing a value looks up
unfoldable pub looked_up : Settings → ℕ → List ℕ → List (List ℕ)
unfolding walk_names
looked_up s depth t = walk_names s s.outer depth t 0
