-- A value in the first bytes of a buffer, as much of it as there is room for. Assumes nothing.
use Rattle.std.specs.Prelude.{ℕ, List, [], ◌∷◌}

-- the rest of the buffer keeps its bytes
abbrev pub over : List ℕ → List ℕ → List ℕ
over [] old = old
over (v ∷ vs) [] = []
over (v ∷ vs) (o ∷ os) = v ∷ over vs os
