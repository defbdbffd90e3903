-- What holds of each token (document 02, K5): the terms of its theorems. Assumes nothing.
use Rattle.std.specs.Prelude.{ℕ, ◌≡◌, Bool, false, ◌||◌, List, [], ◌∷◌}
use Rattle.collapse.specs.Collapse.{is_space, is_empty}

-- a space stands somewhere in the bytes
abbrev pub space_in : List ℕ → Bool
space_in [] = false
space_in (b ∷ bs) = is_space b || space_in bs

-- K5: a token is not empty and holds no space
pub record Clean (token : List ℕ) : Type 0 where
  pub some : is_empty token ≡ false
  pub free : space_in token ≡ false
