-- The second stage of attribute-value normalization (XML 1.0, 3.3.3; document 02, K5), and the tokens between spaces. Assumes nothing.
use Rattle.std.specs.Prelude.{ℕ, suc, Bool, true, false, ◌&&◌, List, [], ◌∷◌, ◌++◌, drop, eqb}
use Rattle.text.specs.Bytes.{pick}

-- K5: "only U+0020 counts"
abbrev pub is_space : ℕ → Bool
is_space b = eqb b 32

-- how many spaces the text begins with
unfoldable pub spaces : List ℕ → ℕ
spaces [] = 0
spaces (b ∷ bs) = pick (is_space b) (suc (spaces bs)) 0

-- the text is empty; it begins with a space
unfoldable pub is_empty : List ℕ → Bool
is_empty [] = true
is_empty (b ∷ bs) = false

unfoldable pub space_first : List ℕ → Bool
space_first [] = false
space_first (b ∷ bs) = is_space b

-- K5: "drop leading spaces"
unfoldable pub drop_leading : List ℕ → List ℕ
unfolding spaces
drop_leading text = drop (spaces text) text

-- K5: "and trailing": a space after which nothing is left
unfoldable pub drop_trailing : List ℕ → List ℕ
unfolding is_empty
drop_trailing [] = []
drop_trailing (b ∷ bs) = pick (is_space b && is_empty (drop_trailing bs)) [] (b ∷ drop_trailing bs)

-- K5: "turn each run of spaces into one": a space before a space goes
unfoldable pub single_spaces : List ℕ → List ℕ
unfolding space_first
single_spaces [] = []
single_spaces (b ∷ bs) = pick (is_space b && space_first bs) (single_spaces bs) (b ∷ single_spaces bs)

-- K5: the second stage
unfoldable pub collapse : List ℕ → List ℕ
unfolding drop_leading drop_trailing single_spaces
collapse text = single_spaces (drop_trailing (drop_leading text))

-- a token ends before these bytes
unfoldable pub ends : List ℕ → Bool
ends [] = true
ends (b ∷ bs) = is_space b

-- a byte more at the start of the first token
abbrev pub push : ℕ → List (List ℕ) → List (List ℕ)
push b [] = (b ∷ []) ∷ []
push b (w ∷ ws) = (b ∷ w) ∷ ws

-- K5: the tokens, in order: the longest parts without a space that are not empty
unfoldable pub tokens : List ℕ → List (List ℕ)
unfolding ends
tokens [] = []
tokens (b ∷ bs) = pick (is_space b) (tokens bs) (pick (ends bs) ((b ∷ []) ∷ tokens bs) (push b (tokens bs)))

-- one space between each two
abbrev pub spaced : List (List ℕ) → List ℕ
spaced [] = []
spaced (w ∷ []) = w
spaced (w ∷ v ∷ vs) = w ++ 32 ∷ spaced (v ∷ vs)
