-- The last character of a value (document 02, K7). Assumes nothing.
use Rattle.std.specs.Prelude.{ℕ, zero, suc, List, [], ◌∷◌, ◌++◌}
use Rattle.text.specs.Bytes.{pick, within}

-- K7: a byte that is no UTF8-tail (RFC 3629, section 4) starts a character, which is then in hand
unfoldable pub last_from : List ℕ → List ℕ → List ℕ
last_from held [] = held
last_from held (b ∷ bs) = last_from (pick (within 0x80 0xBF b) (held ++ (b ∷ [])) (b ∷ [])) bs

-- K7: the last character of the value
unfoldable pub last_character : List ℕ → List ℕ
unfolding last_from
last_character value = last_from [] value

-- K7: filled up with zero bytes
unfoldable pub filled_up : ℕ → List ℕ → List ℕ
filled_up zero bytes = []
filled_up (suc n) [] = 0 ∷ filled_up n []
filled_up (suc n) (b ∷ bs) = b ∷ filled_up n bs

-- K7: the first 4 bytes of the scratch after success
unfoldable pub in_hand : List ℕ → List ℕ
unfolding last_character filled_up
in_hand value = filled_up 4 (last_character value)
