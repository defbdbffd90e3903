-- The canonical writer (document 01, Canonical form). Assumes nothing.
use Rattle.std.specs.Prelude.{ℕ, zero, suc, List, [], ◌∷◌, ◌++◌}
use Rattle.text.specs.Bytes.{pick, begins}
use Rattle.text.specs.Version.{Rule, xml10, xml11}
use Rattle.escape.specs.Escape.{attribute, level_set, write_byte}

-- what is written for the byte b where bs follow it: level 3; under 1.1 also U+0085 as &#133; and U+2028 as &#8232;
unfoldable pub canonical_byte : Rule → ℕ → List ℕ → List ℕ
unfolding level_set
canonical_byte xml10 b bs = write_byte (level_set attribute) b
canonical_byte xml11 b bs =
    pick (begins (0xC2 ∷ 0x85 ∷ []) (b ∷ bs)) (38 ∷ 35 ∷ 49 ∷ 51 ∷ 51 ∷ 59 ∷ [])
    (pick (begins (0xE2 ∷ 0x80 ∷ 0xA8 ∷ []) (b ∷ bs)) (38 ∷ 35 ∷ 56 ∷ 50 ∷ 51 ∷ 50 ∷ 59 ∷ [])
    (write_byte (level_set attribute) b))

-- how many of bs it stands for too
unfoldable pub covered : Rule → ℕ → List ℕ → ℕ
covered xml10 b bs = 0
covered xml11 b bs =
    pick (begins (0xC2 ∷ 0x85 ∷ []) (b ∷ bs)) 1 (pick (begins (0xE2 ∷ 0x80 ∷ 0xA8 ∷ []) (b ∷ bs)) 2 0)

-- the value after `skip` bytes
unfoldable pub canonical_from : Rule → ℕ → List ℕ → List ℕ
unfolding canonical_byte covered
canonical_from r skip [] = []
canonical_from r (suc skip) (b ∷ bs) = canonical_from r skip bs
canonical_from r zero (b ∷ bs) = canonical_byte r b bs ++ canonical_from r (covered r b bs) bs

-- the canonical form of a normalized value
unfoldable pub canonical : Rule → List ℕ → List ℕ
unfolding canonical_from
canonical r value = canonical_from r 0 value
