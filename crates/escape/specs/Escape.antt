-- Replacement sets, and the four escape levels as instances (document 01, Escape levels); the references of Canonical XML. Assumes nothing.
use Rattle.std.specs.Prelude.{ℕ, Bool, ◌||◌, List, [], ◌∷◌, ◌++◌, eqb, leb}
use Rattle.text.specs.Bytes.{pick}
use Rattle.text.specs.Call.{passed}
use Rattle.text.specs.Answers.{Answer}
use Rattle.text.specs.Answers.{Refused}

-- Escape levels: the bytes that a writer replaces, and by what
pub record Replacements : Type 0 where
  pub picks : ℕ → Bool
  pub by : ℕ → List ℕ

-- Escape levels: all else is copied
abbrev pub write_byte : Replacements → ℕ → List ℕ
write_byte set b = pick (set.picks b) (set.by b) (b ∷ [])

-- Escape levels: each byte by its rule
unfoldable pub write : Replacements → List ℕ → List ℕ
write set [] = []
write set (b ∷ bs) = write_byte set b ++ write set bs

-- Escape levels: `escape`, `partial_escape`, `minimal_escape`, `escape_attribute`
pub data Level : Type 0 where
  full partial minimal attribute : Level

-- Escape levels: level bytes 0 to 3; total, since a call refuses others first
unfoldable pub level_of : ℕ → Level
level_of level = pick (eqb level 0) full (pick (eqb level 1) partial (pick (eqb level 2) minimal attribute))

-- Escape levels: < & CR; and >; and ' "; and LF TAB
unfoldable pub escaped : Level → ℕ → Bool
escaped minimal b = eqb b 60 || eqb b 38 || eqb b 13
escaped partial b = eqb b 62 || eqb b 60 || eqb b 38 || eqb b 13
escaped full b = eqb b 39 || eqb b 34 || eqb b 62 || eqb b 60 || eqb b 38 || eqb b 13
escaped attribute b = eqb b 10 || eqb b 9 || eqb b 39 || eqb b 34 || eqb b 62 || eqb b 60 || eqb b 38 || eqb b 13

-- Escape levels: &lt; &gt; &amp; &apos; &quot; &#13; &#10; &#9;
unfoldable pub reference : ℕ → List ℕ
reference b =
    pick (eqb b 60) (38 ∷ 108 ∷ 116 ∷ 59 ∷ [])
    (pick (eqb b 62) (38 ∷ 103 ∷ 116 ∷ 59 ∷ [])
    (pick (eqb b 38) (38 ∷ 97 ∷ 109 ∷ 112 ∷ 59 ∷ [])
    (pick (eqb b 39) (38 ∷ 97 ∷ 112 ∷ 111 ∷ 115 ∷ 59 ∷ [])
    (pick (eqb b 34) (38 ∷ 113 ∷ 117 ∷ 111 ∷ 116 ∷ 59 ∷ [])
    (pick (eqb b 13) (38 ∷ 35 ∷ 49 ∷ 51 ∷ 59 ∷ [])
    (pick (eqb b 10) (38 ∷ 35 ∷ 49 ∷ 48 ∷ 59 ∷ [])
    (pick (eqb b 9) (38 ∷ 35 ∷ 57 ∷ 59 ∷ [])
    (b ∷ []))))))))

-- Escape levels: the four as replacement sets
unfoldable pub level_set : Level → Replacements
unfolding escaped reference
level_set level = record { picks = escaped level; by = reference }

-- Refusals by place, 4: the level bytes that are known
abbrev pub known_level : ℕ → Bool
known_level level = leb level 3

-- Refusals by place, 4: unknown level byte
unfoldable pub level_check : ℕ → Answer
level_check level = pick (known_level level) passed (Refused 4 0 0)

-- document 02, K1; Canonical XML 1.0, 2.3: &#x9; &#xA; &#xD;, and the others by name, as the levels write them
unfoldable pub hex_reference : ℕ → List ℕ
unfolding reference
hex_reference b =
    pick (eqb b 9) (38 ∷ 35 ∷ 120 ∷ 57 ∷ 59 ∷ [])
    (pick (eqb b 10) (38 ∷ 35 ∷ 120 ∷ 65 ∷ 59 ∷ [])
    (pick (eqb b 13) (38 ∷ 35 ∷ 120 ∷ 68 ∷ 59 ∷ [])
    (reference b)))
