-- U+0085 and U+2028, which the canonical form of XML 1.1 has references for, and runs without them: the terms in which their search is
-- proved; no promise of a call rests on them. Assumes nothing.
use Rattle.std.specs.Prelude.{ℕ, ◌≤◌, ◌<◌, ◌≡◌, List, [], ◌∷◌, length, drop}
use Rattle.text.specs.Bytes.{pick, begins}
use Rattle.text.specs.Version.{Rule, xml10, xml11}

-- the width of the U+0085 or U+2028 at the head of a value, where the version has a reference for it; else 0
abbrev pub special : Rule → List ℕ → ℕ
special xml10 value = 0
special xml11 value = pick (begins (0xC2 ∷ 0x85 ∷ []) value) 2 (pick (begins (0xE2 ∷ 0x80 ∷ 0xA8 ∷ []) value) 3 0)

-- none of them starts from `i` up to `e`
pub record Common (r : Rule) (value : List ℕ) (i e : ℕ) : Type 0 where
  pub from : i ≤ e
  pub to : e ≤ length value
  pub none : (k : ℕ) → i ≤ k → k < e → special r (drop k value) ≡ 0
