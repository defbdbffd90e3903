-- The terms in which the last character of a value is read off the end of its canonical form. No promise of a call rests on these. Assumes
-- nothing.
use Rattle.std.specs.Prelude.{◌≡◌, ℕ, ◌-◌, ◌≤◌, ◌<◌, Bool, List, [], ◌∷◌, ◌++◌, length, drop}
use Rattle.text.specs.Bytes.{pick, begins}
use Rattle.text.specs.Version.{Rule}
use Rattle.text.specs.Utf8.{WellFormed}
use Rattle.canonical.specs.Canonical.{canonical}

-- the form of some value
pub record FormOf (form : List ℕ) : Type 0 where
  pub rule : Rule
  pub value : List ℕ
  pub whole : WellFormed value
  pub some : 1 ≤ length value
  pub is : form ≡ canonical rule value

-- one character
pub data Single : List ℕ → Type 0 where
  one : {a : ℕ} → a < 0x80 → Single (a ∷ [])
  two : {a b : ℕ} → 0xC2 ≤ a → a < 0xE0 → 0x80 ≤ b → b < 0xC0 → Single (a ∷ b ∷ [])
  three : {a b c : ℕ} → 0xE0 ≤ a → a < 0xF0 → 0x80 ≤ b → b < 0xC0 → 0x80 ≤ c → c < 0xC0 → Single (a ∷ b ∷ c ∷ [])
  four : {a b c d : ℕ} → 0xF0 ≤ a → 0x80 ≤ b → b < 0xC0 → 0x80 ≤ c → c < 0xC0 → 0x80 ≤ d → d < 0xC0 → Single (a ∷ b ∷ c ∷ d ∷ [])

-- the form ends with a character as it is
pub record LastRaw (form : List ℕ) : Type 0 where
  pub front : List ℕ
  pub char : List ℕ
  pub single : Single char
  pub is : form ≡ front ++ char

-- the form ends with these bytes
abbrev pub ends_with : List ℕ → List ℕ → Bool
ends_with bytes form = begins bytes (drop (length form - length bytes) form)

-- the character of the reference with which the form ends, by number; `;` where it ends with none
unfoldable pub last_numbered : List ℕ → List ℕ
last_numbered form =
    pick (ends_with (38 ∷ 35 ∷ 49 ∷ 51 ∷ 59 ∷ []) form) (13 ∷ [])
    (pick (ends_with (38 ∷ 35 ∷ 49 ∷ 48 ∷ 59 ∷ []) form) (10 ∷ [])
    (pick (ends_with (38 ∷ 35 ∷ 57 ∷ 59 ∷ []) form) (9 ∷ [])
    (pick (ends_with (38 ∷ 35 ∷ 49 ∷ 51 ∷ 51 ∷ 59 ∷ []) form) (0xC2 ∷ 0x85 ∷ [])
    (pick (ends_with (38 ∷ 35 ∷ 56 ∷ 50 ∷ 51 ∷ 50 ∷ 59 ∷ []) form) (0xE2 ∷ 0x80 ∷ 0xA8 ∷ [])
    (59 ∷ [])))))

-- or by name
unfoldable pub last_named : List ℕ → List ℕ
unfolding last_numbered
last_named form =
    pick (ends_with (38 ∷ 108 ∷ 116 ∷ 59 ∷ []) form) (60 ∷ [])
    (pick (ends_with (38 ∷ 103 ∷ 116 ∷ 59 ∷ []) form) (62 ∷ [])
    (pick (ends_with (38 ∷ 97 ∷ 109 ∷ 112 ∷ 59 ∷ []) form) (38 ∷ [])
    (pick (ends_with (38 ∷ 97 ∷ 112 ∷ 111 ∷ 115 ∷ 59 ∷ []) form) (39 ∷ [])
    (pick (ends_with (38 ∷ 113 ∷ 117 ∷ 111 ∷ 116 ∷ 59 ∷ []) form) (34 ∷ [])
    (last_numbered form)))))
