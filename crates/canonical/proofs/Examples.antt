-- Canonical forms of single characters, and the last characters of values, by computation. Assumes nothing.
use mathlib.Core.Path.{◌≡◌, refl}
use mathlib.Core.List.{[], ◌∷◌}
use Rattle.text.specs.Version.{xml10, xml11}
use Rattle.canonical.specs.Canonical.{canonical}
use Rattle.canonical.specs.LastCharacter.{in_hand}

-- document 01, Canonical form: TAB, U+0085 and U+2028 under 1.1; under 1.0 the latter two stay as they are
forms :
    (canonical xml11 (9 ∷ []) ≡ 38 ∷ 35 ∷ 57 ∷ 59 ∷ [])  -- &#9;
    × (canonical xml11 (0xC2 ∷ 0x85 ∷ []) ≡ 38 ∷ 35 ∷ 49 ∷ 51 ∷ 51 ∷ 59 ∷ [])  -- &#133;
    × (canonical xml11 (0xE2 ∷ 0x80 ∷ 0xA8 ∷ []) ≡ 38 ∷ 35 ∷ 56 ∷ 50 ∷ 51 ∷ 50 ∷ 59 ∷ [])  -- &#8232;
    × (canonical xml10 (9 ∷ []) ≡ 38 ∷ 35 ∷ 57 ∷ 59 ∷ [])
    × (canonical xml10 (0xC2 ∷ 0x85 ∷ []) ≡ 0xC2 ∷ 0x85 ∷ [])
    × (canonical xml10 (0xE2 ∷ 0x80 ∷ 0xA8 ∷ []) ≡ 0xE2 ∷ 0x80 ∷ 0xA8 ∷ [])
unfolding canonical
forms = (refl, refl, refl, refl, refl, refl)

-- document 02, K7: `½`; TAB; `&` and then `;`, whose form is `&amp;;`; U+0085; a character of four bytes; the last of several
hands :
    (in_hand (0xC2 ∷ 0xBD ∷ []) ≡ 0xC2 ∷ 0xBD ∷ 0 ∷ 0 ∷ [])
    × (in_hand (97 ∷ 9 ∷ []) ≡ 9 ∷ 0 ∷ 0 ∷ 0 ∷ [])
    × (in_hand (38 ∷ 59 ∷ []) ≡ 59 ∷ 0 ∷ 0 ∷ 0 ∷ [])
    × (canonical xml11 (38 ∷ 59 ∷ []) ≡ 38 ∷ 97 ∷ 109 ∷ 112 ∷ 59 ∷ 59 ∷ [])
    × (in_hand (97 ∷ 0xC2 ∷ 0x85 ∷ []) ≡ 0xC2 ∷ 0x85 ∷ 0 ∷ 0 ∷ [])
    × (in_hand (0xF0 ∷ 0x9F ∷ 0x98 ∷ 0x80 ∷ []) ≡ 0xF0 ∷ 0x9F ∷ 0x98 ∷ 0x80 ∷ [])
    × (in_hand (0xE2 ∷ 0x80 ∷ 0xA8 ∷ 98 ∷ []) ≡ 98 ∷ 0 ∷ 0 ∷ 0 ∷ [])
unfolding canonical in_hand
hands = (refl, refl, refl, refl, refl, refl, refl)
