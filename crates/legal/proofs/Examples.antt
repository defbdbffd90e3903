-- The edges of every range of XML 1.0 and 1.1, 2.2, as numbers and in bytes, computed. Assumes nothing.
use mathlib.Core.Path.{◌≡◌, refl}
use Prim.Native.Nat.{ℕ}
use mathlib.Core.Bool.{Bool, true, false}
use mathlib.Core.List.{List, [], ◌∷◌}
use Rattle.text.specs.Version.{xml10, xml11}
use Rattle.legal.specs.Legal.{in_value, in_table, may_stand}
use Rattle.legal.specs.FirstFault.{faults_by}

-- may the character stand in a value and in a text of the table: under 1.0, then under 1.1
stands : ℕ → List Bool
stands n = may_stand in_value xml10 n ∷ may_stand in_table xml10 n ∷ may_stand in_value xml11 n ∷ may_stand in_table xml11 n ∷ []

controls :
    (stands 0x0 ≡ false ∷ false ∷ false ∷ false ∷ [])
    × (stands 0x1 ≡ false ∷ false ∷ false ∷ true ∷ [])
    × (stands 0x8 ≡ false ∷ false ∷ false ∷ true ∷ [])
    × (stands 0x9 ≡ true ∷ true ∷ true ∷ true ∷ [])
    × (stands 0xA ≡ true ∷ true ∷ true ∷ true ∷ [])
    × (stands 0xB ≡ false ∷ false ∷ false ∷ true ∷ [])
    × (stands 0xC ≡ false ∷ false ∷ false ∷ true ∷ [])
    × (stands 0xD ≡ true ∷ true ∷ true ∷ true ∷ [])
    × (stands 0xE ≡ false ∷ false ∷ false ∷ true ∷ [])
    × (stands 0x1F ≡ false ∷ false ∷ false ∷ true ∷ [])
    × (stands 0x20 ≡ true ∷ true ∷ true ∷ true ∷ [])
    × (stands 0x7E ≡ true ∷ true ∷ true ∷ true ∷ [])
    × (stands 0x7F ≡ true ∷ true ∷ false ∷ true ∷ [])
    × (stands 0x80 ≡ true ∷ true ∷ false ∷ true ∷ [])
    × (stands 0x84 ≡ true ∷ true ∷ false ∷ true ∷ [])
    × (stands 0x85 ≡ true ∷ true ∷ true ∷ true ∷ [])
    × (stands 0x86 ≡ true ∷ true ∷ false ∷ true ∷ [])
    × (stands 0x9F ≡ true ∷ true ∷ false ∷ true ∷ [])
    × (stands 0xA0 ≡ true ∷ true ∷ true ∷ true ∷ [])
unfolding stands may_stand
controls = (refl, refl, refl, refl, refl, refl, refl, refl, refl, refl, refl, refl, refl, refl, refl, refl, refl, refl, refl)

planes :
    (stands 0xD7FF ≡ true ∷ true ∷ true ∷ true ∷ [])
    × (stands 0xD800 ≡ false ∷ false ∷ false ∷ false ∷ [])
    × (stands 0xDFFF ≡ false ∷ false ∷ false ∷ false ∷ [])
    × (stands 0xE000 ≡ true ∷ true ∷ true ∷ true ∷ [])
    × (stands 0xFFFD ≡ true ∷ true ∷ true ∷ true ∷ [])
    × (stands 0xFFFE ≡ false ∷ false ∷ false ∷ false ∷ [])
    × (stands 0xFFFF ≡ false ∷ false ∷ false ∷ false ∷ [])
    × (stands 0x10000 ≡ true ∷ true ∷ true ∷ true ∷ [])
    × (stands 0x10FFFF ≡ true ∷ true ∷ true ∷ true ∷ [])
    × (stands 0x110000 ≡ false ∷ false ∷ false ∷ false ∷ [])
unfolding stands may_stand
planes = (refl, refl, refl, refl, refl, refl, refl, refl, refl, refl)

-- does a character that may not stand begin the bytes: under 1.0, in a value under 1.1, in a text of the table under 1.1
faults : List ℕ → List Bool
faults bytes = faults_by 0 bytes ∷ faults_by 1 bytes ∷ faults_by 2 bytes ∷ []

controls_in_bytes :
    (faults (0x00 ∷ []) ≡ true ∷ true ∷ true ∷ [])  -- U+0000
    × (faults (0x01 ∷ []) ≡ true ∷ true ∷ false ∷ [])  -- U+0001
    × (faults (0x08 ∷ []) ≡ true ∷ true ∷ false ∷ [])  -- U+0008
    × (faults (0x09 ∷ []) ≡ false ∷ false ∷ false ∷ [])  -- U+0009
    × (faults (0x0A ∷ []) ≡ false ∷ false ∷ false ∷ [])  -- U+000A
    × (faults (0x0B ∷ []) ≡ true ∷ true ∷ false ∷ [])  -- U+000B
    × (faults (0x0C ∷ []) ≡ true ∷ true ∷ false ∷ [])  -- U+000C
    × (faults (0x0D ∷ []) ≡ false ∷ false ∷ false ∷ [])  -- U+000D
    × (faults (0x0E ∷ []) ≡ true ∷ true ∷ false ∷ [])  -- U+000E
    × (faults (0x1F ∷ []) ≡ true ∷ true ∷ false ∷ [])  -- U+001F
    × (faults (0x20 ∷ []) ≡ false ∷ false ∷ false ∷ [])  -- U+0020
    × (faults (0x7E ∷ []) ≡ false ∷ false ∷ false ∷ [])  -- U+007E
    × (faults (0x7F ∷ []) ≡ false ∷ true ∷ false ∷ [])  -- U+007F
    × (faults (0xC2 ∷ 0x80 ∷ []) ≡ false ∷ true ∷ false ∷ [])  -- U+0080
    × (faults (0xC2 ∷ 0x84 ∷ []) ≡ false ∷ true ∷ false ∷ [])  -- U+0084
    × (faults (0xC2 ∷ 0x85 ∷ []) ≡ false ∷ false ∷ false ∷ [])  -- U+0085
    × (faults (0xC2 ∷ 0x86 ∷ []) ≡ false ∷ true ∷ false ∷ [])  -- U+0086
    × (faults (0xC2 ∷ 0x9F ∷ []) ≡ false ∷ true ∷ false ∷ [])  -- U+009F
    × (faults (0xC2 ∷ 0xA0 ∷ []) ≡ false ∷ false ∷ false ∷ [])  -- U+00A0
unfolding faults faults_by
controls_in_bytes = (refl, refl, refl, refl, refl, refl, refl, refl, refl, refl, refl, refl, refl, refl, refl, refl, refl, refl, refl)

planes_in_bytes :
    (faults (0xED ∷ 0x9F ∷ 0xBF ∷ []) ≡ false ∷ false ∷ false ∷ [])  -- U+D7FF
    × (faults (0xEE ∷ 0x80 ∷ 0x80 ∷ []) ≡ false ∷ false ∷ false ∷ [])  -- U+E000
    × (faults (0xEF ∷ 0xBF ∷ 0xBD ∷ []) ≡ false ∷ false ∷ false ∷ [])  -- U+FFFD
    × (faults (0xEF ∷ 0xBF ∷ 0xBE ∷ []) ≡ true ∷ true ∷ true ∷ [])  -- U+FFFE
    × (faults (0xEF ∷ 0xBF ∷ 0xBF ∷ []) ≡ true ∷ true ∷ true ∷ [])  -- U+FFFF
    × (faults (0xF0 ∷ 0x90 ∷ 0x80 ∷ 0x80 ∷ []) ≡ false ∷ false ∷ false ∷ [])  -- U+10000
    × (faults (0xF4 ∷ 0x8F ∷ 0xBF ∷ 0xBF ∷ []) ≡ false ∷ false ∷ false ∷ [])  -- U+10FFFF
unfolding faults faults_by
planes_in_bytes = (refl, refl, refl, refl, refl, refl, refl)

other_bytes :
    (faults (0x80 ∷ []) ≡ false ∷ false ∷ false ∷ [])  -- a byte inside of a character
    × (faults (0xBF ∷ []) ≡ false ∷ false ∷ false ∷ [])  -- the same
    × (faults (0xC2 ∷ []) ≡ false ∷ false ∷ false ∷ [])  -- a character cut short
    × (faults (0xEF ∷ 0xBF ∷ []) ≡ false ∷ false ∷ false ∷ [])  -- the same
    × (faults (0xC0 ∷ 0x80 ∷ []) ≡ false ∷ false ∷ false ∷ [])  -- U+0000 in two bytes, which is no UTF-8
    × (faults (0xED ∷ 0xA0 ∷ 0x80 ∷ []) ≡ false ∷ false ∷ false ∷ [])  -- U+D800, the same
    × (faults (0xF4 ∷ 0x90 ∷ 0x80 ∷ 0x80 ∷ []) ≡ false ∷ false ∷ false ∷ [])  -- U+110000, the same
    × (faults (0x41 ∷ 0x00 ∷ []) ≡ false ∷ false ∷ false ∷ [])  -- what follows a character has no say
    × (faults (0xEF ∷ 0xBF ∷ 0xBE ∷ 0x41 ∷ []) ≡ true ∷ true ∷ true ∷ [])  -- the same
unfolding faults faults_by
other_bytes = (refl, refl, refl, refl, refl, refl, refl, refl, refl)
