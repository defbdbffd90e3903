-- Document 01's seams for CDATA and for blanks alone, computed. Assumes nothing.
use mathlib.Core.Path.{◌≡◌, refl}
use mathlib.Core.List.{[], ◌∷◌}
use Rattle.utils.specs.Trim.{trim_start, trim_end, trim_spaces}
use Rattle.utils.specs.CData.{stepped, cdata_step}
use Rattle.utils.specs.Pieces.{pieces, calls, cursor_at}
use Rattle.utils.specs.CData.{part, no_more, outside_at}

table :
    (calls 2 [] (cursor_at 0 0) ≡ stepped (part 0 0) 0 1 ∷ stepped no_more 0 1 ∷ [])  -- the empty text
    × (pieces [] ≡ [] ∷ [])
    × (calls 4 (93 ∷ 93 ∷ 62 ∷ 93 ∷ 93 ∷ 62 ∷ []) (cursor_at 0 0)
    ≡ stepped (part 0 2) 2 0 ∷ stepped (part 2 3) 5 0 ∷ stepped (part 5 1) 5 1 ∷ stepped no_more 5 1 ∷ [])  -- ]]>]]>
    × (pieces (93 ∷ 93 ∷ 62 ∷ 93 ∷ 93 ∷ 62 ∷ []) ≡ (93 ∷ 93 ∷ []) ∷ (62 ∷ 93 ∷ 93 ∷ []) ∷ (62 ∷ []) ∷ [])
    × (cdata_step (93 ∷ 93 ∷ 62 ∷ []) (cursor_at 1 0) ≡ stepped (part 1 2) 1 1)  -- ]]> from the second ]
    × (cdata_step (0xC2 ∷ 0xBD ∷ []) (cursor_at 1 1) ≡ stepped (outside_at 1) 1 1)  -- inside a character, finished
    × (cdata_step [] (cursor_at 1 7) ≡ stepped (outside_at 1) 1 7)  -- past the end, finished
    × (trim_start (32 ∷ 9 ∷ []) ≡ record { start = 2; length = 0 })
    × (trim_end (32 ∷ 9 ∷ []) ≡ record { start = 0; length = 0 })
    × (trim_spaces (13 ∷ 10 ∷ []) ≡ record { start = 2; length = 0 })
    × (trim_spaces (32 ∷ 97 ∷ 32 ∷ 98 ∷ 10 ∷ []) ≡ record { start = 1; length = 3 })
unfolding pieces calls trim_start trim_end trim_spaces
table = (refl, refl, refl, refl, refl, refl, refl, refl, refl, refl, refl)
