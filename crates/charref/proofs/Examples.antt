-- Document 01's seams for character numbers and the characters of RFC 3629, section 7, computed. Assumes nothing.
use mathlib.Core.Path.{◌≡◌, refl}
use Prim.Native.Nat.{ℕ}
use mathlib.Core.List.{List, [], ◌∷◌}
use Rattle.text.specs.Answers.{Answer}
use Rattle.text.specs.Answers.{Done, Refused}
use Rattle.charref.specs.CharRef.{char_number, any_character, only_char, number_answer, encode}
use Rattle.charref.specs.Reading.{legal_by}

answers : List ℕ → Answer
answers text = number_answer (char_number any_character text)

table :
    (answers (120 ∷ 52 ∷ 49 ∷ []) ≡ Done 65 0)  -- x41
    × (answers (54 ∷ 53 ∷ []) ≡ Done 65 0)  -- 65
    × (answers (43 ∷ 49 ∷ []) ≡ Refused 12 0 0)  -- +1
    × (answers (45 ∷ 49 ∷ []) ≡ Refused 12 0 0)  -- -1
    × (answers (120 ∷ 43 ∷ 49 ∷ []) ≡ Refused 12 0 0)  -- x+1
    × (answers (88 ∷ 52 ∷ 49 ∷ []) ≡ Refused 13 0 0)  -- X41
    × (answers [] ≡ Refused 13 0 0)  -- the empty text
    × (answers (120 ∷ []) ≡ Refused 13 0 0)  -- x
    × (answers (120 ∷ 120 ∷ 49 ∷ []) ≡ Refused 13 0 0)  -- xx1
    × (answers (52 ∷ 97 ∷ []) ≡ Refused 13 0 0)  -- 4a
    × (answers (120 ∷ 103 ∷ []) ≡ Refused 13 0 0)  -- xg
    × (answers (48 ∷ 43 ∷ 49 ∷ []) ≡ Refused 13 0 0)  -- 0+1
    × (answers (52 ∷ 50 ∷ 57 ∷ 52 ∷ 57 ∷ 54 ∷ 55 ∷ 50 ∷ 57 ∷ 53 ∷ []) ≡ Refused 14 4294967295 0)  -- 4294967295
    × (answers (52 ∷ 50 ∷ 57 ∷ 52 ∷ 57 ∷ 54 ∷ 55 ∷ 50 ∷ 57 ∷ 54 ∷ []) ≡ Refused 13 0 0)  -- 4294967296
    × (answers (120 ∷ 48 ∷ 48 ∷ 48 ∷ 48 ∷ 48 ∷ 48 ∷ 48 ∷ 48 ∷ 48 ∷ 52 ∷ 49 ∷ []) ≡ Done 65 0)  -- x00000000041
    × (answers (120 ∷ 68 ∷ 56 ∷ 48 ∷ 48 ∷ []) ≡ Refused 14 55296 0)  -- xD800
    × (answers (120 ∷ 100 ∷ 102 ∷ 102 ∷ 102 ∷ []) ≡ Refused 14 57343 0)  -- xdfff
    × (answers (120 ∷ 69 ∷ 48 ∷ 48 ∷ 48 ∷ []) ≡ Done 57344 0)  -- xE000
    × (answers (49 ∷ 49 ∷ 49 ∷ 52 ∷ 49 ∷ 49 ∷ 49 ∷ []) ≡ Done 1114111 0)  -- 1114111
    × (answers (49 ∷ 49 ∷ 49 ∷ 52 ∷ 49 ∷ 49 ∷ 50 ∷ []) ≡ Refused 14 1114112 0)  -- 1114112
    × (answers (48 ∷ []) ≡ Refused 15 0 0)  -- 0
    × (answers (120 ∷ 48 ∷ 48 ∷ []) ≡ Refused 15 0 0)  -- x00
    × (answers (49 ∷ []) ≡ Done 1 0)  -- 1
    × (encode 0x41 ≡ 0x41 ∷ [])  -- U+0041
    × (encode 0x391 ≡ 0xCE ∷ 0x91 ∷ [])  -- U+0391
    × (encode 0x2262 ≡ 0xE2 ∷ 0x89 ∷ 0xA2 ∷ [])  -- U+2262
    × (encode 0xD55C ≡ 0xED ∷ 0x95 ∷ 0x9C ∷ [])  -- U+D55C
    × (encode 0x233B4 ≡ 0xF0 ∷ 0xA3 ∷ 0x8E ∷ 0xB4 ∷ [])  -- U+233B4
    × (encode 0x10FFFF ≡ 0xF4 ∷ 0x8F ∷ 0xBF ∷ 0xBF ∷ [])  -- U+10FFFF
unfolding answers number_answer char_number encode
table = (refl, refl, refl, refl, refl, refl, refl, refl, refl, refl, refl, refl, refl, refl, refl, refl, refl, refl, refl, refl, refl, refl, refl, refl, refl, refl, refl, refl, refl)

-- the answers of the three rules: lenient, Char of XML 1.0, Char of XML 1.1
by_rules : List ℕ → List Answer
by_rules text = number_answer (char_number (legal_by 0) text) ∷ number_answer (char_number (legal_by 1) text) ∷ number_answer (char_number (legal_by 2) text) ∷ []

rules :
    (by_rules (49 ∷ []) ≡ Done 1 0 ∷ Refused 25 0 0 ∷ Done 1 0 ∷ [])  -- 1
    × (by_rules (57 ∷ []) ≡ Done 9 0 ∷ Done 9 0 ∷ Done 9 0 ∷ [])  -- 9
    × (by_rules (120 ∷ 49 ∷ 70 ∷ []) ≡ Done 31 0 ∷ Refused 25 0 0 ∷ Done 31 0 ∷ [])  -- x1F
    × (by_rules (120 ∷ 70 ∷ 70 ∷ 70 ∷ 68 ∷ []) ≡ Done 65533 0 ∷ Done 65533 0 ∷ Done 65533 0 ∷ [])  -- xFFFD
    × (by_rules (120 ∷ 70 ∷ 70 ∷ 70 ∷ 69 ∷ []) ≡ Done 65534 0 ∷ Refused 25 0 0 ∷ Refused 25 0 0 ∷ [])  -- xFFFE
    × (by_rules (48 ∷ []) ≡ Refused 15 0 0 ∷ Refused 15 0 0 ∷ Refused 15 0 0 ∷ [])  -- 0
    × (by_rules (120 ∷ 68 ∷ 56 ∷ 48 ∷ 48 ∷ []) ≡ Refused 14 55296 0 ∷ Refused 14 55296 0 ∷ Refused 14 55296 0 ∷ [])  -- xD800
unfolding by_rules number_answer char_number only_char
rules = (refl, refl, refl, refl, refl, refl, refl)
