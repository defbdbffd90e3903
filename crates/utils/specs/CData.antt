-- CDATA pieces (document 01, CDATA): a text is cut between `]]` and `>` at each `]]>`. Assumes nothing.
use Rattle.std.specs.Prelude.{ℕ, suc, ◌+◌, Bool, ◌||◌, List, [], ◌∷◌, length, drop, get_or, eqb, ltb, Result, Ok, Err}
use Rattle.text.specs.Bytes.{pick, within, begins}
use Rattle.text.specs.Answers.{Answer}
use Rattle.text.specs.Answers.{Done, Refused}
use Rattle.utils.specs.declared.Cursor.{Cursor}
use Rattle.text.specs.Refusals.{number_of, first_of, second_of}
use Rattle.text.specs.declared.refusals.Refusal.{Refusal}
use Rattle.text.specs.declared.refusals.Refusal.TheVariants.{CursorOutside, NoMore}
use Rattle.utils.specs.declared.Part.{Part}
use Rattle.utils.specs.declared.Stepped.{Stepped}

-- a part of the text; or there are no more; or the cursor at an offset is outside the text's characters
abbrev pub Piece : Type 0
Piece = Result Part Refusal

abbrev pub part : ℕ → ℕ → Piece
part start size = Ok (record { start = start; length = size })

abbrev pub no_more : Piece
no_more = Err NoMore

abbrev pub outside_at : ℕ → Piece
outside_at offset = Err (CursorOutside offset)

-- CDATA: the bytes of `]]>`
abbrev pub closing : List ℕ
closing = 93 ∷ 93 ∷ 62 ∷ []

-- CDATA: how many bytes stand before the first cut, or before the text's end where there is none
unfoldable pub first_cut : List ℕ → ℕ
first_cut [] = 0
first_cut (b ∷ bs) = pick (begins closing (b ∷ bs)) 2 (suc (first_cut bs))

-- an answer, and the cursor after it
abbrev pub stepped : Piece → ℕ → ℕ → Stepped
stepped piece offset finished = record { piece = piece; next = record { offset = offset; finished = finished } }

-- CDATA: a piece that ends at a cut moves the offset to that cut; the last one sets finished with the offset kept
unfoldable pub piece_from : ℕ → List ℕ → Stepped
unfolding first_cut
piece_from offset rest =
    pick (eqb (first_cut rest) (length rest)) (stepped (part offset (length rest)) offset 1)
    (stepped (part offset (first_cut rest)) (offset + first_cut rest) 0)

-- Refusals by place, 20: past the end, or inside a character; in UTF-8 a byte from 80 to BF is one that starts no character
unfoldable pub outside : List ℕ → ℕ → Bool
outside text offset = ltb (length text) offset || within 0x80 0xBF (get_or text offset 0)

-- CDATA: one call; 20 and "no more" leave the cursor as it is, and any number but 0 means finished
unfoldable pub cdata_step : List ℕ → Cursor → Stepped
unfolding outside piece_from
cdata_step text cursor =
    pick (outside text cursor.offset) (record { piece = outside_at cursor.offset; next = cursor })
    (pick (eqb cursor.finished 0) (piece_from cursor.offset (drop cursor.offset text))
    (record { piece = no_more; next = cursor }))

-- Refusals by place: the number and values of each case; 255 is "no more", which is no refusal
unfoldable pub piece_answer : Piece → Answer
piece_answer (Ok p) = Done p.start p.length
piece_answer (Err r) = Refused (number_of r) (first_of r) (second_of r)
