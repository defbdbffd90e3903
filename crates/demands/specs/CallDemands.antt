-- The owner's demands, stated of the calls: numbers, answer words and lent buffers, in the words of document 01. Assumes nothing.
use Rattle.std.specs.Prelude.{◌≡◌, ◌↔◌, ℕ, ◌≤◌, Bool, true, false, ◌||◌, List, [], ◌∷◌, length, take, eqb}
use Rattle.text.specs.Version.{known_version}
use Rattle.text.specs.Call.{Called, called, laid}
use Rattle.attribute.specs.Form.{handed}
use Rattle.utils.specs.declared.Cursor.{Cursor}
use Rattle.govlezna.specs.declared.CDataNext.{CDataNext}
use Rattle.govlezna.specs.Calls.{check_table_call, unescape_call, normalize_attribute_value_call, canonical_form_call}
use Rattle.demands.specs.Demands.{Asked, rule_for, DefinesNone}

-- ---- demand 1

-- Refusals by place: the number is one of these
abbrev pub listed : ℕ → List ℕ → Bool
listed number [] = false
listed number (n ∷ ns) = eqb number n || listed number ns

-- Refusals by place: the numbers of each call, by the rows whose argument it has
abbrev pub text_numbers : List ℕ
text_numbers = 1 ∷ 5 ∷ []

abbrev pub number_numbers : List ℕ
number_numbers = 1 ∷ 5 ∷ 12 ∷ 13 ∷ 14 ∷ 15 ∷ []

abbrev pub writer_numbers : List ℕ
writer_numbers = 1 ∷ 4 ∷ 5 ∷ 19 ∷ []

abbrev pub c14n_numbers : List ℕ
c14n_numbers = 1 ∷ 5 ∷ 19 ∷ []

abbrev pub piece_numbers : List ℕ
piece_numbers = 1 ∷ 5 ∷ 20 ∷ 255 ∷ []  -- 255 is "no more"

abbrev pub table_numbers : List ℕ
table_numbers = 6 ∷ 7 ∷ 8 ∷ 9 ∷ []

abbrev pub unescape_numbers : List ℕ
unescape_numbers = 1 ∷ 5 ∷ 6 ∷ 7 ∷ 8 ∷ 9 ∷ 10 ∷ 11 ∷ 12 ∷ 13 ∷ 14 ∷ 15 ∷ 19 ∷ 27 ∷ []

abbrev pub value_numbers : List ℕ
value_numbers = 1 ∷ 2 ∷ 3 ∷ 4 ∷ 5 ∷ 6 ∷ 7 ∷ 8 ∷ 9 ∷ 10 ∷ 11 ∷ 12 ∷ 13 ∷ 14 ∷ 15 ∷ 16 ∷ 17 ∷ 19 ∷ 27 ∷ []

abbrev pub form_numbers : List ℕ
form_numbers = 1 ∷ 2 ∷ 3 ∷ 4 ∷ 5 ∷ 6 ∷ 7 ∷ 8 ∷ 9 ∷ 10 ∷ 11 ∷ 12 ∷ 13 ∷ 14 ∷ 15 ∷ 16 ∷ 17 ∷ 18 ∷ 19 ∷ 27 ∷ []

-- demand 1: success, or a refusal by one of these numbers of documents 01 and 02 that leaves the lent buffers as they were at entry
pub data Refuses (numbers : List ℕ) (entry : List (List ℕ)) : Called → Type 0 where
  success : (words : List ℕ) (buffers : List (List ℕ)) → Refuses numbers entry (called 0 words buffers)
  refusal : (number : ℕ) (words : List ℕ) → listed number numbers ≡ true → Refuses numbers entry (called number words entry)

-- demand 1, CDATA: the cursor moves with a piece alone; 255, "no more", leaves it too
pub data RefusesPiece (cursor : Cursor) : CDataNext → Type 0 where
  piece : (words : List ℕ) (next : Cursor) → RefusesPiece cursor (record { number = 0; words = words; next = next })
  stays : (number : ℕ) (words : List ℕ) → listed number piece_numbers ≡ true → RefusesPiece cursor (record { number = number; words = words; next = cursor })

-- ---- demand 2

-- demand 2: an empty table is one that its check accepts with no definition: the list `0`, or marked `3 0` (K4), beside any pool that is not too long
abbrev pub EmptyTable : List ℕ → List ℕ → Type 0
EmptyTable list pool = check_table_call list pool ≡ called 0 (0 ∷ 0 ∷ []) []

-- demand 2: with an empty table and any output that has room, the form unescapes to the text, with no opening; the output's rest is kept
abbrev pub UnescapesTo : List ℕ → List ℕ → Type 0
UnescapesTo text form = (list pool out : List ℕ) → EmptyTable list pool → length text ≤ length out
    → unescape_call form list pool out ≡ called 0 (length text ∷ 0 ∷ []) (laid text out ∷ [])

-- ---- demand 3

-- Attribute walk, Canonical form: the two calls, as they are asked, with the buffers that they are lent
abbrev pub normalize_of : Asked → List ℕ → Called
normalize_of a out = normalize_attribute_value_call a.text a.version a.depth a.limit a.list a.pool out

abbrev pub canonical_of : Asked → List ℕ → List ℕ → Called
canonical_of a scratch out = canonical_form_call a.text a.version a.depth a.limit a.list a.pool scratch out

-- Canonical form: accepted: with these buffers normalization answers 0, and so does the canonical form with these; what each leaves
pub record Answered (a : Asked) : Type 0 where
  pub out : List ℕ
  pub size : ℕ
  pub openings : ℕ
  pub left : List ℕ
  pub normalizes : normalize_of a out ≡ called 0 (size ∷ openings ∷ []) (left ∷ [])
  pub scratch : List ℕ
  pub form_out : List ℕ
  pub form_size : ℕ
  pub form_openings : ℕ
  pub held : List ℕ
  pub form_left : List ℕ
  pub writes : canonical_of a scratch form_out ≡ called 0 (form_size ∷ form_openings ∷ []) (held ∷ form_left ∷ [])

-- Canonical form: what normalization left with the number 0 is part of such an `Answered`: acceptance asks nothing of the writer
pub record Completed (a : Asked) (words : List ℕ) (buffers : List (List ℕ)) : Type 0 where
  pub answered : Answered a
  pub words_are : words ≡ answered.size ∷ answered.openings ∷ []
  pub buffers_are : buffers ≡ answered.left ∷ []

-- Canonical form: the bytes that normalization gives are the normalized value
abbrev pub value_of : (a : Asked) → Answered a → List ℕ
value_of a x = take x.size x.left

-- Canonical form: the bytes that the writer gives are the canonical form
abbrev pub written_of : (a : Asked) → Answered a → List ℕ
written_of a x = take x.form_size x.form_left

-- demand 3, first half: normalized values are equal exactly when their canonical forms are equal, in length and in every byte
abbrev pub CallsEqualExactly : (a b : Asked) → Answered a → Answered b → Type 0
CallsEqualExactly a b x y = (value_of a x ≡ value_of b y) ↔ ((x.form_size ≡ y.form_size) × (written_of a x ≡ written_of b y))

-- demand 3, second half: a canonical form of at most 16,777,216 bytes, under the version it was written for, at any depth from 1 to
-- 128, with any opening limit up to 1,000,000 and any table that its check accepts and that defines none of the four names
pub record CallAgain (a : Asked) (x : Answered a) (b : Asked) : Type 0 where
  pub form : b.text ≡ written_of a x
  pub size : x.form_size ≤ 16777216
  pub version : rule_for b ≡ rule_for a
  pub known : known_version b.version ≡ true
  pub shallow : 1 ≤ b.depth
  pub deep : b.depth ≤ 128
  pub most : b.limit ≤ 1000000
  pub declared : ℕ
  pub table : check_table_call b.list b.pool ≡ called 0 (declared ∷ 0 ∷ []) []
  pub free : DefinesNone b.list b.pool

-- demand 3, second half: with room enough it is accepted, gives exactly that value, the opening count is 0, and its canonical form is
-- itself, byte for byte; the rest of each buffer is kept
pub record CallRereads (value : List ℕ) (b : Asked) : Type 0 where
  pub normalizes : (out : List ℕ) → length value ≤ length out → normalize_of b out ≡ called 0 (length value ∷ 0 ∷ []) (laid value out ∷ [])
  pub writes : (scratch out : List ℕ) → 4 ≤ length scratch → length b.text ≤ length out
      → canonical_of b scratch out ≡ called 0 (length b.text ∷ 0 ∷ []) (handed value scratch ∷ laid b.text out ∷ [])
