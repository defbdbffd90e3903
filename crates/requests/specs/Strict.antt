-- K8, the strict reading (document 02), stated of the calls. Assumes nothing.
use Rattle.std.specs.Prelude.{◌≡◌, ◌↔◌, ℕ, ◌≤◌, true, false, ◌||◌, List, [], ◌∷◌, eqb, length, take}
use Rattle.attribute.specs.Form.{handed}
use Rattle.text.specs.Call.{Called, called, laid}
use Rattle.govlezna.specs.Calls.{normalize_attribute_value_strict_call, canonical_form_strict_call}
use Rattle.demands.specs.Demands.{Asked}

-- K8: the two calls, as they are asked, with the buffers that they are lent
abbrev pub strict_normalize_of : Asked → List ℕ → Called
strict_normalize_of a out = normalize_attribute_value_strict_call a.text a.version a.depth a.limit a.list a.pool out

abbrev pub strict_canonical_of : Asked → List ℕ → List ℕ → Called
strict_canonical_of a scratch out = canonical_form_strict_call a.text a.version a.depth a.limit a.list a.pool scratch out

-- K8: "alike but for 25 and 26": any other answer is the lenient call's, number, words and buffers
abbrev pub AlikeBut : Called → Called → Type 0
AlikeBut (called number words buffers) lenient = eqb number 25 || eqb number 26 ≡ false → lenient ≡ called number words buffers

-- demand 1 of a strict call: 25 or 26 leaves the lent buffers as they were at entry; else the answer is the lenient call's, of which demand 1
-- speaks
pub data RefusesStrictly (entry : List (List ℕ)) (lenient : Called) : Called → Type 0 where
  by_the_rule : (number : ℕ) (words : List ℕ) → eqb number 25 || eqb number 26 ≡ true → RefusesStrictly entry lenient (called number words entry)
  as_lenient : RefusesStrictly entry lenient lenient

-- K8: strictly accepted: with these buffers the strict normalization answers 0, and so does the strict canonical form with these
pub record StrictlyAnswered (a : Asked) : Type 0 where
  pub out : List ℕ
  pub size : ℕ
  pub openings : ℕ
  pub left : List ℕ
  pub normalizes : strict_normalize_of a out ≡ called 0 (size ∷ openings ∷ []) (left ∷ [])
  pub scratch : List ℕ
  pub form_out : List ℕ
  pub form_size : ℕ
  pub form_openings : ℕ
  pub held : List ℕ
  pub form_left : List ℕ
  pub writes : strict_canonical_of a scratch form_out ≡ called 0 (form_size ∷ form_openings ∷ []) (held ∷ form_left ∷ [])

-- K8: "the canonical equivalence", of the bytes that the strict calls gave: values are equal exactly when forms are, in length and bytes
abbrev pub StrictCallsEqualExactly : (a b : Asked) → StrictlyAnswered a → StrictlyAnswered b → Type 0
StrictCallsEqualExactly a b x y =
    (take x.size x.left ≡ take y.size y.left) ↔ ((x.form_size ≡ y.form_size) × (take x.form_size x.form_left ≡ take y.form_size y.form_left))

-- K8: strict re-reading "goes as in demand 3", with room enough; the rest of each buffer is kept
pub record StrictCallRereads (value : List ℕ) (b : Asked) : Type 0 where
  pub normalizes : (out : List ℕ) → length value ≤ length out → strict_normalize_of b out ≡ called 0 (length value ∷ 0 ∷ []) (laid value out ∷ [])
  pub writes : (scratch out : List ℕ) → 4 ≤ length scratch → length b.text ≤ length out
      → strict_canonical_of b scratch out ≡ called 0 (length b.text ∷ 0 ∷ []) (handed value scratch ∷ laid b.text out ∷ [])

-- K8: "a form holding a raw RestrictedChar gets 26", and nothing is written
pub record StrictCallRefuses (b : Asked) (offset : ℕ) : Type 0 where
  pub normalizes : (out : List ℕ) → strict_normalize_of b out ≡ called 26 (offset ∷ 0 ∷ []) (out ∷ [])
  pub writes : (scratch out : List ℕ) → strict_canonical_of b scratch out ≡ called 26 (offset ∷ 0 ∷ []) (scratch ∷ out ∷ [])
