-- Which refusal a call that reads with a table answers with: that of the token to which its reading comes, in its text or in one that it opens
-- (document 01, Refusals by place; document 02, K8 and K9). Assumes nothing.
use Rattle.std.specs.Prelude.{◌≡◌, ℕ, suc, Bool, true, false, List, [], ◌∷◌, drop}
use Rattle.text.specs.Bytes.{same_bytes}
use Rattle.text.specs.Version.{Rule, rule_of}
use Rattle.text.specs.Call.{Called, called}
use Rattle.charref.specs.CharRef.{char_number, any_character}
use Rattle.charref.specs.CharNumbers.{Char}
use Rattle.entity.specs.Binding.{Bound, external, binding}
use Rattle.charref.specs.Chars.{is_char}
use Rattle.legal.specs.Legal.{Place, in_value, may_stand, fault_at}
use Rattle.tokens.specs.Tokens.{number, named, stop}
use Rattle.unescape.specs.Unescape.{text_head, replaced}
use Rattle.attribute.specs.Walk.{Settings}
use Rattle.attribute.specs.Strict.{reading_by}
use Rattle.demands.specs.CallDemands.{listed}
use Rattle.requests.specs.Unused.{Reader, normalizing, forming, listing, unescaping}
use Rattle.requests.specs.Standard.{argument_numbers}
use Rattle.requests.specs.Reached.{heads_in, stopped, ReadTo, ComesTo, Within, RefusedAt, RefusedInText}

-- the buffers that a call is lent
abbrev pub lent_to : Reader → List (List ℕ)
lent_to (normalizing strict t version depth limit out) = out ∷ []
lent_to (forming strict t version depth limit scratch out) = scratch ∷ out ∷ []
lent_to (listing t version depth limit scratch out) = scratch ∷ out ∷ []
lent_to (unescaping t out) = out ∷ []

-- this holds of the value that a call reads as an attribute's or, at any depth of nesting, of a text that it opens
abbrev pub WithinValue : (Settings → Place → ℕ → List ℕ → ℕ → Type 0) → Bool → List ℕ → ℕ → ℕ → ℕ → List ℕ → List ℕ → Type 0
WithinValue P strict t version depth limit list pool =
    Within (reading_by strict (rule_of version) list pool limit) (P (reading_by strict (rule_of version) list pool limit)) in_value depth t 0

-- the same of any call; of unescaping, which opens no text, the second
abbrev pub WithinRead : (Settings → Place → ℕ → List ℕ → ℕ → Type 0) → ((List ℕ → Bound) → List ℕ → Type 0) → Reader → List ℕ → List ℕ → Type 0
WithinRead P Q (normalizing strict t version depth limit out) list pool = WithinValue P strict t version depth limit list pool
WithinRead P Q (forming strict t version depth limit scratch out) list pool = WithinValue P strict t version depth limit list pool
WithinRead P Q (listing t version depth limit scratch out) list pool = WithinValue P false t version depth limit list pool
WithinRead P Q (unescaping t out) list pool = Q (binding list pool) t

-- a call comes to a token that is refused so
abbrev pub RefusedThere : Reader → List ℕ → List ℕ → ℕ → ℕ → ℕ → Type 0
RefusedThere reader list pool why first second =
    WithinRead (λ s. RefusedAt s why first second) (λ bind t. RefusedInText bind why first second t) reader list pool

-- Refusals by place: of what is read, in the value or in a text
abbrev pub read_numbers : List ℕ
read_numbers = 10 ∷ 11 ∷ 12 ∷ 13 ∷ 14 ∷ 15 ∷ 16 ∷ 17 ∷ 25 ∷ 26 ∷ 27 ∷ []

-- a call refuses so and leaves what it was lent, unless it refuses its arguments
pub data AnswersSo (reader : Reader) (why first second : ℕ) : Called → Type 0 where
  so : AnswersSo reader why first second (called why (first ∷ second ∷ []) (lent_to reader))
  wrongly_asked : (number : ℕ) (words : List ℕ) → listed number argument_numbers ≡ true → AnswersSo reader why first second (called number words (lent_to reader))

-- what a call that refused so had come to
pub record CameTo (reader : Reader) (list pool : List ℕ) (why : ℕ) (words : List ℕ) : Type 0 where
  pub first : ℕ
  pub second : ℕ
  pub words_are : words ≡ first ∷ second ∷ []
  pub there : RefusedThere reader list pool why first second

-- ---- K9: a reference that is bound by command 2

-- the walk of this text comes to one whose `&` is at the offset
pub record Outside (offset : ℕ) (s : Settings) (p : Place) (depth : ℕ) (t : List ℕ) (n : ℕ) : Type 0 where
  pub less : ℕ
  pub deep : depth ≡ suc less
  pub m : ℕ
  pub name : List ℕ
  pub comes : ComesTo (heads_in s p) (stopped s depth) t n offset m (stop (named offset name))
  pub no_amp : same_bytes name (97 ∷ 109 ∷ 112 ∷ []) ≡ false
  pub bound : s.bind name ≡ external

-- so does unescaping; there `amp` is looked up as any other name
pub record OutsideText (offset : ℕ) (bind : List ℕ → Bound) (t : List ℕ) : Type 0 where
  pub m : ℕ
  pub name : List ℕ
  pub comes : ComesTo text_head (replaced bind) t 0 offset m (stop (named offset name))
  pub bound : bind name ≡ external

abbrev pub OutsideThere : Reader → List ℕ → List ℕ → ℕ → Type 0
OutsideThere reader list pool offset = WithinRead (Outside offset) (OutsideText offset) reader list pool

-- what a call that answered 27 had come to
pub record Answered27 (reader : Reader) (list pool words : List ℕ) : Type 0 where
  pub offset : ℕ
  pub words_are : words ≡ offset ∷ 0 ∷ []
  pub there : OutsideThere reader list pool offset

-- ---- K8: what the strict reading does not allow

-- everything before `k` was read, and the character there may not stand there
pub record Barred (r : Rule) (k : ℕ) (s : Settings) (p : Place) (depth : ℕ) (t : List ℕ) (n : ℕ) : Type 0 where
  pub m : ℕ
  pub read : ReadTo (heads_in s p) (stopped s depth) t n k m
  pub fault : fault_at (may_stand p r) (drop k t) ≡ true

-- everything before a character reference was read, which 12 to 15 let pass, and which names a character outside Char
pub record OutsideChar (r : Rule) (s : Settings) (p : Place) (depth : ℕ) (t : List ℕ) (n : ℕ) : Type 0 where
  pub less : ℕ
  pub deep : depth ≡ suc less
  pub k : ℕ
  pub m : ℕ
  pub digits : List ℕ
  pub comes : ComesTo (heads_in s p) (stopped s depth) t n k m (stop (number digits))
  pub c : ℕ
  pub passes : char_number any_character digits ≡ Char c
  pub outside : is_char r c ≡ false

-- the two calls that read strictly
abbrev pub IsStrict : Reader → Type 0
IsStrict (normalizing false t version depth limit out) = ⊥
IsStrict (normalizing true t version depth limit out) = Unit {0}
IsStrict (forming false t version depth limit scratch out) = ⊥
IsStrict (forming true t version depth limit scratch out) = Unit {0}
IsStrict (listing t version depth limit scratch out) = ⊥
IsStrict (unescaping t out) = ⊥

-- this holds of the value that one of them reads or, at any depth of nesting, of a text that it opens
abbrev pub WithinStrict : (Rule → Settings → Place → ℕ → List ℕ → ℕ → Type 0) → Reader → List ℕ → List ℕ → Type 0
WithinStrict P (normalizing false t version depth limit out) list pool = ⊥
WithinStrict P (normalizing true t version depth limit out) list pool = WithinValue (P (rule_of version)) true t version depth limit list pool
WithinStrict P (forming false t version depth limit scratch out) list pool = ⊥
WithinStrict P (forming true t version depth limit scratch out) list pool = WithinValue (P (rule_of version)) true t version depth limit list pool
WithinStrict P (listing t version depth limit scratch out) list pool = ⊥
WithinStrict P (unescaping t out) list pool = ⊥

-- what a strict call that answered 26 had come to, and one that answered 25
pub record Answered26 (reader : Reader) (list pool words : List ℕ) : Type 0 where
  pub k : ℕ
  pub words_are : words ≡ k ∷ 0 ∷ []
  pub there : WithinStrict (λ r. Barred r k) reader list pool

pub record Answered25 (reader : Reader) (list pool words : List ℕ) : Type 0 where
  pub words_are : words ≡ 0 ∷ 0 ∷ []
  pub there : WithinStrict OutsideChar reader list pool
