-- A text as a list of tokens: bytes that are copied, stops, and characters that are not allowed (document 01, Attribute walk and
-- Unescaping; document 02, K8). Assumes nothing.
use Rattle.std.specs.Prelude.{ℕ, zero, suc, ◌+◌, Bool, ◌&&◌, List, [], ◌∷◌, length, eqb}
use Rattle.text.specs.Bytes.{pick}

-- Attribute walk: a C2 or E2 of XML 1.1 that starts no line end; white space or a line end; a character reference with the text
-- after `#`; an entity reference with the offset of its `&` and its name; a `&` that nothing ends, with its offset and the text's length
pub data Stop : Type 0 where
  kept : ℕ → Stop
  space : Stop
  number : List ℕ → Stop
  named : ℕ → List ℕ → Stop
  unterminated : ℕ → ℕ → Stop

-- document 02, K8: `barred` is a raw character that the rule of the reading does not allow, with its offset
pub data Token : Type 0 where
  copy : ℕ → Token
  stop : Stop → Token
  barred : ℕ → Token

-- the token at the head of a text, and how many bytes after the first belong to it
pub data Head : Type 0 where
  head : Token → ℕ → Head

abbrev pub token_of : Head → Token
token_of (head t skip) = t

abbrev pub skip_of : Head → ℕ
skip_of (head t skip) = skip

-- a reading of heads: the offset of the head's first byte, that byte, and the bytes after it
abbrev pub Heads : Type 0
Heads = ℕ → ℕ → List ℕ → Head

-- the bytes before the next `;`
pub data Name : Type 0 where
  ended : List ℕ → Name
  endless : Name

abbrev pub longer : ℕ → Name → Name
longer b (ended name) = ended (b ∷ name)
longer b endless = endless

-- Attribute walk: the name runs to the next `;` even across another `&`; Unescaping, where `inner` holds: the next `&` or `;` must be `;`
unfoldable pub name_at : Bool → List ℕ → Name
name_at inner [] = endless
name_at inner (b ∷ bs) =
    let rest = name_at inner bs in
    pick (eqb b 59) (ended []) (pick (inner && eqb b 38) endless (longer b rest))

-- Attribute walk: after `#` a character number, otherwise a name
unfoldable pub reference_to : ℕ → List ℕ → List ℕ → Head
reference_to offset [] name = head (stop (named offset [])) 1
reference_to offset (b ∷ bs) name =
    pick (eqb b 35) (head (stop (number bs)) (suc (length name))) (head (stop (named offset name)) (suc (length name)))

-- the reference whose `&` is at the offset, with those bytes after it; refusal 10 has the offset of `&` and the text's length
unfoldable pub reference_at : ℕ → List ℕ → Name → Head
unfolding reference_to
reference_at offset bs (ended name) = reference_to offset name name
reference_at offset bs endless = head (stop (unterminated offset (offset + suc (length bs)))) 0

-- the tokens of a text whose first byte is at the offset, after `skip` bytes
unfoldable pub tokens : Heads → ℕ → ℕ → List ℕ → List Token
tokens at offset skip [] = []
tokens at offset (suc skip) (b ∷ bs) = tokens at (suc offset) skip bs
tokens at offset zero (b ∷ bs) = token_of (at offset b bs) ∷ tokens at (suc offset) (skip_of (at offset b bs)) bs
