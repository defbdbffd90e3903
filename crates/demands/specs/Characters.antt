-- A text as the characters of which it is the UTF-8 (RFC 3629, section 3). Assumes nothing.
use Rattle.std.specs.Prelude.{ℕ, ◌+◌, ◌-◌, ◌*◌, List, [], ◌∷◌, ◌++◌, leb}
use Rattle.text.specs.Bytes.{pick}
use Rattle.text.specs.Utf8.{State, between, next, is_between}
use Rattle.charref.specs.CharRef.{encode}

-- section 3: the bytes of a text of characters
unfoldable pub encode_all : List ℕ → List ℕ
unfolding encode
encode_all [] = []
encode_all (c ∷ cs) = encode c ++ encode_all cs

-- section 3: what a first byte gives to its character's number
unfoldable pub lead : ℕ → ℕ
lead b = pick (leb b 0x7F) b (pick (leb b 0xDF) (b - 0xC0) (pick (leb b 0xEF) (b - 0xE0) (b - 0xF0)))

-- section 3: the number so far, with the byte b after it, of a reader in that state
unfoldable pub gather : State → ℕ → ℕ → ℕ
unfolding lead is_between
gather s sum b = pick (is_between s) (lead b) (64 * sum + (b - 0x80))

-- the characters from a reader on in that state with that number so far
unfoldable pub decode_from : State → ℕ → List ℕ → List ℕ
unfolding next gather is_between
decode_from s sum [] = []
decode_from s sum (b ∷ bs) =
    let rest = decode_from (next s b) (gather s sum b) bs in
    pick (is_between (next s b)) (gather s sum b ∷ rest) rest

-- section 3: the characters of a well-formed text
unfoldable pub decode : List ℕ → List ℕ
unfolding decode_from
decode t = decode_from between 0 t
