-- The hash of a name, which only decides where its slots begin: terms in which code is proved, on which no promise of a call rests. Nothing is
-- used of it but that it is a function of the name, below 2^32. Assumes nothing.
use Rattle.std.specs.Prelude.{ℕ, zero, suc, ◌+◌, ◌-◌, ◌*◌, ◌/◌, ◌%◌, ◌^◌, List, [], ◌∷◌, length, ◌==◌, bit_or, nat_lt}
use Rattle.text.specs.Bytes.{pick}
use Rattle.text.specs.Blocks.{word_at}

-- a word more: its halves are added, the higher times a number of its own, and the sum is spread
unfoldable pub mixed : ℕ → ℕ → ℕ
mixed hash word =
    (hash + word % 0x100000000 + word / 0x100000000 * 0x27D4EB2F) % 0x100000000 * 0x9E3779B1 % 0x100000000

-- bytes as one number, the first the highest
unfoldable pub joined_from : ℕ → List ℕ → ℕ
joined_from word [] = word
joined_from word (b ∷ bs) = joined_from (word * 2 ^ 8 % 2 ^ 64 + b) bs

-- the sum turned by seven bits, and a word
abbrev pub turned : ℕ → ℕ → ℕ
turned sum word = (bit_or (sum * 2 ^ 7 % 2 ^ 64) (sum / 2 ^ 57) + word) % 2 ^ 64

-- so many words from `i` on
unfoldable pub turned_from : ℕ → List ℕ → ℕ → ℕ → ℕ
turned_from zero name i sum = sum
turned_from (suc n) name i sum = turned_from n name (i + 8) (turned sum (word_at name i))

-- the words of a name longer than eight bytes, the last of which comes first and ends with it
unfoldable pub turned_words : List ℕ → ℕ
unfolding turned_from
turned_words name = turned_from ((length name - 1) / 8) name 0 (word_at name (length name - 8))

unfoldable pub hash_of : List ℕ → ℕ
unfolding mixed joined_from turned_words
hash_of name =
    pick (nat_lt (length name) 8) (mixed (length name) (joined_from 0 name))
    (pick (length name == 8) (mixed 8 (word_at name 0)) (mixed (length name) (turned_words name)))
