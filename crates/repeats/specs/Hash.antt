-- The hash of a form, which only decides where the check for repeats looks first: terms in which code is proved, on which no promise of a
-- call rests. Nothing is used of it but that it is a function of the form. Assumes nothing.
use Rattle.std.specs.Prelude.{ℕ, zero, suc, ◌+◌, ◌-◌, ◌*◌, ◌/◌, ◌%◌, ◌^◌, Bool, List, [], ◌∷◌, length, ◌==◌, nat_lt}
use Rattle.text.specs.Bytes.{pick}
use Rattle.text.specs.Blocks.{word_at}

-- both halves of the sum with a word, each times a number of its own
unfoldable pub mix : ℕ → ℕ → ℕ
mix hash word =
    ((hash + word) % 2 ^ 64 % 0x100000000 * 0xFD7046C5 + (hash + word) % 2 ^ 64 / 0x100000000 * 0xB55A4F09) % 2 ^ 64

-- up to seven bytes as one word
unfoldable pub joined : ℕ → List ℕ → ℕ
joined word [] = word
joined word (b ∷ bs) = joined (word % 0x1000000000000 * 0x100 + b) bs

-- so many words from `i` on
unfoldable pub mixed : ℕ → List ℕ → ℕ → ℕ → ℕ
unfolding mix
mixed zero form i hash = hash
mixed (suc n) form i hash = mixed n form (i + 8) (mix hash (word_at form i))

abbrev pub last_word : ℕ
last_word = 0x9E3779B97F4A7C15

unfoldable pub hash_short : List ℕ → ℕ
unfolding mix joined
hash_short form = mix (mix (length form) (joined 0 form)) last_word

unfoldable pub hash_long : List ℕ → ℕ
unfolding mix mixed
hash_long form = mix (mix (mixed ((length form - 1) / 8) form 0 (length form)) (word_at form (length form - 8))) last_word

unfoldable pub hash_of : List ℕ → ℕ
unfolding hash_short hash_long
hash_of form = pick (nat_lt (length form) 8) (hash_short form) (hash_long form)

-- which of so many equal parts of 0 to 2^32 a number is in
abbrev pub share : ℕ → ℕ → ℕ
share x parts = x * parts / 0x100000000

-- is the form of this class?
abbrev pub in_class : ℕ → ℕ → List ℕ → Bool
in_class class classes form = share (hash_of form / 0x100000000) classes == class
