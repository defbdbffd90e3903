-- The hash of a form, as its loops make it (`joining`, `mixing`), and that it is a word (`hash_word`). Assumes nothing.
use Rattle.std.proofs.Common.{◌≡◌, ℕ, suc, ◌+◌, ◌-◌, ◌*◌, ◌/◌, ◌%◌, ◌^◌, ◌<◌, ◌≤◌, ltb, List, length, get_or, drop, refl, ap, add-one, arith, drop_of_length-le, drop-cons, le-ltb, lt-ltb}
use Rattle.text.specs.Blocks.{word_at}
use Rattle.text.proofs.Bytes.{pick_both}
use Rattle.repeats.specs.Hash.{mix, joined, mixed, last_word, hash_short, hash_long, hash_of}

-- ---- bytes as one word

pub joined_on : (form : List ℕ) (i word : ℕ) → i < length form
    → joined word (drop i form) ≡ joined (word % 0x1000000000000 * 0x100 + get_or form i 0) (drop (i + 1) form)
unfolding joined
joined_on form i word h = rw (drop-cons form i 0 h, add-one i) refl

pub joined_all : (form : List ℕ) (i word : ℕ) → length form ≤ i → joined word (drop i form) ≡ word
unfolding joined
joined_all form i word h = rw (drop_of_length-le form h) refl

-- ---- words

-- how many words start before `last`, from `i` on
abbrev pub words : ℕ → ℕ → ℕ
words last i = (last + 7 - i) / 8

pub mixed_on : (form : List ℕ) (last i hash : ℕ) → i < last → mixed (words last i) form i hash ≡ mixed (words last (i + 8)) form (i + 8) (mix hash (word_at form i))
unfolding mixed
mixed_on form last i hash h = let q : words last i ≡ suc (words last (i + 8)) = omega arith in rw q refl

pub mixed_all : (form : List ℕ) (last i hash : ℕ) → last ≤ i → mixed (words last i) form i hash ≡ hash
unfolding mixed
mixed_all form last i hash h = let q : words last i ≡ 0 = omega arith in rw q refl

pub mixed_start : (form : List ℕ) → 8 ≤ length form → mixed (words (length form - 8) 0) form 0 (length form) ≡ mixed ((length form - 1) / 8) form 0 (length form)
mixed_start form h =
    let q : words (length form - 8) 0 ≡ (length form - 1) / 8 = omega arith in
    ap (λ (n : ℕ). mixed n form 0 (length form)) q

-- ---- the hash

pub hash_short_lem : (form : List ℕ) → length form < 8 → hash_short form ≡ hash_of form
unfolding hash_of
hash_short_lem form h = rw (lt-ltb (length form) 8 h) refl

pub hash_long_lem : (form : List ℕ) → 8 ≤ length form → hash_long form ≡ hash_of form
unfolding hash_of
hash_long_lem form h = rw (le-ltb (length form) 8 h) refl

mix_word : (a b : ℕ) → mix a b < 2 ^ 64
unfolding mix
mix_word a b =
    let n = (a + b) % 2 ^ 64 % 0x100000000 * 0xFD7046C5 + (a + b) % 2 ^ 64 / 0x100000000 * 0xB55A4F09 in
    let q : n % 2 ^ 64 < 2 ^ 64 = omega arith in
    q

pub hash_word : (form : List ℕ) → hash_of form < 2 ^ 64
unfolding hash_of hash_short hash_long
hash_word form = pick_both (λ (n : ℕ). n < 2 ^ 64) (ltb (length form) 8) (mix_word _ last_word) (mix_word _ last_word)
