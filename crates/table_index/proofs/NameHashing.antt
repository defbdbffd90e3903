-- The hash of a name, as its loops make it (`joined_on`, `turned_on`) and by its three cases. Assumes nothing.
use Rattle.std.proofs.Common.{◌≡◌, ℕ, suc, ◌+◌, ◌-◌, ◌*◌, ◌/◌, ◌%◌, ◌^◌, ◌<◌, ◌≤◌, List, length, get_or, drop, refl, mul-le-mul_right, add-one, arith, drop_of_length-le, drop-cons, le-ltb, lt-ltb, eq-eqb, ne_eqb}
use Rattle.text.specs.Blocks.{word_at}
use Rattle.table_index.specs.NameHash.{mixed, joined_from, turned, turned_from, turned_words, hash_of}
use Rattle.table_index.specs.Index.{home_at}

-- ---- bytes and words

pub joined_on : (name : List ℕ) (i word : ℕ) → i < length name
    → joined_from word (drop i name) ≡ joined_from (word * 2 ^ 8 % 2 ^ 64 + get_or name i 0) (drop (i + 1) name)
unfolding joined_from
joined_on name i word h = rw (drop-cons name i 0 h, add-one i) refl

pub joined_all : (name : List ℕ) (i word : ℕ) → length name ≤ i → joined_from word (drop i name) ≡ word
unfolding joined_from
joined_all name i word h = rw (drop_of_length-le name h) refl

-- how many words are to come at `i`
abbrev pub rest : List ℕ → ℕ → ℕ
rest name i = (length name - 1 - i) / 8

pub turned_on : (name : List ℕ) (i sum : ℕ) → 8 < length name - i
    → turned_from (rest name i) name i sum ≡ turned_from (rest name (i + 8)) name (i + 8) (turned sum (word_at name i))
unfolding turned_from
turned_on name i sum h = let q : rest name i ≡ suc (rest name (i + 8)) = omega (arith, h) in rw q refl

pub turned_all : (name : List ℕ) (i sum : ℕ) → length name - i ≤ 8 → turned_from (rest name i) name i sum ≡ sum
unfolding turned_from
turned_all name i sum h = let q : rest name i ≡ 0 = omega (arith, h) in rw q refl

-- ---- the hash

pub mixed_word : (hash word : ℕ) → mixed hash word < 0x100000000
unfolding mixed
mixed_word hash word =
    let n = (hash + word % 0x100000000 + word / 0x100000000 * 0x27D4EB2F) % 0x100000000 * 0x9E3779B1 in
    let q : n % 0x100000000 < 0x100000000 = omega arith in
    q

module _ (name : List ℕ) where
  pub hash_short_lem : length name < 8 → mixed (length name) (joined_from 0 name) ≡ hash_of name
  unfolding hash_of
  hash_short_lem h = rw (lt-ltb (length name) 8 h) refl

  pub hash_eight : length name ≡ 8 → mixed 8 (word_at name 0) ≡ hash_of name
  unfolding hash_of
  hash_eight e = rw (le-ltb (length name) 8 (omega (arith, e)), eq-eqb (length name) 8 e) refl

  pub hash_long_lem : 8 < length name → mixed (length name) (turned_words name) ≡ hash_of name
  unfolding hash_of
  hash_long_lem h = rw (le-ltb (length name) 8 (omega (arith, h)), ne_eqb (length name) 8 (λ e. absurd (omega (arith, e, h)))) refl

-- ---- the home

part_product : (h m : ℕ) → h < 0x100000000 → h * m ≤ 0xFFFFFFFF * m
part_product h m l = mul-le-mul_right m (omega (arith, l))

part_within : (h m : ℕ) → h < 0x100000000 → h * m / 0x100000000 ≤ m
part_within h m l = omega (arith, part_product h m l)

pub part_fits : (h m : ℕ) → h < 0x100000000 → m ≤ 0x40000 → h * m < 2 ^ 64
part_fits h m l k = omega (arith, part_product h m l, k)

-- sixteen slots follow a home
pub home_fits : (h words : ℕ) → h < 0x100000000 → 4 ≤ words → home_at h words + 16 ≤ 4 * words
home_fits h words l k = omega (arith, part_within h (4 * words - 16) l, k)
