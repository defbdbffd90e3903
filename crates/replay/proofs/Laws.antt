-- What a digit writes, and what one more pair of digits makes of what was read before it. Assumes nothing.
use Rattle.std.proofs.Common.{◌≡◌, ℕ, zero, suc, ◌+◌, ◌-◌, ◌*◌, ◌/◌, ◌%◌, ◌<◌, ◌≤◌, List, [], ◌∷◌, ◌++◌, length, get_or, take, drop, set, refl, not-suc-le-zero, arith, le-ltb, lt-ltb, Some, flat_map}
use Rattle.std.proofs.lemmas.List.{flat_map_more, take_more, take_more_set}
use Rattle.std.proofs.Math.Seq.{take-add}
use Rattle.std.specs.Simd.{first_chunks}
use Rattle.io.specs.Digits.{hex_digit_ascii}
use Rattle.replay.specs.Values.{HexDigit, hex_of, field_of}

-- the byte of a digit below ten
pub glyph_digit : (b : ℕ) → 48 ≤ b → b < 58 → hex_digit_ascii (b - 48) ≡ b
glyph_digit b low high =
    let d : b - 48 < 10 = omega arith in
    let e : 48 + (b - 48) ≡ b = omega arith in
    simp (lt-ltb _ _ d) e

-- the byte of a hexadecimal digit from ten on
pub glyph_letter : (b : ℕ) → 97 ≤ b → hex_digit_ascii (b - 97 + 10) ≡ b
glyph_letter b low =
    let d : 10 ≤ b - 97 + 10 = omega arith in
    let e : 87 + (b - 97 + 10) ≡ b = omega arith in
    simp (le-ltb _ _ d) e

hex_of_append_lem : (xs ys : List ℕ) → hex_of (xs ++ ys) ≡ hex_of xs ++ hex_of ys
unfolding hex_of
hex_of_append_lem [] ys = refl
hex_of_append_lem (x ∷ xs) ys = rw (hex_of_append_lem xs ys)

-- two elements, and no more
two_reads : (p : List ℕ) → length p ≡ 2 → get_or p 0 0 ∷ get_or p 1 0 ∷ [] ≡ p
two_reads [] two = grind arith
two_reads (x ∷ []) two = grind arith
two_reads (x ∷ y ∷ []) two = refl
two_reads (x ∷ y ∷ z ∷ zs) two = grind arith

-- one more pair of digits
module _ (pairs : List (List ℕ)) (out : List ℕ) (i high low : ℕ) (within : i < length pairs) (room : i < length out) where
  pub more_pairs : length (get_or pairs i []) ≡ 2 → HexDigit (get_or (get_or pairs i []) 0 0) (Some high)
      → HexDigit (get_or (get_or pairs i []) 1 0) (Some low) → hex_of (take i out) ≡ flat_map (λ p. p) (take i pairs)
      → hex_of (take (i + 1) (set out i (high * 16 + low))) ≡ flat_map (λ p. p) (take (i + 1) pairs)
  unfolding hex_of
  more_pairs two h l before =
      let top : (high * 16 + low) / 16 ≡ high = omega arith in
      let end : (high * 16 + low) % 16 ≡ low = omega arith in
      let pair = get_or pairs i [] in
      rw (take_more_set out i (high * 16 + low) room, hex_of_append_lem, top, end, h.1, l.1, before, take_more pairs i [] within)
      (rw (two_reads pair two) (flat_map_more (λ p. p) [] (take i pairs) pair))

-- the pairs of a list, one after the other
pub flat_pairs : (k : ℕ) (xs : List ℕ) → flat_map (λ p. p) (first_chunks 2 k xs) ≡ take (k * 2) xs
flat_pairs zero xs = refl
flat_pairs (suc k) xs =
    let more : suc k * 2 ≡ 2 + k * 2 = omega arith in
    rw (more, take-add 2 (k * 2) xs, flat_pairs k (drop 2 xs)) refl

-- bytes that are there are written in hexadecimal
pub field_of_some_lem : (xs : List ℕ) → 0 < length xs → field_of xs ≡ hex_of xs
unfolding field_of
field_of_some_lem [] h = absurd (not-suc-le-zero h)
field_of_some_lem (x ∷ xs) h = refl
