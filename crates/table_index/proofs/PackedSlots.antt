-- The slots of an index, packed: digits of a word to the base 65,536 as the code reads them and fills them (`digit_shifted`, `fill_fits`), the slot that a
-- sum fills (`slot_filled`), and that the state is none (`slot_state`). Assumes nothing.
use Rattle.std.proofs.Common.{◌≡◌, ℕ, zero, suc, ◌+◌, ◌-◌, ◌*◌, ◌/◌, ◌%◌, ◌^◌, ◌<◌, Bool, true, false, eqb, ◌≢◌, List, length, get_or, set, sym, refl, ap, ◌∙◌, subst, arith, get_or-set_other, get_or-set_same, eqb-true}
use borrow.Author.Tests.{eqb-false}
use Rattle.table_index.specs.Index.{FilledAt, digit, slot_of}

-- ---- digits

-- what a digit at a place is worth
unfoldable pub raised : ℕ → ℕ → ℕ
raised zero v = v
raised (suc place) v = raised place v * 0x10000

-- an empty digit is filled by a sum
pub digit_filled : (place word v : ℕ) → digit place word ≡ 0 → v < 0x10000 → digit place (word + raised place v) ≡ v
unfolding digit raised
digit_filled zero word v e h = omega (arith, e, h)
digit_filled (suc place) word v e h =
    let q : (word + raised place v * 0x10000) / 0x10000 ≡ word / 0x10000 + raised place v = omega arith in
    rw q (digit_filled place (word / 0x10000) v e h)

-- and the others stay
pub digit_other : (place word v other : ℕ) → digit place word ≡ 0 → v < 0x10000 → other ≢ place → digit other (word + raised place v) ≡ digit other word
unfolding digit raised
digit_other zero word v zero e h n = absurd (n refl)
digit_other zero word v (suc other) e h n = let q : (word + v) / 0x10000 ≡ word / 0x10000 = omega (arith, e, h) in ap (digit other) q
digit_other (suc place) word v zero e h n = let q : (word + raised place v * 0x10000) % 0x10000 ≡ word % 0x10000 = omega arith in q
digit_other (suc place) word v (suc other) e h n =
    let q : (word + raised place v * 0x10000) / 0x10000 ≡ word / 0x10000 + raised place v = omega arith in
    ap (digit other) q ∙ digit_other place (word / 0x10000) v other e h (λ d. n (ap suc d))

-- the places of a word
by_place : (P : ℕ → Type 0) → P 0 → P 1 → P 2 → P 3 → (place : ℕ) → place < 4 → P place
by_place P a b c d zero h = a
by_place P a b c d (suc zero) h = b
by_place P a b c d (suc (suc zero)) h = c
by_place P a b c d (suc (suc (suc zero))) h = d
by_place P a b c d (suc (suc (suc (suc n)))) h = absurd (omega (arith, h))

-- a digit as the code reads it, and what is added for it
pub digit_shifted : (word place : ℕ) → place < 4 → word / 2 ^ (16 * place) % 0x10000 ≡ digit place word
unfolding digit
digit_shifted word =
    let q2 : word / 0x100000000 % 0x10000 ≡ word / 0x10000 / 0x10000 % 0x10000 = omega arith in
    let q3 : word / 0x1000000000000 % 0x10000 ≡ word / 0x10000 / 0x10000 / 0x10000 % 0x10000 = omega arith in
    let q0 : word / 1 % 0x10000 ≡ word % 0x10000 = omega arith in
    by_place (λ (place : ℕ). word / 2 ^ (16 * place) % 0x10000 ≡ digit place word) q0 refl q2 q3

pub raised_shifted : (v place : ℕ) → v < 0x10000 → place < 4 → v * 2 ^ (16 * place) % 2 ^ 64 ≡ raised place v
unfolding raised
raised_shifted v place h =
    let q0 : v * 1 % 0x10000000000000000 ≡ v = omega (arith, h) in
    let q1 : v * 0x10000 % 0x10000000000000000 ≡ v * 0x10000 = omega (arith, h) in
    let q2 : v * 0x100000000 % 0x10000000000000000 ≡ v * 0x10000 * 0x10000 = omega (arith, h) in
    let q3 : v * 0x1000000000000 % 0x10000000000000000 ≡ v * 0x10000 * 0x10000 * 0x10000 = omega (arith, h) in
    by_place (λ (p : ℕ). v * 2 ^ (16 * p) % 2 ^ 64 ≡ raised p v) q0 q1 q2 q3 place

-- the sum is a word
pub digit_fits : (word v place : ℕ) → word < 2 ^ 64 → v < 0x10000 → place < 4 → digit place word ≡ 0 → word + raised place v < 2 ^ 64
unfolding digit raised
digit_fits word v place h l =
    by_place (λ (p : ℕ). digit p word ≡ 0 → word + raised p v < 2 ^ 64)
    (λ e. omega (arith, h, l, e)) (λ e. omega (arith, h, l, e)) (λ e. omega (arith, h, l, e)) (λ e. omega (arith, h, l, e)) place

-- the code's own sum
pub fill_fits : (word s at : ℕ) → word < 2 ^ 64 → at < 0xFFFF → digit (s % 4) word ≡ 0 → word + (at + 1) * 2 ^ (16 * (s % 4)) % 2 ^ 64 < 2 ^ 64
fill_fits word s at h low e =
    subst (λ (n : ℕ). word + n < 2 ^ 64) (sym (raised_shifted (at + 1) (s % 4) (omega (arith, low)) (omega arith)))
    (digit_fits word (at + 1) (s % 4) h (omega (arith, low)) (omega arith) e)

-- ---- slots

pub slot_zero : (place : ℕ) → digit place 0 ≡ 0
unfolding digit
slot_zero zero = refl
slot_zero (suc place) = slot_zero place

-- the code's sum fills a slot
pub slot_filled : (words : List ℕ) (s at : ℕ) {w v : ℕ} → s < 4 * (length words - 1) → at < 0xFFFF → slot_of words s ≡ 0 → w ≡ 1 + s / 4
    → v ≡ get_or words (1 + s / 4) 0 + (at + 1) * 2 ^ (16 * (s % 4)) % 2 ^ 64 → FilledAt (slot_of words) (slot_of (set words w v)) s at
slot_filled words s at {w} {v} inside low e place sum =
    record { was = e; is = own; others = λ i n. other i n (eqb (i / 4) (s / 4)) refl }
  where
    value : v ≡ get_or words (1 + s / 4) 0 + raised (s % 4) (at + 1)
    value = sum ∙ ap (λ (n : ℕ). get_or words (1 + s / 4) 0 + n) (raised_shifted (at + 1) (s % 4) (omega (arith, low)) (omega arith))

    own : slot_of (set words w v) s ≡ at + 1
    own =
        let here : get_or (set words w v) (1 + s / 4) 0 ≡ v =
        ap (λ (n : ℕ). get_or (set words w v) n 0) (sym place) ∙ get_or-set_same words w v 0 (omega (arith, place, inside)) in
        ap (digit (s % 4)) (here ∙ value) ∙ digit_filled (s % 4) (get_or words (1 + s / 4) 0) (at + 1) e (omega (arith, low))

    other : (i : ℕ) → i ≢ s → (t : Bool) → eqb (i / 4) (s / 4) ≡ t → slot_of (set words w v) i ≡ slot_of words i
    other i n true q =
        let same : i / 4 ≡ s / 4 = eqb-true (i / 4) (s / 4) q in
        let same_word : 1 + i / 4 ≡ 1 + s / 4 = omega (arith, same) in
        let here : get_or (set words w v) (1 + i / 4) 0 ≡ v =
        ap (λ (k : ℕ). get_or (set words w v) k 0) (same_word ∙ sym place) ∙ get_or-set_same words w v 0 (omega (arith, place, inside)) in
        let apart : i % 4 ≢ s % 4 = λ d. n (omega (arith, same, d)) in
        ap (digit (i % 4)) (here ∙ value) ∙ digit_other (s % 4) (get_or words (1 + s / 4) 0) (at + 1) (i % 4) e (omega (arith, low)) apart
        ∙ ap (λ (k : ℕ). digit (i % 4) (get_or words k 0)) (sym same_word)
    other i n false q =
        ap (digit (i % 4)) (get_or-set_other words w (1 + i / 4) v 0 (λ d. eqb-false (i / 4) (s / 4) q (omega (arith, d, place))))

-- the state is no slot
pub slot_state : (words : List ℕ) (v s : ℕ) → slot_of (set words 0 v) s ≡ slot_of words s
slot_state words v s = ap (digit (s % 4)) (get_or-set_other words 0 (1 + s / 4) v 0 (λ d. absurd (omega (arith, d))))
