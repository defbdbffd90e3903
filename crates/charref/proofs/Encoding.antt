-- Laws of the UTF-8 of a character: its bytes by the size of the number, their count, and that they are well-formed. Assumes nothing.
use mathlib.Core.Path.{◌≡◌, refl, ◌∙◌}
use Prim.Native.Nat.{ℕ, ◌+◌, ◌/◌, ◌%◌, ◌≤◌, ◌<◌}
use native.Mathlib.Omega.{arith}
use native.Mathlib.Nat.{zero-add}
use mathlib.Core.Bool.{Bool, true, false}
use mathlib.Core.Logic.{◌≢◌}
use mathlib.Core.List.{List, [], ◌∷◌, ◌++◌}
use lib.Dec.{eqb, ltb}
use lib.ListN.{length, drop}
use lib.Seq.{sets, sets-eq, lt-length-sets}
use borrow.Author.Tests.{eqb-true, eqb-false, ne_eqb, ltb-true, ltb-false, lt-ltb, le-ltb, le-leb, lt-leb}
use Rattle.text.specs.Bytes.{pick, within}
use Rattle.text.specs.Utf8.{between, after, WellFormed}
use Rattle.text.proofs.Bytes.{pick_by, inside, above, either}
use Rattle.charref.specs.CharRef.{encode}

-- ---- its bytes, by the size of the number

pub encode_1 : (n : ℕ) → n < 0x80 → encode n ≡ n ∷ []
unfolding encode
encode_1 n h = rw (lt-ltb n 0x80 h)

pub encode_2 : (n : ℕ) → 0x80 ≤ n → n < 0x800 → encode n ≡ (0xC0 + n / 64) ∷ (0x80 + n % 64) ∷ []
unfolding encode
encode_2 n g h = rw (le-ltb n 0x80 g, lt-ltb n 0x800 h)

pub encode_3 : (n : ℕ) → 0x800 ≤ n → n < 0x10000 → encode n ≡ (0xE0 + n / 4096) ∷ (0x80 + n / 64 % 64) ∷ (0x80 + n % 64) ∷ []
unfolding encode
encode_3 n g h = rw (le-ltb n 0x80 (omega arith), le-ltb n 0x800 g, lt-ltb n 0x10000 h)

pub encode_4 : (n : ℕ) → 0x10000 ≤ n
    → encode n ≡ (0xF0 + n / 262144) ∷ (0x80 + n / 4096 % 64) ∷ (0x80 + n / 64 % 64) ∷ (0x80 + n % 64) ∷ []
unfolding encode
encode_4 n g = rw (le-ltb n 0x80 (omega arith), le-ltb n 0x800 (omega arith), le-ltb n 0x10000 g)

-- what holds of each form holds of the encoding
module _ (P : List ℕ → Type 0) (n : ℕ)
    (p1 : n < 0x80 → P (n ∷ []))
    (p2 : 0x80 ≤ n → n < 0x800 → P ((0xC0 + n / 64) ∷ (0x80 + n % 64) ∷ []))
    (p3 : 0x800 ≤ n → n < 0x10000 → P ((0xE0 + n / 4096) ∷ (0x80 + n / 64 % 64) ∷ (0x80 + n % 64) ∷ []))
    (p4 : 0x10000 ≤ n → P ((0xF0 + n / 262144) ∷ (0x80 + n / 4096 % 64) ∷ (0x80 + n / 64 % 64) ∷ (0x80 + n % 64) ∷ []))
  where
    pub by_size : P (encode n)
    unfolding encode
    by_size =
        pick_by P (ltb n 0x80) (λ a. p1 (ltb-true n 0x80 a)) λ a.
        pick_by P (ltb n 0x800) (λ b. p2 (ltb-false n 0x80 a) (ltb-true n 0x800 b)) λ b.
        pick_by P (ltb n 0x10000) (λ c. p3 (ltb-false n 0x800 b) (ltb-true n 0x10000 c)) λ c. p4 (ltb-false n 0x10000 c)

-- ---- their count

-- UTF-8 has 1 byte for a character below U+0080, 2 below U+0800, 3 below U+10000, else 4.
pub encode_length : (n : ℕ) → length (encode n) ≡ pick (ltb n 0x80) 1 (pick (ltb n 0x800) 2 (pick (ltb n 0x10000) 3 4))
encode_length n =
    by_size (λ (l : List ℕ). length l ≡ pick (ltb n 0x80) 1 (pick (ltb n 0x800) 2 (pick (ltb n 0x10000) 3 4))) n
    (λ a. rw (lt-ltb n 0x80 a))
    (λ a b. rw (le-ltb n 0x80 a, lt-ltb n 0x800 b))
    (λ a b. rw (le-ltb n 0x80 (omega arith), le-ltb n 0x800 a, lt-ltb n 0x10000 b))
    (λ a. rw (le-ltb n 0x80 (omega arith), le-ltb n 0x800 (omega arith), le-ltb n 0x10000 a))

pub encode_at_least : (n : ℕ) → 1 ≤ length (encode n)
encode_at_least n =
    by_size (λ (l : List ℕ). 1 ≤ length l) n (λ a. omega arith) (λ a b. omega arith) (λ a b. omega arith) (λ a. omega arith)

pub encode_at_most : (n : ℕ) → length (encode n) ≤ 4
encode_at_most n =
    by_size (λ (l : List ℕ). length l ≤ 4) n (λ a. omega arith) (λ a b. omega arith) (λ a b. omega arith) (λ a. omega arith)

pub least_2 : (n : ℕ) → 0x80 ≤ n → 2 ≤ length (encode n)
least_2 n h =
    by_size (λ (l : List ℕ). 2 ≤ length l) n (λ a. omega arith) (λ a b. omega arith) (λ a b. omega arith) (λ a. omega arith)

pub least_3 : (n : ℕ) → 0x800 ≤ n → 3 ≤ length (encode n)
least_3 n h =
    by_size (λ (l : List ℕ). 3 ≤ length l) n (λ a. omega arith) (λ a b. omega arith) (λ a b. omega arith) (λ a. omega arith)

pub least_4 : (n : ℕ) → 0x10000 ≤ n → 4 ≤ length (encode n)
least_4 n h =
    by_size (λ (l : List ℕ). 4 ≤ length l) n (λ a. omega arith) (λ a b. omega arith) (λ a b. omega arith) (λ a. omega arith)

-- ---- they stand at the start of what they were written over

-- there is room for the next byte after those stored
pub room : (n k : ℕ) (stored out : List ℕ) → length (encode n) ≤ length out → k < length (encode n) → k < length (sets out 0 stored)
room n k stored out h l = lt-length-sets out 0 stored (omega arith)

pub written : (n : ℕ) (bytes out : List ℕ) → encode n ≡ bytes → length (encode n) ≤ length out
    → (length bytes ≡ length (encode n)) × (sets out 0 bytes ≡ encode n ++ drop (length (encode n)) out)
written n bytes out e h = rw e (refl, sets-eq bytes out 0 (rw zero-add (rw e at h)) ∙ rw zero-add)

-- ---- they are well-formed

-- three bytes, with the second byte's own ranges after E0 and ED
three : (a b c : ℕ) → 0xE0 ≤ a → a ≤ 0xEF → (a ≡ 0xE0 → 0xA0 ≤ b) → (a ≡ 0xED → b ≤ 0x9F)
    → 0x80 ≤ b → b ≤ 0xBF → within 0x80 0xBF c ≡ true → WellFormed (a ∷ b ∷ c ∷ [])
unfolding WellFormed
three a b c lo hi e0 ed low high tail = go (eqb a 0xE0) refl (eqb a 0xED) refl
  where
    go : (t : Bool) → eqb a 0xE0 ≡ t → (u : Bool) → eqb a 0xED ≡ u → after between (a ∷ b ∷ c ∷ []) ≡ between
    go true e u f =
        let q : a ≡ 0xE0 = eqb-true a 0xE0 e in
        rw (q, inside 0xA0 0xBF b (e0 q) high, tail)
    go false e true f =
        let q : a ≡ 0xED = eqb-true a 0xED f in
        rw (q, inside 0x80 0x9F b low (ed q), tail)
    go false e false f =
        let q : a ≢ 0xE0 = eqb-false a 0xE0 e in
        rw (lt-leb a 0x7F (omega arith), above 0xC2 0xDF a (omega arith), e, f, inside 0xE1 0xEF a (omega arith) hi, inside 0x80 0xBF b low high, tail)

-- four, with those after F0 and F4
four : (a b c d : ℕ) → 0xF0 ≤ a → a ≤ 0xF4 → (a ≡ 0xF0 → 0x90 ≤ b) → (a ≡ 0xF4 → b ≤ 0x8F)
    → 0x80 ≤ b → b ≤ 0xBF → within 0x80 0xBF c ≡ true → within 0x80 0xBF d ≡ true → WellFormed (a ∷ b ∷ c ∷ d ∷ [])
unfolding WellFormed
four a b c d lo hi f0 f4 low high tail last = go (eqb a 0xF0) refl (eqb a 0xF4) refl
  where
    go : (t : Bool) → eqb a 0xF0 ≡ t → (u : Bool) → eqb a 0xF4 ≡ u → after between (a ∷ b ∷ c ∷ d ∷ []) ≡ between
    go true e u f =
        let q : a ≡ 0xF0 = eqb-true a 0xF0 e in
        rw (q, inside 0x90 0xBF b (f0 q) high, tail, last)
    go false e true f =
        let q : a ≡ 0xF4 = eqb-true a 0xF4 f in
        rw (q, inside 0x80 0x8F b low (f4 q), tail, last)
    go false e false f =
        let q : a ≢ 0xF0 = eqb-false a 0xF0 e in
        let r : a ≢ 0xF4 = eqb-false a 0xF4 f in
        rw (lt-leb a 0x7F (omega arith), above 0xC2 0xDF a (omega arith), ne_eqb a 0xE0 (λ q. omega arith), ne_eqb a 0xED (λ q. omega arith), above 0xE1 0xEF a (omega arith), e, inside 0xF1 0xF3 a (omega arith) (omega arith), inside 0x80 0xBF b low high, tail, last)

-- the last six bits
tail : (n : ℕ) → within 0x80 0xBF (0x80 + n % 64) ≡ true
tail n = inside 0x80 0xBF (0x80 + n % 64) (omega arith) (omega arith)

form_1 : (n : ℕ) → n < 0x80 → WellFormed (n ∷ [])
unfolding WellFormed
form_1 n h = rw (le-leb n 0x7F (omega arith))

form_2 : (n : ℕ) → 0x80 ≤ n → n < 0x800 → WellFormed ((0xC0 + n / 64) ∷ (0x80 + n % 64) ∷ [])
unfolding WellFormed
form_2 n h k =
    rw (lt-leb (0xC0 + n / 64) 0x7F (omega arith), inside 0xC2 0xDF (0xC0 + n / 64) (omega arith) (omega arith), tail n)

-- for a number that is no surrogate and at most U+10FFFF
pub encode_well_formed : (n : ℕ) → within 0xD800 0xDFFF n ≡ false → n ≤ 1114111 → WellFormed (encode n)
encode_well_formed n s m =
    by_size WellFormed n (form_1 n) (form_2 n)
    (λ g h.
    three (0xE0 + n / 4096) (0x80 + n / 64 % 64) (0x80 + n % 64) (omega arith) (omega arith) (λ q. omega arith)
    (λ q. either 0xD800 0xDFFF n s (λ b. omega arith) (λ a. omega arith)) (omega arith) (omega arith) (tail n))
    (λ g.
    four (0xF0 + n / 262144) (0x80 + n / 4096 % 64) (0x80 + n / 64 % 64) (0x80 + n % 64) (omega arith) (omega arith) (λ q. omega arith)
    (λ q. omega arith) (omega arith) (omega arith) (tail (n / 64)) (tail n))
