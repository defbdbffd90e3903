-- A name compared by blocks: what a block that agrees adds (`agree_block`), and one that does not tells (`differ_block`); a block byte by byte
-- (`Differing`) or as one number. Assumes nothing.
use Rattle.std.proofs.Common.{◌≡◌, ℕ, ◌+◌, ◌-◌, ◌<◌, ◌≤◌, Bool, true, false, eqb, ltb, List, length, get_or, sym, refl, ap, ◌∙◌, subst, le_refl, add-zero, arith, ltb-false, ltb-true, eqb-true}
use borrow.Author.Tests.{eqb-false}
use Rattle.text.specs.Bytes.{same_bytes}
use Rattle.text.specs.Blocks.{word_at}
use Rattle.entity.specs.Table.{part}
use Rattle.entity.specs.Steps.{Agree}
use Rattle.entity.proofs.Lookup.{agree_none, same_all}
use Rattle.entity.proofs.Parts.{part_at}
use Rattle.entity.proofs.Predefined.{not_same}
use Rattle.entity.proofs.Words.{word_bytes}

-- so many bytes are the same, from i on in the one and from j on in the other
abbrev pub Alike : List ℕ → ℕ → List ℕ → ℕ → ℕ → Type 0
Alike t i u j size = (k : ℕ) → k < size → get_or t (i + k) 0 ≡ get_or u (j + k) 0

-- ---- a block of a name

module _ (pool : List ℕ) (start : ℕ) (name : List ℕ) (from size : ℕ) where
  pub agree_block : (i : ℕ) {j : ℕ} → Agree pool start name i → from ≤ i → j ≤ from + size → j ≤ length name → Alike pool (start + from) name from size
      → Agree pool start name j
  agree_block i {j} a h to fits alike = record { fits = fits; agree = λ k l. go k l (ltb k i) refl }
    where
      go : (k : ℕ) → k < j → (t : Bool) → ltb k i ≡ t → get_or pool (start + k) 0 ≡ get_or name k 0
      go k l true q = a.agree k (ltb-true k i q)
      go k l false q =
          let g = ltb-false k i q in
          let p1 : start + from + (k - from) ≡ start + k = omega (arith, g, h) in
          let p2 : from + (k - from) ≡ k = omega (arith, g, h) in
          rw (p1, p2) at (alike (k - from) (omega (arith, g, h, l, to)))

  pub differ_block : (n : ℕ) → from + size ≤ n → (Alike pool (start + from) name from size → ⊥) → same_bytes (part pool start n) name ≡ false
  differ_block n h other = not_same (part pool start n) name (λ e. other (λ k l. at_byte e k (omega (arith, h, l))))
    where
      at_byte : part pool start n ≡ name → (k : ℕ) → from + k < n → get_or pool (start + from + k) 0 ≡ get_or name (from + k) 0
      at_byte e k l =
          let q : start + (from + k) ≡ start + from + k = omega arith in
          rw q at (sym (part_at pool start n (from + k) l) ∙ ap (λ (x : List ℕ). get_or x (from + k) 0) e)

-- ---- eight bytes as one number

module _ (t u : List ℕ) (i j : ℕ) where
  pub word_alike : ((k : ℕ) → get_or t k 0 < 0x100) → ((k : ℕ) → get_or u k 0 < 0x100) → word_at t i ≡ word_at u j → Alike t i u j 8
  word_alike ts us e = word_bytes t u i j ts us e

  pub alike_word : Alike t i u j 8 → word_at t i ≡ word_at u j
  alike_word same =
      let z : get_or t i 0 ≡ get_or u j 0 = rw (add-zero i, add-zero j) at (same 0 (omega arith)) in
      rw (z, same 1 (omega arith), same 2 (omega arith), same 3 (omega arith), same 4 (omega arith), same 5 (omega arith), same 6 (omega arith), same 7 (omega arith))

-- a name of 8 to 16 bytes whose last eight are those of the pool: the first eight tell
module _ (pool : List ℕ) (start : ℕ) (name : List ℕ) (pools : (k : ℕ) → get_or pool k 0 < 0x100) (names : (k : ℕ) → get_or name k 0 < 0x100) where
  abbrev n : ℕ
  n = length name

  first_alike : word_at pool start ≡ word_at name 0 → Alike pool (start + 0) name 0 8
  first_alike e = subst (λ (x : ℕ). Alike pool x name 0 8) (sym (add-zero start)) (word_alike pool name start 0 pools names e)

  alike_first : Alike pool (start + 0) name 0 8 → word_at pool start ≡ word_at name 0
  alike_first a = alike_word pool name start 0 (subst (λ (x : ℕ). Alike pool x name 0 8) (add-zero start) a)

  pub word_ends : start + n ≤ length pool → 8 ≤ n → n ≤ 16 → word_at pool (start + (n - 8)) ≡ word_at name (n - 8)
      → eqb (word_at pool start) (word_at name 0) ≡ same_bytes (part pool start n) name
  word_ends inside least most last = go (eqb (word_at pool start) (word_at name 0)) refl
    where
      go : (t : Bool) → eqb (word_at pool start) (word_at name 0) ≡ t → t ≡ same_bytes (part pool start n) name
      go true e =
          let begun = agree_block pool start name 0 8 0 {j = 8} (agree_none pool start name) (omega arith) (omega arith) least
          (first_alike (eqb-true (word_at pool start) (word_at name 0) e)) in
          let whole = agree_block pool start name (n - 8) 8 8 {j = n} begun (omega (arith, most)) (omega (arith, least)) (le_refl n)
          (word_alike pool name (start + (n - 8)) (n - 8) pools names last) in
          sym (same_all pool start name n inside refl whole (le_refl n))
      go false e = sym (differ_block pool start name 0 8 n least (λ a. eqb-false (word_at pool start) (word_at name 0) e (alike_first a)))

-- ---- byte by byte

-- does one of the first k bytes differ?
pub record Differing (t : List ℕ) (i : ℕ) (u : List ℕ) (j k : ℕ) (differ : Bool) : Type 0 where
  pub same : differ ≡ false → Alike t i u j k
  pub other : differ ≡ true → Alike t i u j k → ⊥
