-- Copies of runs with blanks as spaces: a byte (`gains_spaced`), the start of a run that is laid (`laying_next`, `laying_all`), and pieces, which
-- may overlap with what is laid already (`laying_store`, `stored_all`). Assumes nothing.
use mathlib.Core.Path.{◌≡◌, refl, sym, ap, ap₂, ◌∙◌}
use mathlib.Core.Bool.{Bool, true, false, ◌||◌}
use mathlib.Core.List.{List, [], ◌∷◌}
use Prim.Native.Nat.{ℕ, zero, suc, ◌+◌, ◌≤◌, ◌<◌, zero-le, max}
use native.Mathlib.Omega.{arith}
use lib.Dec.{eqb, ltb}
use lib.ListN.{length, take, drop, get_or, set, length-set, length-take, get_or-append}
use lib.Seq.{take_all, get_or-take, set-get_or}
use borrow.Author.Tests.{eqb-true, ltb-true, ltb-false}
use Rattle.text.specs.Bytes.{pick}
use Rattle.text.specs.Call.{laid}
use Rattle.output.proofs.Laid.{laid_next}
use Rattle.halts.specs.Halts.{spaced, blanks_spaced, Laying, PieceLaid}

-- ---- a byte, by what is added to it

module _ (b g h : ℕ) {x y : ℕ} (e : x ≡ pick (eqb b 9) g 0) (f : y ≡ pick (eqb b 10) h 0) where
  -- TAB and LF become spaces
  pub gains_spaced : 9 + g ≡ 32 → 10 + h ≡ 32 → b + x + y ≡ spaced b
  gains_spaced tab lf = ap₂ (λ (m n : ℕ). b + m + n) e f ∙ go (eqb b 9) refl (eqb b 10) refl
    where
      go : (t : Bool) → eqb b 9 ≡ t → (l : Bool) → eqb b 10 ≡ l → b + pick t g 0 + pick l h 0 ≡ pick (t || l) 32 b
      go true p true q = absurd (omega (arith, eqb-true b 9 p, eqb-true b 10 q))
      go true p false q = omega (arith, eqb-true b 9 p, tab)
      go false p true q = omega (arith, eqb-true b 10 q, lf)
      go false p false q = omega arith

-- ---- a run

pub spaced_length : (t : List ℕ) → length (blanks_spaced t) ≡ length t
spaced_length [] = refl
spaced_length (b ∷ bs) = ap suc (spaced_length bs)

pub spaced_at : (t : List ℕ) (k : ℕ) → get_or (blanks_spaced t) k 0 ≡ spaced (get_or t k 0)
spaced_at [] k = refl
spaced_at (b ∷ bs) zero = refl
spaced_at (b ∷ bs) (suc k) = spaced_at bs k

-- ---- what is laid of it

module _ (src old : List ℕ) where
  abbrev all : List ℕ
  all = blanks_spaced src

  pub laying_none : Laying src old old 0
  laying_none = record { holds = refl; size = refl }

  -- past the run's end
  whole : (n : ℕ) → length src ≤ n → take n all ≡ all
  whole n h = take_all n all (rw (spaced_length src) h)

  pub laying_all : {out : List ℕ} {i : ℕ} → Laying src old out i → length src ≤ i → out ≡ laid all old
  laying_all {i = i} l h = l.holds ∙ ap (λ (s : List ℕ). laid s old) (whole i h)

  pub laying_past : {out : List ℕ} {i : ℕ} → Laying src old out i → length src ≤ i → Laying src old out (i + 1)
  laying_past {i = i} l h =
      record { holds = laying_all l h ∙ sym (ap (λ (s : List ℕ). laid s old) (whole (i + 1) (omega arith))); size = l.size }

  module _ {out : List ℕ} {m : ℕ} (l : Laying src old out m) (room : length src ≤ length out) where
    -- after the store of the next byte
    pub laying_next : {b : ℕ} → m < length src → b ≡ spaced (get_or src m 0) → Laying src old (set out m b) (m + 1)
    laying_next {b} h e =
        record {
          holds =
              ap (λ (o : List ℕ). set o m b) l.holds
              ∙ ap (λ (c : ℕ). set (laid (take m all) old) m c) (e ∙ sym (spaced_at src m))
              ∙ laid_next all old m (rw (spaced_length src) h) (omega (arith, l.size, room));
          size = length-set out m b ∙ l.size;
        }

    -- a byte that is laid already
    laid_byte_at : (i : ℕ) → i < m → i < length src → get_or out i 0 ≡ spaced (get_or src i 0)
    laid_byte_at i h g =
        let inside : i < length (take m all) = rw (length-take m all, spaced_length src) (omega arith) in
        ap (λ (o : List ℕ). get_or o i 0) l.holds
        ∙ get_or-append (take m all) (drop (length (take m all)) old) 0 i inside
        ∙ get_or-take m all i 0 h
        ∙ spaced_at src i

    -- its store, or that of the next one
    pub laying_store : {b : ℕ} (i : ℕ) → i ≤ m → i < length src → b ≡ spaced (get_or src i 0) → Laying src old (set out i b) (max m (i + 1))
    laying_store {b} i h g e = go (ltb i m) refl
      where
        go : (t : Bool) → ltb i m ≡ t → Laying src old (set out i b) (max m (i + 1))
        go true q =
            let further : max m (i + 1) ≡ m = omega (arith, ltb-true i m q) in
            let same : set out i b ≡ out = ap (set out i) (e ∙ sym (laid_byte_at i (ltb-true i m q) g)) ∙ set-get_or out i 0 in
            rw (further, same) l
        go false q =
            let here : i ≡ m = omega (arith, ltb-false i m q) in
            let further : max m (m + 1) ≡ m + 1 = omega arith in
            rw (here, further) (laying_next (rw here at g) (rw here at e))

-- ---- pieces of `size` bytes from `from` on, by way of a local array

-- its first k bytes are filled in
pub record Filled (src : List ℕ) (from size : ℕ) (block : List ℕ) (k : ℕ) : Type 0 where
  pub within : k ≤ size
  pub room : length block ≡ size
  pub bytes : (j : ℕ) → j < k → get_or block j 0 ≡ spaced (get_or src (from + j) 0)

-- its first k bytes are stored
pub record Stored (src : List ℕ) (from size : ℕ) (block before out : List ℕ) (k : ℕ) : Type 0 where
  pub within : k ≤ size
  pub filled : Filled src from size block size
  pub same : length out ≡ length before
  pub laying : (old : List ℕ) (m : ℕ) → from ≤ m → m ≤ from + size → Laying src old before m → Laying src old out (max m (from + k))

module _ (src : List ℕ) (from size : ℕ) where
  pub stored_none : {block : List ℕ} (out : List ℕ) → Filled src from size block size → Stored src from size block out out 0
  stored_none out f =
      record {
        within = zero-le;
        filled = f;
        same = refl;
        laying = λ old m h g l. let q : max m (from + 0) ≡ m = omega (arith, h) in rw q l;
      }

  module _ {block before out : List ℕ} (fits : from + size ≤ length src) (room : length src ≤ length before) where
    pub stored_next : {k : ℕ} → Stored src from size block before out k → k < size
        → Stored src from size block before (set out (from + k) (get_or block k 0)) (k + 1)
    stored_next {k} s h =
        record {
          within = omega arith;
          filled = s.filled;
          same = length-set out (from + k) (get_or block k 0) ∙ s.same;
          laying = λ old m a b l.
              let q : max (max m (from + k)) (from + k + 1) ≡ max m (from + (k + 1)) = omega arith in
              rw q at (laying_store src old (s.laying old m a b l) (omega (arith, s.same, room)) (from + k) (omega arith) (omega arith) (s.filled.bytes k h));
        }

    pub stored_all : {k : ℕ} → Stored src from size block before out k → size ≤ k → PieceLaid src from size before out
    stored_all {k} s h old m a b l =
        let q : max m (from + k) ≡ from + size = omega (arith, s.within, h, a, b) in
        rw q at (s.laying old m a b l)

-- what is laid reaches the next piece, and ends in it
pub record Reaching (src old out : List ℕ) (size i : ℕ) : Type 0 where
  pub upto : ℕ
  pub reaches : i ≤ upto
  pub ends : upto ≤ i + size
  pub laying : Laying src old out upto

module _ {src old before after : List ℕ} {size i : ℕ} (r : Reaching src old before size i) (p : PieceLaid src i size before after) where
  pub piece_more : Laying src old after (i + size)
  piece_more = p old r.upto r.reaches r.ends r.laying

  pub piece_last : length src ≤ i + size → after ≡ laid (blanks_spaced src) old
  piece_last h = laying_all src old piece_more h
