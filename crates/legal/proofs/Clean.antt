-- Parts of a text in which no fault begins, and the first fault after one: how they grow (`clean_join`, `first_join`), what is known of a
-- block after its tests (`suspect_none`, `likely_none`, `unprintable_none`), and faults at an index. Assumes nothing.
use mathlib.Core.Path.{◌≡◌, refl, sym, ap, ◌∙◌}
use mathlib.Core.Bool.{Bool, true, false, not, ◌&&◌, ◌||◌, true≢false}
use mathlib.Core.List.{List, ◌∷◌}
use Prim.Native.Nat.{ℕ, ◌+◌, ◌-◌, ◌≤◌, ◌<◌, zero-le}
use native.Mathlib.Omega.{arith}
use native.Mathlib.Nat.{le_refl, le_trans}
use lib.Dec.{eqb, leb, ltb}
use lib.ListN.{length, take, drop, get_or, length-drop, drop_of_length-le}
use lib.Seq.{get_or-take, get_or-drop, length-take-le}
use borrow.Author.Tests.{eqb-true, eqb-false, eq-eqb, ne_eqb, ltb-true, ltb-false}
use Rattle.text.specs.Bytes.{pick, within}
use Rattle.text.specs.Simple.{Simple}
use Rattle.text.proofs.Bytes.{or_left, or_right, contrary, within_low, within_top}
use Rattle.text.proofs.Patterns.{at_head}
use Rattle.text.proofs.Printable.{not_control, not_above}
use Rattle.legal.specs.FirstFault.{may_by, faults_by, Clean, CleanByAny, FirstFault}
use Rattle.legal.proofs.Numbers.{printable_may, is_control, ascii_may}
use Rattle.legal.proofs.Faults.{fault_ascii, fault_other, fault_c2, fault_c2_high, fault_c2_other, fault_c2_alone, fault_ef, fault_ef_other, fault_ef_alone, fault_ef_short}

-- ---- over any test for faults

module _ (fault : List ℕ → Bool) (t : List ℕ) where
  pub clean_none : (i : ℕ) → i ≤ length t → Clean fault t i i
  clean_none i h = record { from = le_refl i; to = h; none = λ k g l. absurd (omega (arith, g, l)) }

  pub clean_join : {i k : ℕ} (j : ℕ) → Clean fault t i j → Clean fault t j k → Clean fault t i k
  clean_join {i} {k} j a b =
      record { from = le_trans a.from b.from; to = b.to; none = λ m g h. go m (ltb m j) refl g h }
    where
      go : (m : ℕ) (x : Bool) → ltb m j ≡ x → i ≤ m → m < k → fault (drop m t) ≡ false
      go m true e g h = a.none m g (ltb-true m j e)
      go m false e g h = b.none m (ltb-false m j e) h

  pub clean_byte : (i : ℕ) → i < length t → fault (drop i t) ≡ false → Clean fault t i (i + 1)
  clean_byte i h e =
      record { from = omega arith; to = omega (arith, h); none = λ k g l. let q : k ≡ i = omega (arith, g, l) in rw q e }

  -- where the last `size` bytes before `e` are clean, a part up to `e` that is no longer is
  pub clean_last : {i : ℕ} (e size : ℕ) → size ≤ e → i ≤ e → e ≤ i + size → Clean fault t (e - size) (e - size + size) → Clean fault t i e
  clean_last {i} e size h g f p =
      record { from = g; to = omega (arith, p.to, h); none = λ k a b. p.none k (omega arith) (omega arith) }

  pub first_over : {i e : ℕ} → Clean fault t i e → FirstFault fault t i e e
  first_over {e = e} p = record { clean = p; within = le_refl e; found = λ h. absurd (omega (arith, h)) }

  pub first_join : {i to r : ℕ} (j : ℕ) → Clean fault t i j → FirstFault fault t j to r → FirstFault fault t i to r
  first_join j p f = record { clean = clean_join j p f.clean; within = f.within; found = f.found }

  -- one that is found is the first in a longer part too; where none is found the part is clean
  pub first_longer : {i e to r : ℕ} → e ≤ to → FirstFault fault t i e r → r < e → FirstFault fault t i to r
  first_longer h f l = record { clean = f.clean; within = omega (arith, l, h); found = λ m. f.found l }

  pub first_none : {i e r : ℕ} → FirstFault fault t i e r → e ≤ r → Clean fault t i e
  first_none {e = e} {r = r} f h = let q : r ≡ e = omega (arith, h, f.within) in rw q at f.clean

-- what a search up to `to` keeps at `i`
pub record Searched (fault : List ℕ → Bool) (t : List ℕ) (from to i : ℕ) : Type 0 where
  pub clean : Clean fault t from i
  pub within : i ≤ to

module _ {fault : List ℕ → Bool} {t : List ℕ} {from to : ℕ} where
  pub searched_none : from ≤ to → to ≤ length t → Searched fault t from to from
  searched_none g h = record { clean = clean_none fault t from (omega (arith, g, h)); within = g }

  pub searched_more : {i : ℕ} (e : ℕ) → e ≤ to → Clean fault t i e → Searched fault t from to i → Searched fault t from to e
  searched_more {i} e h p s = record { clean = clean_join fault t i s.clean p; within = h }

-- ---- a block of 16 bytes

-- after k of the 16 bytes from i on: where `hit` is unset none of them begins a fault
pub record Looked (t : List ℕ) (i : ℕ) (hit : Bool) (k : ℕ) : Type 0 where
  pub within : k ≤ 16
  pub clear : hit ≡ false → CleanByAny t i (i + k)

-- four accumulators that are all unset after a turn were so before it, and the turn set none
none_four : (a b c d x y z w : Bool) → a || x || (b || y) || (c || z) || (d || w) ≡ false → (a || b || c || d ≡ false) × (x || y || (z || w) ≡ false)
none_four false false false false false false z w e = (refl, e)
none_four true b c d x y z w e = absurd (true≢false e)
none_four false true c d true y z w e = absurd (true≢false e)
none_four false true c d false y z w e = absurd (true≢false e)
none_four false false c d true y z w e = absurd (true≢false e)
none_four false false c d false true z w e = absurd (true≢false e)
none_four false false true d false false z w e = absurd (true≢false e)
none_four false false false true false false true w e = absurd (true≢false e)
none_four false false false true false false false w e = absurd (true≢false e)

module _ (t : List ℕ) (i : ℕ) (h : i + 16 ≤ length t) where
  pub looked_none : Looked t i false 0
  looked_none =
      let q : i + 0 ≡ i = omega arith in
      record { within = zero-le; clear = λ e rule. rw q (clean_none (faults_by rule) t i (omega arith)) }

  module _ (k : ℕ) (l : k < 16) where
    -- no fault of any rule begins at the byte of this turn
    abbrev Harmless : Type 0
    Harmless = (rule : ℕ) → faults_by rule (drop (i + k) t) ≡ false

    turn : (before now : Bool) → (now ≡ false → (before ≡ false) × Harmless) → Looked t i before k → Looked t i now (k + 1)
    turn before now f p =
        let q : i + k + 1 ≡ i + (k + 1) = omega arith in
        record {
          within = omega arith;
          clear = λ e rule.
              let each = f e in
              rw q at (clean_join (faults_by rule) t (i + k) (p.clear each.0 rule) (clean_byte (faults_by rule) t (i + k) (omega arith) (each.1 rule)));
        }

    pub looked_one : (hit x : Bool) → (x ≡ false → Harmless) → Looked t i hit k → Looked t i (hit || x) (k + 1)
    looked_one hit x f p = turn hit (hit || x) (λ e. (or_left hit x e, f (or_right hit x e))) p

    pub looked_four : (a b c d x y z w : Bool) → (x || y || (z || w) ≡ false → Harmless)
        → Looked t i (a || b || c || d) k → Looked t i (a || x || (b || y) || (c || z) || (d || w)) (k + 1)
    looked_four a b c d x y z w f p =
        turn (a || b || c || d) (a || x || (b || y) || (c || z) || (d || w))
        (λ e. let each = none_four a b c d x y z w e in (each.0, f each.1)) p

  pub looked_all : {hit : Bool} {k : ℕ} → Looked t i hit k → 16 ≤ k → hit ≡ false → CleanByAny t i (i + 16)
  looked_all {k = k} p g e = let q : k ≡ 16 = omega (arith, g, p.within) in rw q at (p.clear e)

-- a byte of the block, and how many it has
pub block_byte : (t : List ℕ) (i k : ℕ) → k < 16 → get_or (take (i + 16 - i) (drop i t)) k 0 ≡ get_or t (i + k) 0
block_byte t i k h = get_or-take (i + 16 - i) (drop i t) k 0 (omega arith) ∙ get_or-drop i t k 0

pub block_size : (t : List ℕ) (i : ℕ) → i + 16 ≤ length t → length (take (i + 16 - i) (drop i t)) ≡ 16
block_size t i h = length-take-le (i + 16 - i) (drop i t) (rw length-drop (omega arith)) ∙ omega arith

-- ---- what the tests of a block tell

-- printable ASCII, and past ASCII what is neither C2 nor EF
plain_none : (rule b : ℕ) (bs : List ℕ) → 32 ≤ b → (b ≡ 0x7F → ⊥) → (b ≡ 0xC2 → ⊥) → (b ≡ 0xEF → ⊥) → faults_by rule (b ∷ bs) ≡ false
plain_none rule b bs g p q r = go (ltb b 0x80) refl
  where
    go : (x : Bool) → ltb b 0x80 ≡ x → faults_by rule (b ∷ bs) ≡ false
    go true e =
        let h : b < 0x80 = ltb-true b 0x80 e in
        fault_ascii rule b bs h ∙ ap not (printable_may rule b g (omega arith))
    go false e = fault_other rule b bs (ltb-false b 0x80 e) q r

-- white space, and after C2 and EF what is common, too
likely_head : (rule b c : ℕ) (cs : List ℕ) → is_control b ≡ false → (b ≡ 0x7F → ⊥) → (b ≡ 0xC2 → ltb c 0xA0 ≡ false) → (b ≡ 0xEF → eqb c 0xBF ≡ false)
    → faults_by rule (b ∷ c ∷ cs) ≡ false
likely_head rule b c cs low p two three = go (ltb b 0x80) refl (eqb b 0xC2) refl (eqb b 0xEF) refl
  where
    not_nul : (x : Bool) → eqb b 0 ≡ x → eqb b 0 ≡ false
    not_nul true e = contrary (ap is_control (eqb-true b 0 e)) low
    not_nul false e = e

    ascii : (x : Bool) → pick x (eqb b 0) (is_control b) ≡ false
    ascii true = not_nul (eqb b 0) refl
    ascii false = low

    go : (x : Bool) → ltb b 0x80 ≡ x → (y : Bool) → eqb b 0xC2 ≡ y → (z : Bool) → eqb b 0xEF ≡ z → faults_by rule (b ∷ c ∷ cs) ≡ false
    go true e y f z g =
        let h : b < 0x80 = ltb-true b 0x80 e in
        fault_ascii rule b (c ∷ cs) h ∙ ascii_may rule b h ∙ (rw (ne_eqb b 127 p) (ascii (leb 2 rule)))
    go false e true f z g =
        let q : b ≡ 0xC2 = eqb-true b 0xC2 f in
        rw q (fault_c2_high rule c cs (ltb-false c 0xA0 (two q)))
    go false e false f true g =
        let q : b ≡ 0xEF = eqb-true b 0xEF g in
        rw q (fault_ef_other rule c cs (eqb-false c 0xBF (three q)))
    go false e false f false g = fault_other rule b (c ∷ cs) (ltb-false b 0x80 e) (eqb-false b 0xC2 f) (eqb-false b 0xEF g)

-- of a test and another that fail together, the second where the first holds
and_second : (a b : Bool) → a && b ≡ false → a ≡ true → b ≡ false
and_second true b e f = e
and_second false b e f = contrary f refl

module _ (t : List ℕ) (j : ℕ) where
  abbrev byte : ℕ
  byte = get_or t j 0

  abbrev following : ℕ
  following = get_or t (j + 1) 0

  printable_none : j < length t → 32 ≤ byte → byte ≤ 126 → (rule : ℕ) → faults_by rule (drop j t) ≡ false
  printable_none h low high rule =
      ap (faults_by rule) (at_head t j h) ∙ fault_ascii rule byte (drop (j + 1) t) (omega arith) ∙ ap not (printable_may rule byte low high)

  pub unprintable_none : j < length t → ltb byte 32 || ltb 126 byte ≡ false → (rule : ℕ) → faults_by rule (drop j t) ≡ false
  unprintable_none h e rule =
      printable_none h (ltb-false byte 32 (or_left (ltb byte 32) (ltb 126 byte) e)) (ltb-false 126 byte (or_right (ltb byte 32) (ltb 126 byte) e)) rule

  pub suspect_none : j < length t → ltb byte 32 || eqb byte 0x7F || (eqb byte 0xC2 || eqb byte 0xEF) ≡ false → (rule : ℕ) → faults_by rule (drop j t) ≡ false
  suspect_none h e rule =
      let low = or_left (ltb byte 32 || eqb byte 0x7F) (eqb byte 0xC2 || eqb byte 0xEF) e in
      let high = or_right (ltb byte 32 || eqb byte 0x7F) (eqb byte 0xC2 || eqb byte 0xEF) e in
      ap (faults_by rule) (at_head t j h)
      ∙ plain_none rule byte (drop (j + 1) t) (ltb-false byte 32 (or_left (ltb byte 32) (eqb byte 0x7F) low))
      (eqb-false byte 0x7F (or_right (ltb byte 32) (eqb byte 0x7F) low)) (eqb-false byte 0xC2 (or_left (eqb byte 0xC2) (eqb byte 0xEF) high))
      (eqb-false byte 0xEF (or_right (eqb byte 0xC2) (eqb byte 0xEF) high))

  abbrev after_two : Bool
  after_two = eqb byte 0xC2 && ltb following 0xA0

  abbrev after_three : Bool
  after_three = eqb byte 0xEF && eqb following 0xBF

  two_bytes : j + 1 < length t → drop j t ≡ byte ∷ following ∷ drop (j + 1 + 1) t
  two_bytes h = at_head t j (omega arith) ∙ ap (λ (l : List ℕ). byte ∷ l) (at_head t (j + 1) h)

  three_bytes : j + 2 < length t → drop j t ≡ byte ∷ following ∷ get_or t (j + 2) 0 ∷ drop (j + 2 + 1) t
  three_bytes h =
      let q : j + 1 + 1 ≡ j + 2 = omega arith in
      two_bytes (omega arith) ∙ ap (λ (l : List ℕ). byte ∷ following ∷ l) (rw q (at_head t (j + 2) h))

  pub likely_none : j + 1 < length t → is_control byte || eqb byte 0x7F || (after_two || after_three) ≡ false → (rule : ℕ) → faults_by rule (drop j t) ≡ false
  likely_none h e rule =
      let low = or_left (is_control byte || eqb byte 0x7F) (after_two || after_three) e in
      let high = or_right (is_control byte || eqb byte 0x7F) (after_two || after_three) e in
      ap (faults_by rule) (two_bytes h)
      ∙ likely_head rule byte following (drop (j + 1 + 1) t) (or_left (is_control byte) (eqb byte 0x7F) low)
      (eqb-false byte 0x7F (or_right (is_control byte) (eqb byte 0x7F) low))
      (λ q. and_second (eqb byte 0xC2) (ltb following 0xA0) (or_left after_two after_three high) (eq-eqb byte 0xC2 q))
      (λ q. and_second (eqb byte 0xEF) (eqb following 0xBF) (or_right after_two after_three high) (eq-eqb byte 0xEF q))

  -- ---- a fault at an index

  pub at_printable : (rule : ℕ) → j < length t → within 32 126 byte ≡ true → false ≡ faults_by rule (drop j t)
  at_printable rule h e = sym (printable_none h (within_low 32 126 byte e) (within_top 32 126 byte e) rule)

  pub at_ascii : (rule : ℕ) → j < length t → byte < 0x80 → not (may_by rule byte) ≡ faults_by rule (drop j t)
  at_ascii rule h k = sym (ap (faults_by rule) (at_head t j h) ∙ fault_ascii rule byte (drop (j + 1) t) k)

  pub at_other : (rule : ℕ) → j < length t → 0x80 ≤ byte → (byte ≡ 0xEF → ⊥) → eqb byte 0xC2 && eqb rule 1 ≡ false → false ≡ faults_by rule (drop j t)
  at_other rule h k p e = sym (ap (faults_by rule) (at_head t j h) ∙ go (eqb byte 0xC2) refl)
    where
      go : (x : Bool) → eqb byte 0xC2 ≡ x → faults_by rule (byte ∷ drop (j + 1) t) ≡ false
      go true f =
          ap (λ (b : ℕ). faults_by rule (b ∷ drop (j + 1) t)) (eqb-true byte 0xC2 f)
          ∙ fault_c2_other rule (drop (j + 1) t) (eqb-false rule 1 (and_second (eqb byte 0xC2) (eqb rule 1) e f))
      go false f = fault_other rule byte (drop (j + 1) t) k (eqb-false byte 0xC2 f) p

  pub c2_end : j < length t → length t - j < 2 → byte ≡ 0xC2 → false ≡ faults_by 1 (drop j t)
  c2_end h k e =
      sym (ap (faults_by 1) (at_head t j h) ∙ (rw (e, drop_of_length-le t (last_byte h k)) (fault_c2_alone 1)))
    where
      last_byte : j < length t → length t - j < 2 → length t ≤ j + 1
      last_byte a b = omega arith

  pub c2_at : j + 1 < length t → byte ≡ 0xC2 → leb 0x80 following && leb following 0x9F && not (eqb following 0x85) ≡ faults_by 1 (drop j t)
  c2_at h e = sym (ap (faults_by 1) (two_bytes h) ∙ (rw e (fault_c2 following (drop (j + 1 + 1) t))))

  pub ef_at : (rule : ℕ) → j + 2 < length t → byte ≡ 0xEF
      → eqb following 0xBF && (eqb (get_or t (j + 2) 0) 0xBE || eqb (get_or t (j + 2) 0) 0xBF) ≡ faults_by rule (drop j t)
  ef_at rule h e =
      sym (ap (faults_by rule) (three_bytes h) ∙ (rw e (fault_ef rule following (get_or t (j + 2) 0) (drop (j + 2 + 1) t))))

  pub ef_end : (rule : ℕ) → j < length t → length t - j < 3 → byte ≡ 0xEF → false ≡ faults_by rule (drop j t)
  ef_end rule h k e = sym (go (ltb (j + 1) (length t)) refl)
    where
      go : (x : Bool) → ltb (j + 1) (length t) ≡ x → faults_by rule (drop j t) ≡ false
      go true f =
          let g : j + 1 < length t = ltb-true (j + 1) (length t) f in
          let l : length t ≤ j + 1 + 1 = omega arith in
          ap (faults_by rule) (two_bytes g) ∙ (rw (e, drop_of_length-le t l) (fault_ef_short rule following))
      go false f =
          let l : length t ≤ j + 1 = ltb-false (j + 1) (length t) f in
          ap (faults_by rule) (at_head t j h) ∙ (rw (e, drop_of_length-le t l) (fault_ef_alone rule))

-- ---- a text that stands for itself

-- printable ASCII has no fault under any rule
pub simple_clean : (t : List ℕ) → Simple t → CleanByAny t 0 (length t)
simple_clean t s =
    λ rule.
    record {
      from = zero-le;
      to = le_refl (length t);
      none = λ k g l.
          let b = get_or t k 0 in
          printable_none t k l (not_control {b = b} (s.each k g l)) (not_above {b = b} (s.each k g l)) rule;
    }
