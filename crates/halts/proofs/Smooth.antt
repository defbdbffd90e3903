-- Where a run ends: a test of bytes over a part of a text (`any_none`, `plain_any`, `first_stop`), runs without halts (`suspects_smooth`,
-- `smooth_join`), and the halt at their end (`older_at`, `halt_join`). A text that stands for itself has no stop (`simple_plain`).
-- Assumes nothing.
use mathlib.Core.Path.{◌≡◌, refl, sym, ap, ap₂, ◌∙◌}
use mathlib.Core.Bool.{Bool, true, false, not, ◌&&◌, ◌||◌, true≢false}
use mathlib.Core.List.{List, [], ◌∷◌}
use Prim.Native.Nat.{ℕ, zero, suc, ◌+◌, ◌-◌, ◌≤◌, ◌<◌, zero-le, suc-le-suc}
use native.Mathlib.Omega.{arith}
use native.Mathlib.Nat.{le_refl, le_trans, not-suc-le-zero, le_of_suc-le-suc}
use lib.Dec.{eqb, leb, ltb}
use lib.ListN.{length, take, drop, get_or, length-drop}
use lib.Seq.{length-take-le, take_all, get_or-take, get_or-drop}
use borrow.Author.Count.{below_none, below_more}
use borrow.Author.Tests.{ne_eqb, leb-true, ltb-true, ltb-false}
use Rattle.text.specs.Bytes.{pick, within, begins}
use Rattle.text.specs.Simple.{special, Simple}
use Rattle.text.specs.Version.{xml11}
use Rattle.text.proofs.Bytes.{and_left, and_right, and_true, or_left, or_right}
use Rattle.text.proofs.Printable.{not_control, not_above, not_amp}
use Rattle.eols.specs.LineEnds.{line_end}
use Rattle.text.proofs.Patterns.{at_head}
use Rattle.output.specs.Runs.{Plain, Ends, either_byte}
use Rattle.output.proofs.Runs.{plain_of, plain_none, plain_join, plain_byte, plain_both}
use Rattle.halts.specs.Halts.{halts, Smooth, HaltAt, suspect_byte, any_stop, stop_byte}

-- ---- a test of bytes over a part of a text

-- after k bytes, an accumulator for each of two bytes
pub record Looked (t : List ℕ) (a b : ℕ) (one two : Bool) (k : ℕ) : Type 0 where
  pub first : one ≡ any_stop (λ c. eqb c a) (take k t)
  pub second : two ≡ any_stop (λ c. eqb c b) (take k t)

or_false : (t : Bool) → t || false ≡ t
or_false true = refl
or_false false = refl

or_assoc : (p q r : Bool) → p || q || r ≡ p || (q || r)
or_assoc true q r = refl
or_assoc false q r = refl

or_swap : (p q r : Bool) → p || (q || r) ≡ q || (p || r)
or_swap true true r = refl
or_swap true false r = refl
or_swap false q r = refl

-- two tests side by side find what one finds that is either
pub any_either : (a b : ℕ) (l : List ℕ)
    → any_stop (λ c. eqb c a) l || any_stop (λ c. eqb c b) l ≡ any_stop (either_byte a b) l
any_either a b [] = refl
any_either a b (c ∷ cs) =
    let x = eqb c a in
    let y = eqb c b in
    let p = any_stop (λ d. eqb d a) cs in
    let q = any_stop (λ d. eqb d b) cs in
    or_assoc x p (y || q)
    ∙ ap (λ (t : Bool). x || t) (or_swap p y q ∙ ap (λ (t : Bool). y || t) (any_either a b cs))
    ∙ sym (or_assoc x y (any_stop (either_byte a b) cs))

module _ (stop : ℕ → Bool) where
  none_each : (l : List ℕ) → any_stop stop l ≡ false → (m : ℕ) → m < length l → stop (get_or l m 0) ≡ false
  none_each [] e m h = absurd (not-suc-le-zero h)
  none_each (b ∷ bs) e zero h = or_left (stop b) (any_stop stop bs) e
  none_each (b ∷ bs) e (suc m) h = none_each bs (or_right (stop b) (any_stop stop bs) e) m (le_of_suc-le-suc h)

  each_none : (l : List ℕ) → ((m : ℕ) → m < length l → stop (get_or l m 0) ≡ false) → any_stop stop l ≡ false
  each_none [] f = refl
  each_none (b ∷ bs) f =
      let here : stop b ≡ false = f 0 (suc-le-suc zero-le) in
      rw here (each_none bs (λ m h. f (suc m) (suc-le-suc h)))

  part_length : (t : List ℕ) (i n : ℕ) → i + n ≤ length t → length (take n (drop i t)) ≡ n
  part_length t i n h = length-take-le n (drop i t) (rw (length-drop i t) (omega arith))

  part_byte : (t : List ℕ) (i n m : ℕ) → m < n → get_or (take n (drop i t)) m 0 ≡ get_or t (i + m) 0
  part_byte t i n m l = get_or-take n (drop i t) m 0 l ∙ get_or-drop i t m 0

  -- nothing is found exactly where there is no stop
  pub any_none : (t : List ℕ) (i n : ℕ) → i + n ≤ length t → any_stop stop (take n (drop i t)) ≡ false → Plain stop t i (i + n)
  any_none t i n h e =
      plain_of stop t i n h
      (λ m l. ap stop (sym (part_byte t i n m l)) ∙ none_each (take n (drop i t)) e m (rw (part_length t i n h) l))

  pub plain_any : (t : List ℕ) (i n : ℕ) → Plain stop t i (i + n) → any_stop stop (take n (drop i t)) ≡ false
  plain_any t i n p =
      each_none (take n (drop i t))
      (λ m l.
      let q : m < n = rw (part_length t i n p.to) at l in
      ap stop (part_byte t i n m q) ∙ p.none (i + m) (omega arith) (omega (arith, q)))

  -- of a whole text
  pub none_plain : (t : List ℕ) → any_stop stop t ≡ false → Plain stop t 0 (length t)
  none_plain t e = record { from = zero-le; to = le_refl (length t); none = λ k g l. none_each t e k l }

-- where something is found there is a first stop
pub record FirstStop (stop : ℕ → Bool) (t : List ℕ) : Type 0 where
  pub at : ℕ
  pub run : Plain stop t 0 at
  pub inside : at < length t
  pub stops : stop (get_or t at 0) ≡ true

pub first_stop : (stop : ℕ → Bool) (t : List ℕ) → any_stop stop t ≡ true → FirstStop stop t
first_stop stop [] e = absurd (true≢false (sym e))
first_stop stop (b ∷ bs) e = go (stop b) refl (λ q. first_stop stop bs q)
  where
    none_before : (f : FirstStop stop bs) → stop b ≡ false → (k : ℕ) → k < suc f.at → stop (get_or (b ∷ bs) k 0) ≡ false
    none_before f q zero l = q
    none_before f q (suc k) l = f.run.none k zero-le (le_of_suc-le-suc l)

    go : (u : Bool) → stop b ≡ u → (any_stop stop bs ≡ true → FirstStop stop bs) → FirstStop stop (b ∷ bs)
    go true q ih = record { at = 0; run = plain_none stop (b ∷ bs) 0 zero-le; inside = suc-le-suc zero-le; stops = q }
    go false q ih =
        let f = ih (rw q at e) in
        record {
          at = suc f.at;
          run = record { from = zero-le; to = suc-le-suc f.run.to; none = λ k g l. none_before f q k l };
          inside = suc-le-suc f.inside;
          stops = f.stops;
        }

-- after all of them
pub looked_all : (t : List ℕ) (a b : ℕ) {one two : Bool} {k : ℕ} → length t ≤ k → Looked t a b one two k → one || two ≡ any_stop (either_byte a b) t
looked_all t a b {k = k} h p =
    ap₂ ◌||◌ p.first p.second ∙ any_either a b (take k t) ∙ ap (any_stop (either_byte a b)) (take_all k t h)

-- the first k of the 16 bytes from i on are a run
pub record InBlock (stop : ℕ → Bool) (t : List ℕ) (i k : ℕ) : Type 0 where
  pub within : k ≤ 16
  pub run : Plain stop t i (i + k)

module _ (stop : ℕ → Bool) (t : List ℕ) (i : ℕ) (h : i + 16 ≤ length t) where
  pub in_block_none : InBlock stop t i 0
  in_block_none = record { within = zero-le; run = plain_of stop t i 0 (omega arith) (λ m l. absurd (not-suc-le-zero l)) }

  pub in_block_next : {k : ℕ} → k < 16 → InBlock stop t i k → stop (get_or t (i + k) 0) ≡ false → InBlock stop t i (k + 1)
  in_block_next {k} l p e =
      let q : i + k + 1 ≡ i + (k + 1) = omega arith in
      record { within = omega arith; run = rw q at (plain_join stop t i (i + k) (i + k + 1) p.run (plain_byte stop t (i + k) (omega arith) e)) }

-- ---- runs without halts

module _ (newer : Bool) (t : List ℕ) where
  pub smooth_none : (i : ℕ) → i ≤ length t → Smooth newer t i i
  smooth_none i h = record { from = le_refl i; to = h; none = λ k g l. absurd (omega (arith, g, l)) }

  pub smooth_join : {i k : ℕ} (j : ℕ) → Smooth newer t i j → Smooth newer t j k → Smooth newer t i k
  smooth_join {i} {k} j a b =
      record { from = le_trans a.from b.from; to = b.to; none = λ m g h. go m (ltb m j) refl g h }
    where
      go : (m : ℕ) (x : Bool) → ltb m j ≡ x → i ≤ m → m < k → halts newer (drop m t) ≡ false
      go m true e g h = a.none m g (ltb-true m j e)
      go m false e g h = b.none m (ltb-false m j e) h

  pub smooth_byte : (i : ℕ) → i < length t → halts newer (drop i t) ≡ false → Smooth newer t i (i + 1)
  smooth_byte i h e =
      record { from = omega arith; to = omega (arith, h); none = λ k g l. let q : k ≡ i = omega (arith, g, l) in rw q e }

-- most bytes start no halt, which one comparison tells
pub common_unsuspected : (b : ℕ) → within 39 0xC1 b ≡ true → suspect_byte true b ≡ false
common_unsuspected b e =
    let h : 39 ≤ b = leb-true 39 b (and_left (leb 39 b) (leb b 0xC1) e) in
    let g : b ≤ 0xC1 = leb-true b 0xC1 (and_right (leb 39 b) (leb b 0xC1) e) in
    rw (ne_eqb b 38 (λ q. omega arith), ne_eqb b 13 (λ q. omega arith), ne_eqb b 0xC2 (λ q. omega arith), ne_eqb b 0xE2 (λ q. omega arith))

-- ASCII bytes start none but `&` and CR; those from 39 on are neither
pub ascii_unsuspected : (b : ℕ) → eqb b 38 || eqb b 13 ≡ false → b ≤ 0x7F → suspect_byte true b ≡ false
ascii_unsuspected b e h = rw (e, ne_eqb b 0xC2 (λ q. omega (arith, q, h)), ne_eqb b 0xE2 (λ q. omega (arith, q, h)))

pub middle_unsuspected : (b : ℕ) → ltb b 39 || ltb 0x7F b ≡ false → suspect_byte true b ≡ false
middle_unsuspected b e =
    let low : 39 ≤ b = ltb-false b 39 (or_left (ltb b 39) (ltb 0x7F b) e) in
    let high : b ≤ 0x7F = ltb-false 0x7F b (or_right (ltb b 39) (ltb 0x7F b) e) in
    ascii_unsuspected b (rw (ne_eqb b 38 (λ q. omega (arith, q, low)), ne_eqb b 13 (λ q. omega (arith, q, low)))) high

pub suspect_halts : (newer : Bool) (b : ℕ) (bs : List ℕ) → suspect_byte newer b ≡ false → halts newer (b ∷ bs) ≡ false
suspect_halts false b bs e = rw e
suspect_halts true b bs e =
    let some = eqb b 0xC2 || eqb b 0xE2 in
    let f = or_right (eqb b 38 || eqb b 13) some e in
    rw (or_left (eqb b 38 || eqb b 13) some e, or_left (eqb b 0xC2) (eqb b 0xE2) f, or_right (eqb b 0xC2) (eqb b 0xE2) f)

-- no byte with which a halt may start
pub suspects_smooth : (newer : Bool) {t : List ℕ} {i e : ℕ} → Plain (suspect_byte newer) t i e → Smooth newer t i e
suspects_smooth newer {t} p =
    record {
      from = p.from;
      to = p.to;
      none = λ k g l.
          ap (halts newer) (at_head t k (omega (arith, l, p.to))) ∙ suspect_halts newer (get_or t k 0) (drop (k + 1) t) (p.none k g l);
    }

-- by the block tests: `&` and CR, and under 1.1 C2 and E2 too
pub two_smooth : (t : List ℕ) (i n : ℕ) → i + n ≤ length t → any_stop (either_byte 38 13) (take n (drop i t)) ≡ false → Smooth false t i (i + n)
two_smooth t i n h e = suspects_smooth false (any_none (either_byte 38 13) t i n h e)

pub four_smooth : (t : List ℕ) (i n : ℕ) → i + n ≤ length t → any_stop (either_byte 38 13) (take n (drop i t)) ≡ false
    → any_stop (either_byte 0xC2 0xE2) (take n (drop i t)) ≡ false → Smooth true t i (i + n)
four_smooth t i n h e f =
    suspects_smooth true
    (plain_both (suspect_byte true) (λ b p q. rw p q) (any_none (either_byte 38 13) t i n h e) (any_none (either_byte 0xC2 0xE2) t i n h f))

-- where the last `size` bytes have no halt, a rest that is no longer has none
pub smooth_last : {newer : Bool} {t : List ℕ} {i : ℕ} (size : ℕ) → size ≤ length t → i ≤ length t → length t ≤ i + size
    → Smooth newer t (length t - size) (length t - size + size) → Smooth newer t i (length t)
smooth_last {t = t} {i = i} size h g f p =
    record { from = g; to = le_refl (length t); none = λ k a b. p.none k (omega arith) (omega arith) }

-- ---- the halt at a run's end

module _ {newer : Bool} {t : List ℕ} where
  pub halt_over : {i : ℕ} → Smooth newer t i (length t) → HaltAt newer t i (length t)
  halt_over p = record { smooth = p; ends = λ h. absurd (omega (arith, h)) }

  pub halt_join : {i e : ℕ} (j : ℕ) → Smooth newer t i j → HaltAt newer t j e → HaltAt newer t i e
  halt_join j p h = record { smooth = smooth_join newer t j p h.smooth; ends = h.ends }

-- under 1.0 each suspect is a halt
pub older_at : {t : List ℕ} {i e : ℕ} → Plain (suspect_byte false) t i e → Ends (suspect_byte false) t e → HaltAt false t i e
older_at {t} {e = e} p d =
    record { smooth = suspects_smooth false p; ends = λ h. ap (halts false) (at_head t e h) ∙ is_halt (d h) }
  where
    is_halt : suspect_byte false (get_or t e 0) ≡ true → halts false (get_or t e 0 ∷ drop (e + 1) t) ≡ true
    is_halt q = rw q

-- under 1.1 `&` and CR are, and C2 and E2 where they start a line end
line_halts : (b : ℕ) (bs : List ℕ) → eqb b 38 || eqb b 13 ≡ false → (b ≡ 10 → ⊥) → not (eqb (line_end xml11 (b ∷ bs)) 0) ≡ halts true (b ∷ bs)
unfolding line_end
line_halts b bs e lf =
    rw (e, or_right (eqb b 38) (eqb b 13) e, ne_eqb b 10 lf)
    (go (begins (0xC2 ∷ 0x85 ∷ []) (b ∷ bs)) (begins (0xE2 ∷ 0x80 ∷ 0xA8 ∷ []) (b ∷ bs)))
  where
    go : (two three : Bool) → not (eqb (pick two 2 (pick three 3 0)) 0) ≡ two || three
    go true three = refl
    go false true = refl
    go false false = refl

module _ (t : List ℕ) (i : ℕ) (h : i < length t) where
  abbrev byte : ℕ
  byte = get_or t i 0

  pub newer_none_at : suspect_byte true byte ≡ false → false ≡ halts true (drop i t)
  newer_none_at e = sym (ap (halts true) (at_head t i h) ∙ suspect_halts true byte (drop (i + 1) t) e)

  pub newer_amp_cr : eqb byte 38 || eqb byte 13 ≡ true → true ≡ halts true (drop i t)
  newer_amp_cr e = sym (ap (halts true) (at_head t i h) ∙ is_halt byte (drop (i + 1) t) e)
    where
      is_halt : (b : ℕ) (bs : List ℕ) → eqb b 38 || eqb b 13 ≡ true → halts true (b ∷ bs) ≡ true
      is_halt b bs q = rw q

  pub newer_line : suspect_byte true byte ≡ true → eqb byte 38 || eqb byte 13 ≡ false → not (eqb (line_end xml11 (drop i t)) 0) ≡ halts true (drop i t)
  newer_line s e =
      rw (at_head t i h) (line_halts byte (drop (i + 1) t) e (λ q. absurd (true≢false (sym s ∙ ap (suspect_byte true) q))))

-- ---- blocks in which no halt of 1.1 starts

-- by its bytes, at an index with two more behind it
pub newer_at : (t : List ℕ) (j : ℕ) → j + 2 < length t
    → eqb (get_or t j 0) 38 || eqb (get_or t j 0) 13
    || ((eqb (get_or t j 0) 0xC2 && eqb (get_or t (j + 1) 0) 0x85) || (eqb (get_or t j 0) 0xE2 && (eqb (get_or t (j + 1) 0) 0x80 && eqb (get_or t (j + 2) 0) 0xA8)))
    ≡ halts true (drop j t)
newer_at t j h =
    let q : j + 1 + 1 ≡ j + 2 = omega arith in
    let head : drop j t ≡ get_or t j 0 ∷ get_or t (j + 1) 0 ∷ get_or t (j + 2) 0 ∷ drop (j + 2 + 1) t =
    at_head t j (omega arith)
    ∙ ap (λ (l : List ℕ). get_or t j 0 ∷ l) (at_head t (j + 1) (omega arith) ∙ ap (λ (l : List ℕ). get_or t (j + 1) 0 ∷ l) (rw q (at_head t (j + 2) h))) in
    rw (head, and_true (eqb (get_or t (j + 1) 0) 0x85), and_true (eqb (get_or t (j + 2) 0) 0xA8))

-- four accumulators that are all unset after a turn were so before it, and the turn set none
pub none_four : (a b c d x y z w : Bool) → a || x || (b || y) || (c || z) || (d || w) ≡ false → (a || b || c || d ≡ false) × (x || y || (z || w) ≡ false)
none_four false false false false false false z w e = (refl, e)
none_four true b c d x y z w e = absurd (true≢false e)
none_four false true c d true y z w e = absurd (true≢false e)
none_four false true c d false y z w e = absurd (true≢false e)
none_four false false c d true y z w e = absurd (true≢false e)
none_four false false c d false true z w e = absurd (true≢false e)
none_four false false true d false false z w e = absurd (true≢false e)
none_four false false false true false false true w e = absurd (true≢false e)
none_four false false false true false false false w e = absurd (true≢false e)

-- the first k of the 16 bytes from i on, where `hit` tells whether a halt starts at one of them
pub record LookedNewer (t : List ℕ) (i : ℕ) (hit : Bool) (k : ℕ) : Type 0 where
  pub within : k ≤ 16
  pub clear : hit ≡ false → (m : ℕ) → m < k → halts true (drop (i + m) t) ≡ false

module _ (t : List ℕ) (i : ℕ) where
  pub newer_none : LookedNewer t i false 0
  newer_none = record { within = zero-le; clear = λ e. below_none (λ (m : ℕ). halts true (drop (i + m) t) ≡ false) }

  module _ (a b c d : Bool) (k : ℕ) (h : i + 18 ≤ length t) (l : k < 16) (p : LookedNewer t i (a || b || c || d) k) where
    abbrev x : Bool
    x = eqb (get_or t (i + k) 0) 38

    abbrev y : Bool
    y = eqb (get_or t (i + k) 0) 13

    abbrev z : Bool
    z = eqb (get_or t (i + k) 0) 0xC2 && eqb (get_or t (i + k + 1) 0) 0x85

    abbrev w : Bool
    w = eqb (get_or t (i + k) 0) 0xE2 && (eqb (get_or t (i + k + 1) 0) 0x80 && eqb (get_or t (i + k + 2) 0) 0xA8)

    pub newer_next : LookedNewer t i (a || x || (b || y) || (c || z) || (d || w)) (k + 1)
    newer_next =
        record {
          within = omega arith;
          clear = λ e.
              let each = none_four a b c d x y z w e in
              below_more (λ (m : ℕ). halts true (drop (i + m) t) ≡ false) k (p.clear each.0) (sym (newer_at t (i + k) (omega arith)) ∙ each.1);
        }

  pub newer_smooth : {hit : Bool} {k : ℕ} → i + 18 ≤ length t → LookedNewer t i hit k → 16 ≤ k → hit ≡ false → Smooth true t i (i + 16)
  newer_smooth {k = k} h p g e =
      record {
        from = omega arith;
        to = omega arith;
        none = λ m a b.
            let q : i + (m - i) ≡ m = omega arith in
            rw q at (p.clear e (m - i) (omega (arith, p.within)));
      }

-- ---- a text that stands for itself has no stop

no_stop : (newer : Bool) (b : ℕ) → (b ≡ 9 → ⊥) → (b ≡ 10 → ⊥) → (b ≡ 13 → ⊥) → (b ≡ 38 → ⊥) → (b ≡ 0xC2 → ⊥) → (b ≡ 0xE2 → ⊥) → stop_byte newer b ≡ false
no_stop false b tab lf cr amp two three = rw (ne_eqb b 9 tab, ne_eqb b 10 lf, ne_eqb b 13 cr, ne_eqb b 38 amp)
no_stop true b tab lf cr amp two three =
    rw (ne_eqb b 9 tab, ne_eqb b 10 lf, ne_eqb b 13 cr, ne_eqb b 38 amp, ne_eqb b 0xC2 two, ne_eqb b 0xE2 three)

simple_stop : (newer : Bool) (b : ℕ) → special b ≡ false → stop_byte newer b ≡ false
simple_stop newer b e =
    let low : 32 ≤ b = not_control {b = b} e in
    let high : b ≤ 126 = not_above {b = b} e in
    no_stop newer b (λ q. omega (arith, q, low)) (λ q. omega (arith, q, low)) (λ q. omega (arith, q, low)) (not_amp {b = b} e)
    (λ q. omega (arith, q, high)) (λ q. omega (arith, q, high))

pub simple_plain : (newer : Bool) (t : List ℕ) → Simple t → Plain (stop_byte newer) t 0 (length t)
simple_plain newer t s = record { from = zero-le; to = le_refl (length t); none = λ k g l. simple_stop newer (get_or t k 0) (s.each k g l) }
