-- A character that is read is the UTF-8 of its number (`char_spelled`, `width_spelled`), and the UTF-8 of a number that passes is read whole
-- (`width_encoded`). Assumes nothing.
use mathlib.Core.Path.{◌≡◌, refl, sym, ap, ◌∙◌}
use mathlib.Core.Bool.{Bool, true, false, true≢false}
use mathlib.Core.Option.{Option, none, some}
use mathlib.Core.List.{List, [], ◌∷◌, ◌++◌}
use Prim.Native.Nat.{ℕ, suc, ◌+◌, ◌-◌, ◌*◌, ◌/◌, ◌%◌, ◌≤◌, ◌<◌}
use native.Mathlib.Omega.{arith}
use lib.Dec.{ltb}
use lib.ListN.{length, take}
use borrow.Author.Tests.{ltb-true, ltb-false}
use Rattle.text.specs.Bytes.{pick, within}
use Rattle.text.specs.Version.{xml10}
use Rattle.text.specs.Utf8.{State, between, one, two, is_between}
use Rattle.text.proofs.Bytes.{within_low, within_top}
use Rattle.text.proofs.FirstByte.{first_low, first_high}
use Rattle.charref.specs.CharRef.{encode}
use Rattle.charref.proofs.Encoding.{encode_1, encode_2, encode_3, encode_4, by_size}
use Rattle.legal.specs.Legal.{char_from}
use Rattle.legal.proofs.Decoding.{char_ascii, char_encoded, Waits, waits_one, waits_two, tail_more, tail_done, lead_2, lead_3, lead_4}
use Rattle.table_names.specs.NameChars.{passes, char_size, char_width}
use Rattle.table_names.proofs.CharWidths.{none_some, char_nothing, is_tail, size_1, size_2, size_3, size_4, lead_broken, width_some, is_some}
use Rattle.table_names.proofs.WideNames.{Scalar, lead3, lead4}

-- ---- the bytes after the first, by what was read

abbrev from_some : Option ℕ → ℕ
from_some none = 0
from_some (some n) = n

same_number : {m n : ℕ} → some m ≡ some n → m ≡ n
same_number e = ap from_some e

record OneMore (n m : ℕ) (bs : List ℕ) : Type 0 where
  c : ℕ
  rest : List ℕ
  is : bs ≡ c ∷ rest
  low : 0x80 ≤ c
  top : c ≤ 0xBF
  sum : m ≡ 64 * n + (c - 0x80)

one_more_lem : (n m : ℕ) (bs : List ℕ) → char_from one n bs ≡ some m → OneMore n m bs
one_more_lem n m [] e = absurd (none_some m (sym (char_nothing one n) ∙ e))
one_more_lem n m (b ∷ bs) e =
    let f = is_tail waits_one (omega arith) (omega arith) n m b bs e in
    record {
      c = b;
      rest = bs;
      is = refl;
      low = within_low 0x80 0xBF b f;
      top = within_top 0x80 0xBF b f;
      sum = same_number (sym e ∙ tail_done waits_one n b bs ends f);
    }
  where
    ends : is_between between ≡ true
    ends = unfold is_between in refl

record TwoMore (lo hi n m : ℕ) (bs : List ℕ) : Type 0 where
  c : ℕ
  d : ℕ
  rest : List ℕ
  is : bs ≡ c ∷ d ∷ rest
  ranged : within lo hi c ≡ true
  low : 0x80 ≤ d
  top : d ≤ 0xBF
  sum : m ≡ 64 * (64 * n + (c - 0x80)) + (d - 0x80)

module _ {s : State} {lo hi : ℕ} (w : Waits s lo hi one) (bottom : 0x80 ≤ lo) (top : hi ≤ 0xBF) where
  two_more : (n m : ℕ) (bs : List ℕ) → char_from s n bs ≡ some m → TwoMore lo hi n m bs
  two_more n m [] e = absurd (none_some m (sym (char_nothing s n) ∙ e))
  two_more n m (b ∷ bs) e =
      let f = is_tail w bottom top n m b bs e in
      let x = one_more_lem (64 * n + (b - 0x80)) m bs (sym (tail_more w n b bs waits_one.inner f) ∙ e) in
      record {
        c = b;
        d = x.c;
        rest = x.rest;
        is = ap (λ (l : List ℕ). b ∷ l) x.is;
        ranged = f;
        low = x.low;
        top = x.top;
        sum = x.sum;
      }

record ThreeMore (lo hi n m : ℕ) (bs : List ℕ) : Type 0 where
  c : ℕ
  d : ℕ
  e : ℕ
  rest : List ℕ
  is : bs ≡ c ∷ d ∷ e ∷ rest
  ranged : within lo hi c ≡ true
  low : 0x80 ≤ d
  top : d ≤ 0xBF
  low' : 0x80 ≤ e
  top' : e ≤ 0xBF
  sum : m ≡ 64 * (64 * (64 * n + (c - 0x80)) + (d - 0x80)) + (e - 0x80)

module _ {s : State} {lo hi : ℕ} (w : Waits s lo hi two) (bottom : 0x80 ≤ lo) (top : hi ≤ 0xBF) where
  three_more : (n m : ℕ) (bs : List ℕ) → char_from s n bs ≡ some m → ThreeMore lo hi n m bs
  three_more n m [] e = absurd (none_some m (sym (char_nothing s n) ∙ e))
  three_more n m (b ∷ bs) e =
      let f = is_tail w bottom top n m b bs e in
      let x = two_more waits_two (omega arith) (omega arith) (64 * n + (b - 0x80)) m bs (sym (tail_more w n b bs waits_two.inner f) ∙ e) in
      let g = x.ranged in
      record {
        c = b;
        d = x.c;
        e = x.d;
        rest = x.rest;
        is = ap (λ (l : List ℕ). b ∷ l) x.is;
        ranged = f;
        low = within_low 0x80 0xBF x.c g;
        top = within_top 0x80 0xBF x.c g;
        low' = x.low;
        top' = x.top;
        sum = x.sum;
      }

-- ---- a character by its first byte

module _ (b : ℕ) (bs : List ℕ) (m : ℕ) (e : char_from between 0 (b ∷ bs) ≡ some m) where
  abbrev Spelled : Type 0
  Spelled = take (char_size b) (b ∷ bs) ≡ encode m

  spelled_1 : b < 0x80 → Spelled
  spelled_1 h =
      let q : b ≡ m = same_number (sym (char_ascii b bs h) ∙ e) in
      ap (λ (k : ℕ). take k (b ∷ bs)) (size_1 b h) ∙ sym (encode_1 b h) ∙ ap encode q

  spelled_2 : 0xC2 ≤ b → b < 0xE0 → Spelled
  spelled_2 g h =
      let x = one_more_lem (b - 0xC0) m bs (sym (lead_2 b bs g (omega arith)) ∙ e) in
      let p : 0xC0 + m / 64 ≡ b = omega (arith, x.sum, x.low, x.top) in
      let q : 0x80 + m % 64 ≡ x.c = omega (arith, x.sum, x.low, x.top) in
      ap (λ (k : ℕ). take k (b ∷ bs)) (size_2 b (omega arith) h) ∙ ap (λ (l : List ℕ). take 2 (b ∷ l)) x.is
      ∙ sym (encode_2 m (omega (arith, x.sum, x.low)) (omega (arith, x.sum, x.top)) ∙ rw (p, q))

  spelled_3 : 0xE0 ≤ b → b < 0xF0 → Spelled
  spelled_3 g h =
      let y = lead3 b g h in
      let x = two_more y.waits y.bottom y.top (b - 0xE0) m bs (sym (lead_3 y.waits b bs y.starts g (omega arith)) ∙ e) in
      let large = y.within_is x.c x.d x.low x.ranged in
      let lo = within_low y.lo y.hi x.c x.ranged in
      let hi = within_top y.lo y.hi x.c x.ranged in
      let bottom = y.bottom in
      let top = y.top in
      let low : 0x80 ≤ x.c = omega arith in
      let high : x.c ≤ 0xBF = omega arith in
      let p : 0xE0 + m / 4096 ≡ b = omega (arith, x.sum, low, high, x.low, x.top) in
      let q : 0x80 + m / 64 % 64 ≡ x.c = omega (arith, x.sum, low, high, x.low, x.top) in
      let r : 0x80 + m % 64 ≡ x.d = omega (arith, x.sum, low, high, x.low, x.top) in
      ap (λ (k : ℕ). take k (b ∷ bs)) (size_3 b g h) ∙ ap (λ (l : List ℕ). take 3 (b ∷ l)) x.is
      ∙ sym (encode_3 m (omega (arith, large, x.sum)) (omega (arith, x.sum, high, x.top)) ∙ rw (p, q, r))

  spelled_4 : 0xF0 ≤ b → b < 0xF5 → Spelled
  spelled_4 g h =
      let y = lead4 b g h in
      let x = three_more y.waits y.bottom y.top (b - 0xF0) m bs (sym (lead_4 y.waits b bs y.starts g) ∙ e) in
      let large = y.within_is x.c x.d x.e x.low x.low' x.ranged in
      let lo = within_low y.lo y.hi x.c x.ranged in
      let hi = within_top y.lo y.hi x.c x.ranged in
      let bottom = y.bottom in
      let top = y.top in
      let low : 0x80 ≤ x.c = omega arith in
      let high : x.c ≤ 0xBF = omega arith in
      let p : 0xF0 + m / 262144 ≡ b = omega (arith, x.sum, low, high, x.low, x.top, x.low', x.top') in
      let q : 0x80 + m / 4096 % 64 ≡ x.c = omega (arith, x.sum, low, high, x.low, x.top, x.low', x.top') in
      let r : 0x80 + m / 64 % 64 ≡ x.d = omega (arith, x.sum, low, high, x.low, x.top, x.low', x.top') in
      let s : 0x80 + m % 64 ≡ x.e = omega (arith, x.sum, low, high, x.low, x.top, x.low', x.top') in
      ap (λ (k : ℕ). take k (b ∷ bs)) (size_4 b g) ∙ ap (λ (l : List ℕ). take 4 (b ∷ l)) x.is
      ∙ sym (encode_4 m (omega (arith, large, x.sum)) ∙ rw (p, q, r, s))

  -- what is read at the head is the UTF-8 of its number
  pub char_spelled : take (char_size b) (b ∷ bs) ≡ encode m
  char_spelled =
      by 0x80 spelled_1 λ h1.
      by 0xC2 (λ h. absurd (none_some m (sym (lead_broken b bs (first_low b h1 h)) ∙ e))) λ h2.
      by 0xE0 (λ h. spelled_2 h2 h) λ h3.
      by 0xF0 (λ h. spelled_3 h3 h) λ h4.
      by 0xF5 (λ h. spelled_4 h4 h) λ h5. absurd (none_some m (sym (lead_broken b bs (first_high b (omega arith))) ∙ e))
    where
      by : (c : ℕ) → (b < c → Spelled) → (c ≤ b → Spelled) → Spelled
      by c f g = go (ltb b c) refl
        where
          go : (x : Bool) → ltb b c ≡ x → Spelled
          go true q = f (ltb-true b c q)
          go false q = g (ltb-false b c q)

-- ---- characters that pass a test

-- a character at the head that passes: its number, and its bytes
pub record Passing (test : ℕ → Bool) (w b : ℕ) (bs : List ℕ) : Type 0 where
  pub number : ℕ
  pub passed : test number ≡ true
  pub bytes : take (suc w) (b ∷ bs) ≡ encode number

module _ (test : ℕ → Bool) (s : Scalar test) where
  pub width_spelled : (b w : ℕ) (bs : List ℕ) → char_width test (b ∷ bs) ≡ suc w → Passing test w b bs
  width_spelled b w bs e =
      let e' : pick (passes test (char_from between 0 (b ∷ bs))) (char_size b) 0 ≡ suc w = unfold char_width in e in
      let x = width_some test s.past xml10 b {w = w} (char_from between 0 (b ∷ bs)) e' in
      let n = is_some test s.past xml10 (char_from between 0 (b ∷ bs)) x.0 in
      record {
        number = n.number;
        passed = ap (passes test) (sym n.is) ∙ x.0;
        bytes = ap (λ (k : ℕ). take k (b ∷ bs)) (sym x.1) ∙ char_spelled b bs n.number n.is;
      }

  -- a number that passes is no surrogate, and at most U+10FFFF
  no_surrogate : (c : ℕ) → test c ≡ true → within 0xD800 0xDFFF c ≡ false
  no_surrogate c e = go (within 0xD800 0xDFFF c) refl
    where
      go : (x : Bool) → within 0xD800 0xDFFF c ≡ x → within 0xD800 0xDFFF c ≡ false
      go false f = f
      go true f = absurd (true≢false (sym e ∙ s.surrogate c (within_low 0xD800 0xDFFF c f) (within_top 0xD800 0xDFFF c f)))

  at_most : (c : ℕ) → test c ≡ true → c ≤ 1114111
  at_most c e = go (ltb 1114111 c) refl
    where
      go : (x : Bool) → ltb 1114111 c ≡ x → c ≤ 1114111
      go false f = ltb-false 1114111 c f
      go true f = absurd (true≢false (sym e ∙ s.beyond c (ltb-true 1114111 c f)))

  -- the UTF-8 of a number that passes is read whole, whatever follows
  pub width_encoded : (c : ℕ) (rest : List ℕ) → test c ≡ true → char_width test (encode c ++ rest) ≡ length (encode c)
  width_encoded c rest e =
      by_size (λ (l : List ℕ). char_from between 0 (l ++ rest) ≡ some c → char_width test (l ++ rest) ≡ length l) c
      (λ h q. width_of c rest q (size_1 c h))
      (λ g h q. width_of (0xC0 + c / 64) _ q (size_2 (0xC0 + c / 64) (omega arith) (omega arith)))
      (λ g h q. width_of (0xE0 + c / 4096) _ q (size_3 (0xE0 + c / 4096) (omega arith) (omega arith)))
      (λ g q. width_of (0xF0 + c / 262144) _ q (size_4 (0xF0 + c / 262144) (omega arith)))
      (char_encoded c rest (no_surrogate c e) (at_most c e))
    where
      width_of : (b : ℕ) (bs : List ℕ) {k : ℕ} → char_from between 0 (b ∷ bs) ≡ some c → char_size b ≡ k → char_width test (b ∷ bs) ≡ k
      width_of b bs q f = unfold char_width in rw (q, e, f)
