-- The character at the head of a text, and line ends: a name's characters are past them (`width_past`, `width_kept`), whatever is no character is
-- none after them either. Assumes nothing.
use mathlib.Core.Path.{◌≡◌, refl, sym, ap, ap₂, ◌∙◌, subst}
use mathlib.Core.Bool.{Bool, true, false, true≢false}
use mathlib.Core.Option.{Option, none, some}
use mathlib.Core.List.{List, [], ◌∷◌, ◌++◌}
use Prim.Native.Nat.{ℕ, zero, suc, ◌+◌, ◌-◌, ◌*◌, ◌≤◌, ◌<◌, zero-le}
use native.Mathlib.Omega.{arith}
use lib.Dec.{eqb, ltb}
use lib.ListN.{length, take, drop, get_or}
use borrow.Author.Tests.{eqb-true, eqb-false, le-leb, lt-leb, ltb-true, ltb-false}
use Rattle.text.specs.Bytes.{pick, within, begins}
use Rattle.text.specs.Version.{Rule, xml10, xml11}
use Rattle.text.specs.Utf8.{State, between, one, two, broken, first, next, is_between}
use Rattle.text.proofs.Bytes.{within_low, within_top, inside, and_left, and_right}
use Rattle.text.proofs.Patterns.{at_head}
use Rattle.text.proofs.FirstByte.{first_low, first_e0, first_ed, first_two, first_f0, first_three, first_f4, first_high}
use Rattle.eols.specs.LineEnds.{line_end, eols_from}
use Rattle.eols.proofs.LineEnds.{none10, none11, not_nel, not_ls}
use Rattle.legal.specs.Legal.{char_from, bits}
use Rattle.legal.proofs.Decoding.{char_broken, char_ascii, Waits, waits_one, waits_two, waits_three, waits_e0, waits_ed, waits_f0, waits_f4, tail_more, tail_done, tail_broken, lead_2, lead_3, lead_4, last_two}
use Rattle.table_names.specs.NameChars.{passes, char_size, char_width}

-- ---- bytes that line ends leave

plain_byte : (r : Rule) (b : ℕ) (bs : List ℕ) → (b ≡ 13 → ⊥) → (b ≡ 10 → ⊥) → (b ≡ 0xC2 → begins (0x85 ∷ []) bs ≡ false) → (b ≡ 0xE2 → begins (0x80 ∷ 0xA8 ∷ []) bs ≡ false)
    → line_end r (b ∷ bs) ≡ 0
plain_byte xml10 b bs n m c e = none10 b bs n m
plain_byte xml11 b bs n m c e = go (eqb b 0xC2) refl (eqb b 0xE2) refl
  where
    go : (t : Bool) → eqb b 0xC2 ≡ t → (u : Bool) → eqb b 0xE2 ≡ u → line_end xml11 (b ∷ bs) ≡ 0
    go true p u q = let k = eqb-true b 0xC2 p in not_nel b bs n m k (c k)
    go false p true q = let k = eqb-true b 0xE2 q in not_ls b bs n m k (e k)
    go false p false q = none11 b bs n m (eqb-false b 0xC2 p) (eqb-false b 0xE2 q)

eols_kept : (r : Rule) (b : ℕ) (bs : List ℕ) → line_end r (b ∷ bs) ≡ 0 → eols_from r 0 (b ∷ bs) ≡ b ∷ eols_from r 0 bs
unfolding eols_from
eols_kept r b bs e = rw e

eols_tail : (r : Rule) (b : ℕ) (bs : List ℕ) → within 0x80 0xBF b ≡ true → eols_from r 0 (b ∷ bs) ≡ b ∷ eols_from r 0 bs
eols_tail r b bs e =
    let l = within_low 0x80 0xBF b e in
    let h = within_top 0x80 0xBF b e in
    eols_kept r b bs (plain_byte r b bs (λ q. absurd (omega arith)) (λ q. absurd (omega arith)) (λ q. absurd (omega arith)) (λ q. absurd (omega arith)))

-- the head of what line ends leave: the byte, or LF
record Shown (r : Rule) (b : ℕ) (bs : List ℕ) : Type 0 where
  byte : ℕ
  rest : List ℕ
  is : eols_from r 0 (b ∷ bs) ≡ byte ∷ rest
  low : within 0x80 0xBF b ≡ false → within 0x80 0xBF byte ≡ false

shown : (r : Rule) (b : ℕ) (bs : List ℕ) → Shown r b bs
shown r b bs = go (line_end r (b ∷ bs)) refl
  where
    go : (w : ℕ) → line_end r (b ∷ bs) ≡ w → Shown r b bs
    go zero e = record { byte = b; rest = eols_from r 0 bs; is = eols_kept r b bs e; low = λ f. f }
    go (suc w) e = record { byte = 10; rest = eols_from r w bs; is = unfold eols_from in rw e; low = λ f. refl }

-- ---- inside of a character

abbrev is_none : Option ℕ → Bool
is_none none = true
is_none (some k) = false

pub none_some : (m : ℕ) → none ≡ some m → ⊥
none_some m q = true≢false (ap is_none q)

module _ {s t : State} {lo hi : ℕ} (w : Waits s lo hi t) (bottom : 0x80 ≤ lo) (top : hi ≤ 0xBF) where
  wider : (b : ℕ) → within 0x80 0xBF b ≡ false → within lo hi b ≡ false
  wider b e = go (within lo hi b) refl
    where
      go : (x : Bool) → within lo hi b ≡ x → within lo hi b ≡ false
      go false f = f
      go true f =
          let l = within_low lo hi b f in
          let h = within_top lo hi b f in
          absurd (true≢false (sym (inside 0x80 0xBF b (omega arith) (omega arith)) ∙ e))

  narrower : (b : ℕ) → within lo hi b ≡ true → within 0x80 0xBF b ≡ true
  narrower b e = inside 0x80 0xBF b (omega (arith, within_low lo hi b e)) (omega (arith, within_top lo hi b e))

  -- the next byte is a tail
  pub is_tail : (n m b : ℕ) (bs : List ℕ) → char_from s n (b ∷ bs) ≡ some m → within lo hi b ≡ true
  is_tail n m b bs e = go (within lo hi b) refl
    where
      go : (x : Bool) → within lo hi b ≡ x → within lo hi b ≡ true
      go true f = f
      go false f = absurd (none_some m (sym (tail_broken w n b bs f) ∙ e))

  -- a byte that is none breaks the character
  not_tail : (n b : ℕ) (bs : List ℕ) → within 0x80 0xBF b ≡ false → char_from s n (b ∷ bs) ≡ none
  not_tail n b bs e = tail_broken w n b bs (wider b e)

  -- line ends do not matter inside of a character, if they do not further on
  past_inside : (r : Rule) (n : ℕ) (bs : List ℕ) → ((m : ℕ) (cs : List ℕ) → is_between t ≡ false → char_from t m (eols_from r 0 cs) ≡ char_from t m cs) → char_from s n (eols_from r 0 bs) ≡ char_from s n bs
  past_inside r n [] ih = ap (char_from s n) (unfold eols_from in refl)
  past_inside r n (b ∷ bs) ih = go (within 0x80 0xBF b) refl (within lo hi b) refl (is_between t) refl
    where
      go : (x : Bool) → within 0x80 0xBF b ≡ x → (y : Bool) → within lo hi b ≡ y → (z : Bool) → is_between t ≡ z → char_from s n (eols_from r 0 (b ∷ bs)) ≡ char_from s n (b ∷ bs)
      go false e y f z g =
          let h = shown r b bs in
          ap (char_from s n) h.is ∙ not_tail n h.byte h.rest (h.low e) ∙ sym (not_tail n b bs e)
      go true e false f z g = ap (char_from s n) (eols_tail r b bs e) ∙ tail_broken w n b (eols_from r 0 bs) f ∙ sym (tail_broken w n b bs f)
      go true e true f true g = ap (char_from s n) (eols_tail r b bs e) ∙ tail_done w n b (eols_from r 0 bs) g f ∙ sym (tail_done w n b bs g f)
      go true e true f false g =
          ap (char_from s n) (eols_tail r b bs e) ∙ tail_more w n b (eols_from r 0 bs) g f ∙ ih (64 * n + (b - 0x80)) bs g ∙ sym (tail_more w n b bs g f)

pub char_nothing : (s : State) (n : ℕ) → char_from s n [] ≡ none
unfolding char_from
char_nothing s n = refl

-- ---- what is left of a character: so many tails, which line ends leave

record Tailed (r : Rule) (w : ℕ) (bs : List ℕ) : Type 0 where
  fits : w ≤ length bs
  kept : eols_from r 0 bs ≡ take w bs ++ eols_from r 0 (drop w bs)

tailed_none : (r : Rule) (bs : List ℕ) → Tailed r 0 bs
tailed_none r bs = record { fits = zero-le; kept = refl }

tailed_more : (r : Rule) (w b : ℕ) (bs : List ℕ) → within 0x80 0xBF b ≡ true → Tailed r w bs → Tailed r (suc w) (b ∷ bs)
tailed_more r w b bs e x = record { fits = omega (arith, x.fits); kept = eols_tail r b bs e ∙ ap (λ (l : List ℕ). b ∷ l) x.kept }

module _ {s t : State} {lo hi : ℕ} (w : Waits s lo hi t) (bottom : 0x80 ≤ lo) (top : hi ≤ 0xBF) (r : Rule) where
  tailed_by : (k n m : ℕ) (bs : List ℕ) → char_from s n bs ≡ some m
      → ((j : ℕ) (cs : List ℕ) → is_between t ≡ false → char_from t j cs ≡ some m → Tailed r k cs) → (is_between t ≡ true → k ≡ 0) → Tailed r (suc k) bs
  tailed_by k n m [] e ih z = absurd (none_some m (sym (char_nothing s n) ∙ e))
  tailed_by k n m (b ∷ bs) e ih z = tailed_more r k b bs (narrower w bottom top b f) (go (is_between t) refl)
    where
      f : within lo hi b ≡ true
      f = is_tail w bottom top n m b bs e

      go : (x : Bool) → is_between t ≡ x → Tailed r k bs
      go true g = rw (z g) (tailed_none r bs)
      go false g = ih (64 * n + (b - 0x80)) bs g (sym (tail_more w n b bs g f) ∙ e)

nowhere : (r : Rule) (k m : ℕ) → (j : ℕ) (cs : List ℕ) → is_between between ≡ false → char_from between j cs ≡ some m → Tailed r k cs
nowhere r k m j cs e f = absurd (true≢false (unfold is_between in e))

one_tail : (r : Rule) (n m : ℕ) (bs : List ℕ) → char_from one n bs ≡ some m → Tailed r 1 bs
one_tail r n m bs e = tailed_by waits_one (omega arith) (omega arith) r 0 n m bs e (nowhere r 0 m) (λ q. refl)

two_tails : {s : State} {lo hi : ℕ} (w : Waits s lo hi one) → 0x80 ≤ lo → hi ≤ 0xBF → (r : Rule) (n m : ℕ) (bs : List ℕ) → char_from s n bs ≡ some m → Tailed r 2 bs
two_tails w b t r n m bs e = tailed_by w b t r 1 n m bs e (λ j cs g f. one_tail r j m cs f) (λ q. absurd (true≢false (sym q ∙ waits_one.inner)))

three_tails : {s : State} {lo hi : ℕ} (w : Waits s lo hi two) → 0x80 ≤ lo → hi ≤ 0xBF → (r : Rule) (n m : ℕ) (bs : List ℕ) → char_from s n bs ≡ some m → Tailed r 3 bs
three_tails w b t r n m bs e =
    tailed_by w b t r 2 n m bs e (λ j cs g f. two_tails waits_two (omega arith) (omega arith) r j m cs f) (λ q. absurd (true≢false (sym q ∙ waits_two.inner)))

past_one : (r : Rule) (n : ℕ) (bs : List ℕ) → char_from one n (eols_from r 0 bs) ≡ char_from one n bs
past_one r n bs = past_inside waits_one (omega arith) (omega arith) r n bs (λ m cs e. absurd (true≢false (unfold is_between in e)))

past_two : {s : State} {lo hi : ℕ} (w : Waits s lo hi one) → 0x80 ≤ lo → hi ≤ 0xBF → (r : Rule) (n : ℕ) (bs : List ℕ) → char_from s n (eols_from r 0 bs) ≡ char_from s n bs
past_two w b t r n bs = past_inside w b t r n bs (λ m cs e. past_one r m cs)

past_three : {s : State} {lo hi : ℕ} (w : Waits s lo hi two) → 0x80 ≤ lo → hi ≤ 0xBF → (r : Rule) (n : ℕ) (bs : List ℕ) → char_from s n (eols_from r 0 bs) ≡ char_from s n bs
past_three w b t r n bs = past_inside w b t r n bs (λ m cs e. past_two waits_two (omega arith) (omega arith) r m cs)

-- ---- a character by its first byte

-- its size, the tails after the first byte, and that line ends do not matter after it
record Headed (r : Rule) (b : ℕ) (bs : List ℕ) : Type 0 where
  more : ℕ
  size : char_size b ≡ suc more
  tails : (m : ℕ) → char_from between 0 (b ∷ bs) ≡ some m → Tailed r more bs
  past : char_from between 0 (b ∷ eols_from r 0 bs) ≡ char_from between 0 (b ∷ bs)

pub size_1 : (b : ℕ) → b < 0x80 → char_size b ≡ 1
unfolding char_size
size_1 b h = let h' : b ≤ 0x7F = omega arith in rw (le-leb b 0x7F h')

pub size_2 : (b : ℕ) → 0x80 ≤ b → b < 0xE0 → char_size b ≡ 2
unfolding char_size
size_2 b h k =
    let h' : 0x7F < b = omega arith in
    let k' : b ≤ 0xDF = omega arith in
    rw (lt-leb b 0x7F h', le-leb b 0xDF k')

pub size_3 : (b : ℕ) → 0xE0 ≤ b → b < 0xF0 → char_size b ≡ 3
unfolding char_size
size_3 b h k =
    let h' : 0x7F < b = omega arith in
    let h'' : 0xDF < b = omega arith in
    let k' : b ≤ 0xEF = omega arith in
    rw (lt-leb b 0x7F h', lt-leb b 0xDF h'', le-leb b 0xEF k')

pub size_4 : (b : ℕ) → 0xF0 ≤ b → char_size b ≡ 4
unfolding char_size
size_4 b h =
    let h' : 0x7F < b = omega arith in
    let h'' : 0xDF < b = omega arith in
    let k' : 0xEF < b = omega arith in
    rw (lt-leb b 0x7F h', lt-leb b 0xDF h'', lt-leb b 0xEF k')

pub lead_broken : (b : ℕ) (bs : List ℕ) → first b ≡ broken → char_from between 0 (b ∷ bs) ≡ none
unfolding char_from
lead_broken b bs e = unfold next in unfold is_between in rw (e, char_broken (bits between 0 b) bs)

broken_head : (r : Rule) (b : ℕ) (bs : List ℕ) {k : ℕ} → char_size b ≡ suc k → first b ≡ broken → Headed r b bs
broken_head r b bs {k} e f =
    record {
      more = k;
      size = e;
      tails = λ m q. absurd (none_some m (sym (lead_broken b bs f) ∙ q));
      past = lead_broken b (eols_from r 0 bs) f ∙ sym (lead_broken b bs f);
    }

module _ (r : Rule) (b : ℕ) (bs : List ℕ) where
  head_1 : b < 0x80 → Headed r b bs
  head_1 h = record { more = 0; size = size_1 b h; tails = λ m q. tailed_none r bs; past = char_ascii b (eols_from r 0 bs) h ∙ sym (char_ascii b bs h) }

  head_2 : 0xC2 ≤ b → b < 0xE0 → Headed r b bs
  head_2 g h =
      let k : b ≤ 0xDF = omega arith in
      record {
        more = 1;
        size = size_2 b (omega arith) h;
        tails = λ m q. one_tail r (b - 0xC0) m bs (sym (lead_2 b bs g k) ∙ q);
        past = lead_2 b (eols_from r 0 bs) g k ∙ past_one r (b - 0xC0) bs ∙ sym (lead_2 b bs g k);
      }

  head_3 : {s : State} {lo hi : ℕ} (w : Waits s lo hi one) → 0x80 ≤ lo → hi ≤ 0xBF → first b ≡ s → 0xE0 ≤ b → b < 0xF0 → Headed r b bs
  head_3 w bottom top e g h =
      let k : b ≤ 0xEF = omega arith in
      record {
        more = 2;
        size = size_3 b g h;
        tails = λ m q. two_tails w bottom top r (b - 0xE0) m bs (sym (lead_3 w b bs e g k) ∙ q);
        past = lead_3 w b (eols_from r 0 bs) e g k ∙ past_two w bottom top r (b - 0xE0) bs ∙ sym (lead_3 w b bs e g k);
      }

  head_4 : {s : State} {lo hi : ℕ} (w : Waits s lo hi two) → 0x80 ≤ lo → hi ≤ 0xBF → first b ≡ s → 0xF0 ≤ b → Headed r b bs
  head_4 w bottom top e g =
      record {
        more = 3;
        size = size_4 b g;
        tails = λ m q. three_tails w bottom top r (b - 0xF0) m bs (sym (lead_4 w b bs e g) ∙ q);
        past = lead_4 w b (eols_from r 0 bs) e g ∙ past_three w bottom top r (b - 0xF0) bs ∙ sym (lead_4 w b bs e g);
      }

  char_head : Headed r b bs
  char_head =
      by (ltb b 0x80) refl head_1 λ h1.
      by (ltb b 0xC2) refl (λ h. broken_head r b bs (size_2 b h1 (omega arith)) (first_low b h1 h)) λ h2.
      by (ltb b 0xE0) refl (λ h. head_2 h2 h) λ h3.
      by (ltb b 0xF0) refl (λ h. three_head h3 h) λ h4.
      four_head h4
    where
      by : {c : ℕ} (x : Bool) → ltb b c ≡ x → (b < c → Headed r b bs) → (c ≤ b → Headed r b bs) → Headed r b bs
      by {c} true e f g = f (ltb-true b c e)
      by {c} false e f g = g (ltb-false b c e)

      three_head : 0xE0 ≤ b → b < 0xF0 → Headed r b bs
      three_head g h = go (eqb b 0xE0) refl (eqb b 0xED) refl
        where
          go : (x : Bool) → eqb b 0xE0 ≡ x → (y : Bool) → eqb b 0xED ≡ y → Headed r b bs
          go true e y f = head_3 waits_e0 (omega arith) (omega arith) (first_e0 b (eqb-true b 0xE0 e)) g h
          go false e true f = head_3 waits_ed (omega arith) (omega arith) (first_ed b (eqb-true b 0xED f)) g h
          go false e false f = let n = eqb-false b 0xE0 e in head_3 waits_two (omega arith) (omega arith) (first_two b (omega arith) h (eqb-false b 0xED f)) g h

      four_head : 0xF0 ≤ b → Headed r b bs
      four_head g = go (eqb b 0xF0) refl (eqb b 0xF4) refl (ltb b 0xF4) refl
        where
          go : (x : Bool) → eqb b 0xF0 ≡ x → (y : Bool) → eqb b 0xF4 ≡ y → (z : Bool) → ltb b 0xF4 ≡ z → Headed r b bs
          go true e y f z l = head_4 waits_f0 (omega arith) (omega arith) (first_f0 b (eqb-true b 0xF0 e)) g
          go false e true f z l = head_4 waits_f4 (omega arith) (omega arith) (first_f4 b (eqb-true b 0xF4 f)) g
          go false e false f true l = let n = eqb-false b 0xF0 e in head_4 waits_three (omega arith) (omega arith) (first_three b (omega arith) (ltb-true b 0xF4 l)) g
          go false e false f false l =
              let n = eqb-false b 0xF4 f in
              let q = ltb-false b 0xF4 l in
              broken_head r b bs (size_4 b g) (first_high b (omega arith))

zero_suc : {w : ℕ} → 0 ≡ suc w → ⊥
zero_suc e = absurd (omega arith)

pub record Number (o : Option ℕ) : Type 0 where
  pub number : ℕ
  pub is : o ≡ some number

-- ---- the width of a character that passes a test which no line end's character passes

pub record Past (test : ℕ → Bool) : Type 0 where
  pub lf : test 10 ≡ false
  pub cr : test 13 ≡ false
  pub next_line : test 0x85 ≡ false
  pub line_separator : test 0x2028 ≡ false

pub begun_one : (c : ℕ) (bs : List ℕ) → begins (c ∷ []) bs ≡ true → bs ≡ c ∷ drop 1 bs
begun_one c [] e = absurd (true≢false (sym e))
begun_one c (b ∷ bs) e = ap (λ (x : ℕ). x ∷ bs) (eqb-true b c (and_left (eqb b c) true e))

pub begun_two : (c d : ℕ) (bs : List ℕ) → begins (c ∷ d ∷ []) bs ≡ true → bs ≡ c ∷ d ∷ drop 2 bs
begun_two c d [] e = absurd (true≢false (sym e))
begun_two c d (b ∷ bs) e =
    ap₂ (λ (x : ℕ) (l : List ℕ). x ∷ l) (eqb-true b c (and_left (eqb b c) (begins (d ∷ []) bs) e)) (begun_one d bs (and_right (eqb b c) (begins (d ∷ []) bs) e))

next_line_read : (bs : List ℕ) → char_from between 0 (0xC2 ∷ 0x85 ∷ bs) ≡ some 0x85
next_line_read bs = lead_2 0xC2 (0x85 ∷ bs) (omega arith) (omega arith) ∙ tail_done waits_one 2 0x85 bs (unfold is_between in refl) refl

line_separator_read : (bs : List ℕ) → char_from between 0 (0xE2 ∷ 0x80 ∷ 0xA8 ∷ bs) ≡ some 0x2028
line_separator_read bs =
    lead_3 waits_two 0xE2 (0x80 ∷ 0xA8 ∷ bs) (first_two 0xE2 (omega arith) (omega arith) (λ q. absurd (omega arith))) (omega arith) (omega arith)
    ∙ last_two waits_two 2 0x80 0xA8 bs refl refl

module _ (test : ℕ → Bool) (p : Past test) (r : Rule) where
  -- what starts a line end does not pass
  ended_fails : (b w : ℕ) (bs : List ℕ) → line_end r (b ∷ bs) ≡ suc w → passes test (char_from between 0 (b ∷ bs)) ≡ false
  ended_fails b w bs e = go (eqb b 13) refl (eqb b 10) refl (eqb b 0xC2) refl (eqb b 0xE2) refl (begins (0x85 ∷ []) bs) refl (begins (0x80 ∷ 0xA8 ∷ []) bs) refl
    where
      never : line_end r (b ∷ bs) ≡ 0 → ⊥
      never f = absurd (omega (arith, sym e ∙ f))

      at : (c : ℕ) (cs : List ℕ) {m : ℕ} → b ≡ c → bs ≡ cs → char_from between 0 (c ∷ cs) ≡ some m → test m ≡ false → passes test (char_from between 0 (b ∷ bs)) ≡ false
      at c cs q s f g = ap₂ (λ (x : ℕ) (l : List ℕ). passes test (char_from between 0 (x ∷ l))) q s ∙ ap (passes test) f ∙ g

      go : (a : Bool) → eqb b 13 ≡ a → (c : Bool) → eqb b 10 ≡ c → (d : Bool) → eqb b 0xC2 ≡ d → (f : Bool) → eqb b 0xE2 ≡ f
          → (x : Bool) → begins (0x85 ∷ []) bs ≡ x → (y : Bool) → begins (0x80 ∷ 0xA8 ∷ []) bs ≡ y → passes test (char_from between 0 (b ∷ bs)) ≡ false
      go true ea c ec d ed f ef x ex y ey = at 13 bs (eqb-true b 13 ea) refl (char_ascii 13 bs (omega arith)) p.cr
      go false ea true ec d ed f ef x ex y ey = at 10 bs (eqb-true b 10 ec) refl (char_ascii 10 bs (omega arith)) p.lf
      go false ea false ec true ed f ef true ex y ey = at 0xC2 (0x85 ∷ drop 1 bs) (eqb-true b 0xC2 ed) (begun_one 0x85 bs ex) (next_line_read (drop 1 bs)) p.next_line
      go false ea false ec true ed f ef false ex y ey =
          let q = eqb-true b 0xC2 ed in
          absurd (never (plain_byte r b bs (eqb-false b 13 ea) (eqb-false b 10 ec) (λ z. ex) (λ z. absurd (omega arith))))
      go false ea false ec false ed true ef x ex true ey = at 0xE2 (0x80 ∷ 0xA8 ∷ drop 2 bs) (eqb-true b 0xE2 ef) (begun_two 0x80 0xA8 bs ey) (line_separator_read (drop 2 bs)) p.line_separator
      go false ea false ec false ed true ef x ex false ey =
          let n = eqb-false b 0xC2 ed in
          absurd (never (plain_byte r b bs (eqb-false b 13 ea) (eqb-false b 10 ec) (λ z. absurd (n z)) (λ z. ey)))
      go false ea false ec false ed false ef x ex y ey =
          let n = eqb-false b 0xC2 ed in
          let m = eqb-false b 0xE2 ef in
          absurd (never (plain_byte r b bs (eqb-false b 13 ea) (eqb-false b 10 ec) (λ z. absurd (n z)) (λ z. absurd (m z))))

  width_by : (b : ℕ) (bs cs : List ℕ) → char_from between 0 (b ∷ cs) ≡ char_from between 0 (b ∷ bs) → char_width test (b ∷ cs) ≡ char_width test (b ∷ bs)
  unfolding char_width
  width_by b bs cs e = ap (λ (o : Option ℕ). pick (passes test o) (char_size b) 0) e

  width_fails : (b : ℕ) (bs : List ℕ) → passes test (char_from between 0 (b ∷ bs)) ≡ false → char_width test (b ∷ bs) ≡ 0
  unfolding char_width
  width_fails b bs e = rw e

  -- the width is the same after line ends
  pub width_past : (xs : List ℕ) → char_width test (eols_from r 0 xs) ≡ char_width test xs
  width_past [] = ap (char_width test) (unfold eols_from in refl)
  width_past (b ∷ bs) = go (line_end r (b ∷ bs)) refl
    where
      lf_first : (w : ℕ) → line_end r (b ∷ bs) ≡ suc w → eols_from r 0 (b ∷ bs) ≡ 10 ∷ eols_from r w bs
      lf_first w e = unfold eols_from in rw e

      go : (w : ℕ) → line_end r (b ∷ bs) ≡ w → char_width test (eols_from r 0 (b ∷ bs)) ≡ char_width test (b ∷ bs)
      go zero e = ap (char_width test) (eols_kept r b bs e) ∙ width_by b bs (eols_from r 0 bs) (char_head r b bs).past
      go (suc w) e =
          ap (char_width test) (lf_first w e)
          ∙ width_fails 10 (eols_from r w bs) (ap (passes test) (char_ascii 10 (eols_from r w bs) (omega arith)) ∙ p.lf)
          ∙ sym (width_fails b bs (ended_fails b w bs e))

  -- a character that passes lies there whole, and line ends leave it
  pub record Stands (w b : ℕ) (bs : List ℕ) : Type 0 where
    pub fits : w ≤ length bs
    pub kept : eols_from r 0 (b ∷ bs) ≡ b ∷ (take w bs ++ eols_from r 0 (drop w bs))

  pub width_some : (b : ℕ) {w : ℕ} (o : Option ℕ) → pick (passes test o) (char_size b) 0 ≡ suc w → (passes test o ≡ true) × (char_size b ≡ suc w)
  width_some b {w} o e = go (passes test o) refl
    where
      go : (x : Bool) → passes test o ≡ x → (passes test o ≡ true) × (char_size b ≡ suc w)
      go true f = (f, ap (λ (x : Bool). pick x (char_size b) 0) (sym f) ∙ e)
      go false f = absurd (zero_suc (ap (λ (x : Bool). pick x (char_size b) 0) (sym f) ∙ e))

  pub is_some : (o : Option ℕ) → passes test o ≡ true → Number o
  is_some none e = absurd (true≢false (sym e))
  is_some (some n) e = record { number = n; is = refl }

  pub width_kept : (b w : ℕ) (bs : List ℕ) → char_width test (b ∷ bs) ≡ suc w → Stands w b bs
  width_kept b w bs e =
      let o = char_from between 0 (b ∷ bs) in
      let e' : pick (passes test (char_from between 0 (b ∷ bs))) (char_size b) 0 ≡ suc w = unfold char_width in e in
      let s = width_some b {w = w} (char_from between 0 (b ∷ bs)) e' in
      let n = is_some o s.0 in
      let h = char_head r b bs in
      let t = h.tails n.number n.is in
      let same : h.more ≡ w = omega (arith, sym h.size ∙ s.1) in
      record {
        fits = subst (λ (k : ℕ). k ≤ length bs) same t.fits;
        kept =
            keeps (line_end r (b ∷ bs)) refl s.0
            ∙ ap (λ (l : List ℕ). b ∷ l) (t.kept ∙ ap (λ (k : ℕ). take k bs ++ eols_from r 0 (drop k bs)) same);
      }
    where
      keeps : (v : ℕ) → line_end r (b ∷ bs) ≡ v → passes test (char_from between 0 (b ∷ bs)) ≡ true → eols_from r 0 (b ∷ bs) ≡ b ∷ eols_from r 0 bs
      keeps zero f g = eols_kept r b bs f
      keeps (suc v) f g = absurd (true≢false (sym g ∙ ended_fails b v bs f))

  -- a width is the character's size, and the text goes on that far
  pub width_fit : (b w : ℕ) (bs : List ℕ) → char_width test (b ∷ bs) ≡ suc w → (char_size b ≡ suc w) × (w ≤ length bs)
  width_fit b w bs e =
      let e' : pick (passes test (char_from between 0 (b ∷ bs))) (char_size b) 0 ≡ suc w = unfold char_width in e in
      ((width_some b {w = w} (char_from between 0 (b ∷ bs)) e').1, (width_kept b w bs e).fits)

pub width_broken : (test : ℕ → Bool) (b : ℕ) (bs : List ℕ) → first b ≡ broken → char_width test (b ∷ bs) ≡ 0
width_broken test b bs e = unfold char_width in rw (lead_broken b bs e)

-- ---- ASCII

pub width_ascii : (test : ℕ → Bool) (t : List ℕ) (i : ℕ) → i < length t → get_or t i 0 < 0x80 → char_width test (drop i t) ≡ pick (test (get_or t i 0)) 1 0
width_ascii test t i h l = ap (char_width test) (at_head t i h) ∙ go
  where
    go : char_width test (get_or t i 0 ∷ drop (i + 1) t) ≡ pick (test (get_or t i 0)) 1 0
    go = unfold char_width in rw (char_ascii (get_or t i 0) (drop (i + 1) t) l, size_1 (get_or t i 0) l)
