-- Names above U+007F: a character of two, three or four bytes by its number, which is no name character where the form is overlong, a surrogate
-- or beyond U+10FFFF. Assumes nothing.
use mathlib.Core.Path.{◌≡◌, refl, sym, ap, ap₂, ◌∙◌}
use mathlib.Core.Bool.{Bool, true, false, true≢false}
use mathlib.Core.Option.{Option as Maybe, none, some}
use Rattle.std.specs.Prelude.{Option, Some, None}
use Rattle.std.specs.Option.{unwrap_or, is_some}
use Rattle.table_names.proofs.TailBits.{tail_is, tail_not}
use mathlib.Core.List.{List, ◌∷◌}
use Prim.Native.Nat.{ℕ, zero, suc, ◌+◌, ◌-◌, ◌*◌, ◌≤◌, ◌<◌}
use native.Mathlib.Omega.{arith}
use lib.Dec.{eqb, ltb}
use lib.ListN.{length, drop, get_or, length-drop}
use borrow.Author.Tests.{eqb-true, eqb-false, ne_eqb, ltb-true, ltb-false}
use Rattle.text.specs.Bytes.{pick, within}
use Rattle.text.specs.Version.{xml10}
use Rattle.text.specs.Utf8.{State, between, one, two, first, is_between}
use Rattle.text.proofs.Bytes.{inside, above, below, within_low, within_top}
use Rattle.text.proofs.Patterns.{at_head}
use Rattle.text.proofs.FirstByte.{first_low, first_e0, first_ed, first_two, first_f0, first_three, first_f4, first_high}
use Rattle.legal.specs.Legal.{char_from}
use Rattle.legal.proofs.Decoding.{Waits, waits_one, waits_two, waits_three, waits_e0, waits_ed, waits_f0, waits_f4, tail_more, tail_done, tail_broken, lead_2, lead_3, lead_4}
use Rattle.table_names.specs.NameChars.{is_name_start, is_name_char, passes, char_size, char_width}
use Rattle.table_names.specs.NameTerms.{tail_bits}
use Rattle.table_names.proofs.CharWidths.{Past, width_fit, width_broken, size_2, size_3, size_4}
use Rattle.table_names.proofs.NamesPast.{start_past, char_past}

-- ---- tests that surrogates and what is beyond do not pass

pub record Scalar (test : ℕ → Bool) : Type 0 where
  pub past : Past test
  pub surrogate : (n : ℕ) → 0xD800 ≤ n → n ≤ 0xDFFF → test n ≡ false
  pub beyond : (n : ℕ) → 0x10FFFF < n → test n ≡ false

start_surrogate : (n : ℕ) → 0xD800 ≤ n → n ≤ 0xDFFF → is_name_start n ≡ false
unfolding is_name_start
start_surrogate n l h =
    rw (
      ne_eqb n 0x3A (λ q. omega arith),
      above 0x41 0x5A n (omega arith),
      ne_eqb n 0x5F (λ q. omega arith),
      above 0x61 0x7A n (omega arith),
      above 0xC0 0xD6 n (omega arith),
      above 0xD8 0xF6 n (omega arith),
      above 0xF8 0x2FF n (omega arith),
      above 0x370 0x37D n (omega arith),
      above 0x37F 0x1FFF n (omega arith),
      above 0x200C 0x200D n (omega arith),
      above 0x2070 0x218F n (omega arith),
      above 0x2C00 0x2FEF n (omega arith),
      above 0x3001 0xD7FF n (omega arith),
      below 0xF900 0xFDCF n (omega arith),
      below 0xFDF0 0xFFFD n (omega arith),
      below 0x10000 0xEFFFF n (omega arith),
    )

start_beyond : (n : ℕ) → 0x10FFFF < n → is_name_start n ≡ false
unfolding is_name_start
start_beyond n l =
    rw (
      ne_eqb n 0x3A (λ q. omega arith),
      above 0x41 0x5A n (omega arith),
      ne_eqb n 0x5F (λ q. omega arith),
      above 0x61 0x7A n (omega arith),
      above 0xC0 0xD6 n (omega arith),
      above 0xD8 0xF6 n (omega arith),
      above 0xF8 0x2FF n (omega arith),
      above 0x370 0x37D n (omega arith),
      above 0x37F 0x1FFF n (omega arith),
      above 0x200C 0x200D n (omega arith),
      above 0x2070 0x218F n (omega arith),
      above 0x2C00 0x2FEF n (omega arith),
      above 0x3001 0xD7FF n (omega arith),
      above 0xF900 0xFDCF n (omega arith),
      above 0xFDF0 0xFFFD n (omega arith),
      above 0x10000 0xEFFFF n (omega arith),
    )

char_by : (n : ℕ) → is_name_start n ≡ false → 0x2040 < n → is_name_char n ≡ false
unfolding is_name_char
char_by n e l =
    rw (
      e,
      ne_eqb n 0x2D (λ q. omega arith),
      ne_eqb n 0x2E (λ q. omega arith),
      above 0x30 0x39 n (omega arith),
      ne_eqb n 0xB7 (λ q. omega arith),
      above 0x300 0x36F n (omega arith),
      above 0x203F 0x2040 n (omega arith),
    )

pub name_scalar : (first : Bool) → Scalar (pick first is_name_start is_name_char)
name_scalar true = record { past = start_past; surrogate = start_surrogate; beyond = start_beyond }
name_scalar false =
    record {
      past = char_past;
      surrogate = λ n l h. char_by n (start_surrogate n l h) (omega arith);
      beyond = λ n l. char_by n (start_beyond n l) (omega arith);
    }

-- ---- tails by what they add

pub tail_none : (b : ℕ) → tail_bits b ≡ None → within 0x80 0xBF b ≡ false
tail_none b e = go (within 0x80 0xBF b) refl
  where
    go : (x : Bool) → within 0x80 0xBF b ≡ x → within 0x80 0xBF b ≡ false
    go false f = f
    go true f = absurd (true≢false (ap is_some (sym (tail_is b f) ∙ e)))

pub record TailIs (b c : ℕ) : Type 0 where
  pub tail : within 0x80 0xBF b ≡ true
  pub adds : c ≡ b - 0x80
  pub low : 0x80 ≤ b
  pub top : b ≤ 0xBF

pub tail_some : (b : ℕ) {c : ℕ} → tail_bits b ≡ Some c → TailIs b c
tail_some b {c} e = go (within 0x80 0xBF b) refl
  where
    go : (x : Bool) → within 0x80 0xBF b ≡ x → TailIs b c
    go true f =
        record { tail = f; adds = ap (λ (o : Option ℕ). unwrap_or o 0) (sym e ∙ tail_is b f); low = within_low 0x80 0xBF b f; top = within_top 0x80 0xBF b f }
    go false f = absurd (true≢false (ap is_some (sym e ∙ tail_not b f)))

-- both bytes after the first are tails
pub record Tails3 (t : List ℕ) (i c d : ℕ) : Type 0 where
  pub tail_2 : TailIs (get_or t (i + 1) 0) c
  pub tail_3 : TailIs (get_or t (i + 2) 0) d

pub record Tails4 (t : List ℕ) (i c d e : ℕ) : Type 0 where
  pub tail_2 : TailIs (get_or t (i + 1) 0) c
  pub tail_3 : TailIs (get_or t (i + 2) 0) d
  pub tail_4 : TailIs (get_or t (i + 3) 0) e

-- ---- so many bytes of a text

abbrev second : List ℕ → ℕ → ℕ
second t i = get_or t (i + 1) 0

abbrev third : List ℕ → ℕ → ℕ
third t i = get_or t (i + 2) 0

abbrev fourth : List ℕ → ℕ → ℕ
fourth t i = get_or t (i + 3) 0

at_two : (t : List ℕ) (i : ℕ) → i + 1 < length t → drop i t ≡ get_or t i 0 ∷ second t i ∷ drop (i + 2) t
at_two t i h =
    let q : i + 1 + 1 ≡ i + 2 = omega arith in
    at_head t i (omega arith) ∙ ap (λ (l : List ℕ). get_or t i 0 ∷ l) (at_head t (i + 1) h ∙ ap (λ (k : ℕ). second t i ∷ drop k t) q)

at_three : (t : List ℕ) (i : ℕ) → i + 2 < length t → drop i t ≡ get_or t i 0 ∷ second t i ∷ third t i ∷ drop (i + 3) t
at_three t i h =
    let q : i + 2 + 1 ≡ i + 3 = omega arith in
    at_two t i (omega arith) ∙ ap (λ (l : List ℕ). get_or t i 0 ∷ second t i ∷ l) (at_head t (i + 2) h ∙ ap (λ (k : ℕ). third t i ∷ drop k t) q)

at_four : (t : List ℕ) (i : ℕ) → i + 3 < length t → drop i t ≡ get_or t i 0 ∷ second t i ∷ third t i ∷ fourth t i ∷ drop (i + 4) t
at_four t i h =
    let q : i + 3 + 1 ≡ i + 4 = omega arith in
    at_three t i (omega arith)
    ∙ ap (λ (l : List ℕ). get_or t i 0 ∷ second t i ∷ third t i ∷ l) (at_head t (i + 3) h ∙ ap (λ (k : ℕ). fourth t i ∷ drop k t) q)

-- ---- characters of two and three bytes

width_is : (test : ℕ → Bool) (b : ℕ) (bs : List ℕ) {o : Maybe ℕ} {k : ℕ} → char_from between 0 (b ∷ bs) ≡ o → char_size b ≡ k
    → char_width test (b ∷ bs) ≡ pick (passes test o) k 0
unfolding char_width
width_is test b bs e f = rw (e, f)

inner_one : is_between one ≡ false
inner_one = waits_one.inner

inner_two : is_between two ≡ false
inner_two = waits_two.inner

ends_between : is_between between ≡ true
ends_between = unfold is_between in refl

-- the number so far, and a tail
abbrev more : ℕ → ℕ → ℕ
more n c = 64 * n + (c - 0x80)

-- the number, where each test of a tail holds
abbrev if_one : Bool → ℕ → Maybe ℕ
if_one x n = pick x (some n) none

abbrev if_two : Bool → Bool → ℕ → Maybe ℕ
if_two x y n = pick x (if_one y n) none

abbrev if_three : Bool → Bool → Bool → ℕ → Maybe ℕ
if_three x y z n = pick x (if_two y z n) none

one_left : (n c : ℕ) (bs : List ℕ) → char_from one n (c ∷ bs) ≡ if_one (within 0x80 0xBF c) (more n c)
one_left n c bs = go (within 0x80 0xBF c) refl
  where
    go : (x : Bool) → within 0x80 0xBF c ≡ x → char_from one n (c ∷ bs) ≡ if_one (within 0x80 0xBF c) (more n c)
    go true f = tail_done waits_one n c bs ends_between f ∙ ap (λ (x : Bool). if_one x (more n c)) (sym f)
    go false f = tail_broken waits_one n c bs f ∙ ap (λ (x : Bool). if_one x (more n c)) (sym f)

two_left : {s : State} {lo hi : ℕ} (w : Waits s lo hi one) (n c d : ℕ) (bs : List ℕ)
    → char_from s n (c ∷ d ∷ bs) ≡ if_two (within lo hi c) (within 0x80 0xBF d) (more (more n c) d)
two_left {s} {lo} {hi} w n c d bs = go (within lo hi c) refl
  where
    by : Bool → Maybe ℕ
    by x = if_two x (within 0x80 0xBF d) (more (more n c) d)

    go : (x : Bool) → within lo hi c ≡ x → char_from s n (c ∷ d ∷ bs) ≡ if_two (within lo hi c) (within 0x80 0xBF d) (more (more n c) d)
    go true f = tail_more w n c (d ∷ bs) inner_one f ∙ one_left (more n c) d bs ∙ ap by (sym f)
    go false f = tail_broken w n c (d ∷ bs) f ∙ ap by (sym f)

three_left : {s : State} {lo hi : ℕ} (w : Waits s lo hi two) (n c d e : ℕ) (bs : List ℕ)
    → char_from s n (c ∷ d ∷ e ∷ bs) ≡ if_three (within lo hi c) (within 0x80 0xBF d) (within 0x80 0xBF e) (more (more (more n c) d) e)
three_left {s} {lo} {hi} w n c d e bs = go (within lo hi c) refl
  where
    by : Bool → Maybe ℕ
    by x = if_three x (within 0x80 0xBF d) (within 0x80 0xBF e) (more (more (more n c) d) e)

    go : (x : Bool) → within lo hi c ≡ x → char_from s n (c ∷ d ∷ e ∷ bs) ≡ by (within lo hi c)
    go true f = tail_more w n c (d ∷ e ∷ bs) inner_two f ∙ two_left waits_two (more n c) d e bs ∙ ap by (sym f)
    go false f = tail_broken w n c (d ∷ e ∷ bs) f ∙ ap by (sym f)

module _ (test : ℕ → Bool) (s : Scalar test) (t : List ℕ) (i : ℕ) where
  -- what is too short has no character
  pub short_width : {k : ℕ} → i < length t → char_size (get_or t i 0) ≡ k → length t - i < k → 0 ≡ char_width test (drop i t)
  short_width {k} h e l = sym (ap (char_width test) (at_head t i h) ∙ go (char_width test (get_or t i 0 ∷ drop (i + 1) t)) refl)
    where
      go : (w : ℕ) → char_width test (get_or t i 0 ∷ drop (i + 1) t) ≡ w → char_width test (get_or t i 0 ∷ drop (i + 1) t) ≡ 0
      go zero f = f
      go (suc w) f =
          let z = width_fit test s.past xml10 (get_or t i 0) w (drop (i + 1) t) f in
          absurd (omega (arith, z.0, z.1, e, l, length-drop (i + 1) t))

  -- a byte that starts no character
  pub low_width : i < length t → 0x80 ≤ get_or t i 0 → get_or t i 0 < 0xC2 → 0 ≡ char_width test (drop i t)
  low_width h l k = sym (ap (char_width test) (at_head t i h) ∙ width_broken test (get_or t i 0) (drop (i + 1) t) (first_low (get_or t i 0) l k))

  module _ (h : i + 1 < length t) (l : 0xC2 ≤ get_or t i 0) (k : get_or t i 0 < 0xE0) where
    abbrev two_by : Bool → ℕ
    two_by x = pick (passes test (if_one x (more (get_or t i 0 - 0xC0) (second t i)))) 2 0

    two_is : char_width test (drop i t) ≡ two_by (within 0x80 0xBF (second t i))
    two_is =
        ap (char_width test) (at_two t i h)
        ∙ width_is test (get_or t i 0) (second t i ∷ drop (i + 2) t)
        (lead_2 (get_or t i 0) (second t i ∷ drop (i + 2) t) l (omega arith) ∙ one_left (get_or t i 0 - 0xC0) (second t i) (drop (i + 2) t))
        (size_2 (get_or t i 0) (omega arith) k)

    pub two_broken : within 0x80 0xBF (second t i) ≡ false → 0 ≡ char_width test (drop i t)
    two_broken e = sym (two_is ∙ ap two_by e)

    pub two_some : {n : ℕ} {x : Bool} → within 0x80 0xBF (second t i) ≡ true → n ≡ 64 * (get_or t i 0 - 0xC0) + (second t i - 0x80) → test n ≡ x
        → char_width test (drop i t) ≡ pick x 2 0
    two_some {n} {x} e q f =
        two_is ∙ ap two_by e
        ∙ ap (λ (m : ℕ). pick (test m) 2 0) (sym q) ∙ ap (λ (y : Bool). pick y 2 0) f

-- ---- three bytes

abbrev pub number_3 : ℕ → ℕ → ℕ → ℕ
number_3 b c d = 64 * (64 * (b - 0xE0) + (c - 0x80)) + (d - 0x80)

-- the second byte's range: what is outside of it is an overlong form or a surrogate
pub record Lead3 (b : ℕ) : Type 0 where
  pub state : State
  pub lo : ℕ
  pub hi : ℕ
  pub waits : Waits state lo hi one
  pub starts : first b ≡ state
  pub bottom : 0x80 ≤ lo
  pub top : hi ≤ 0xBF
  pub outside : (c d : ℕ) → 0x80 ≤ c → c ≤ 0xBF → 0x80 ≤ d → d ≤ 0xBF → within lo hi c ≡ false → 0x800 ≤ number_3 b c d
      → (0xD800 ≤ number_3 b c d) × (number_3 b c d ≤ 0xDFFF)
  pub within_is : (c d : ℕ) → 0x80 ≤ d → within lo hi c ≡ true → 0x800 ≤ number_3 b c d

out_low : {X : Type 0} (lo c : ℕ) → within lo 0xBF c ≡ false → c ≤ 0xBF → (c < lo → X) → X
out_low {X} lo c e h f = go (ltb c lo) refl
  where
    go : (x : Bool) → ltb c lo ≡ x → X
    go true g = f (ltb-true c lo g)
    go false g = absurd (true≢false (sym (inside lo 0xBF c (ltb-false c lo g) h) ∙ e))

out_high : {X : Type 0} (hi c : ℕ) → within 0x80 hi c ≡ false → 0x80 ≤ c → (hi < c → X) → X
out_high {X} hi c e h f = go (ltb hi c) refl
  where
    go : (x : Bool) → ltb hi c ≡ x → X
    go true g = f (ltb-true hi c g)
    go false g = absurd (true≢false (sym (inside 0x80 hi c h (ltb-false hi c g)) ∙ e))

pub lead3 : (b : ℕ) → 0xE0 ≤ b → b < 0xF0 → Lead3 b
lead3 b l k = go (eqb b 0xE0) refl (eqb b 0xED) refl
  where
    go : (x : Bool) → eqb b 0xE0 ≡ x → (y : Bool) → eqb b 0xED ≡ y → Lead3 b
    go true e y f =
        let q = eqb-true b 0xE0 e in
        record {
          state = _;
          lo = 0xA0;
          hi = 0xBF;
          waits = waits_e0;
          starts = first_e0 b q;
          bottom = omega arith;
          top = omega arith;
          outside = λ c d g h m n o p. out_low 0xA0 c o h (λ z. absurd (omega arith));
          within_is = λ c d g o. let z = within_low 0xA0 0xBF c o in omega arith;
        }
    go false e true f =
        let q = eqb-true b 0xED f in
        record {
          state = _;
          lo = 0x80;
          hi = 0x9F;
          waits = waits_ed;
          starts = first_ed b q;
          bottom = omega arith;
          top = omega arith;
          outside = λ c d g h m n o p. out_high 0x9F c o g (λ z. (omega arith, omega arith));
          within_is = λ c d g o. omega arith;
        }
    go false e false f =
        let q = eqb-false b 0xE0 e in
        record {
          state = _;
          lo = 0x80;
          hi = 0xBF;
          waits = waits_two;
          starts = first_two b (omega arith) k (eqb-false b 0xED f);
          bottom = omega arith;
          top = omega arith;
          outside = λ c d g h m n o p. absurd (true≢false (sym (inside 0x80 0xBF c g h) ∙ o));
          within_is = λ c d g o. omega arith;
        }

narrow : (lo hi c : ℕ) → 0x80 ≤ lo → hi ≤ 0xBF → within 0x80 0xBF c ≡ false → within lo hi c ≡ false
narrow lo hi c l h e = go (within lo hi c) refl
  where
    go : (x : Bool) → within lo hi c ≡ x → within lo hi c ≡ false
    go false f = f
    go true f = absurd (true≢false (sym (inside 0x80 0xBF c (omega (arith, within_low lo hi c f)) (omega (arith, within_top lo hi c f))) ∙ e))

module _ (test : ℕ → Bool) (s : Scalar test) (t : List ℕ) (i : ℕ) (h : i + 2 < length t) (l : 0xE0 ≤ get_or t i 0) (k : get_or t i 0 < 0xF0) where
  -- is the second byte in its range?
  abbrev ranged_3 : Bool
  ranged_3 = within (lead3 (get_or t i 0) l k).lo (lead3 (get_or t i 0) l k).hi (second t i)

  abbrev three_by : Bool → Bool → ℕ
  three_by x y = pick (passes test (if_two x y (number_3 (get_or t i 0) (second t i) (third t i)))) 3 0

  three_is : char_width test (drop i t) ≡ three_by ranged_3 (within 0x80 0xBF (third t i))
  three_is =
      let x = lead3 (get_or t i 0) l k in
      ap (char_width test) (at_three t i h)
      ∙ width_is test (get_or t i 0) (second t i ∷ third t i ∷ drop (i + 3) t)
      (lead_3 x.waits (get_or t i 0) (second t i ∷ third t i ∷ drop (i + 3) t) x.starts l (omega arith)
      ∙ two_left x.waits (get_or t i 0 - 0xE0) (second t i) (third t i) (drop (i + 3) t))
      (size_3 (get_or t i 0) l k)

  three_in : {x y : Bool} → ranged_3 ≡ x → within 0x80 0xBF (third t i) ≡ y → char_width test (drop i t) ≡ three_by x y
  three_in e f = three_is ∙ ap₂ three_by e f

  pub three_first : within 0x80 0xBF (second t i) ≡ false → 0 ≡ char_width test (drop i t)
  three_first e =
      let x = lead3 (get_or t i 0) l k in
      sym (three_in {y = within 0x80 0xBF (third t i)} (narrow x.lo x.hi (second t i) x.bottom x.top e) refl)

  pub three_second : within 0x80 0xBF (third t i) ≡ false → 0 ≡ char_width test (drop i t)
  three_second e = go ranged_3 refl
    where
      go : (v : Bool) → ranged_3 ≡ v → 0 ≡ char_width test (drop i t)
      go true f = sym (three_in f e)
      go false f = sym (three_in f e)

  module _ {c d n : ℕ} (x : Tails3 t i c d) (e : n ≡ number_3 (get_or t i 0) (second t i) (third t i)) where
    pub three_low : n < 0x800 → 0 ≡ char_width test (drop i t)
    three_low m = go ranged_3 refl
      where
        go : (v : Bool) → ranged_3 ≡ v → 0 ≡ char_width test (drop i t)
        go true f = absurd (omega (arith, (lead3 (get_or t i 0) l k).within_is (second t i) (third t i) x.tail_3.low f, e, m))
        go false f = sym (three_in f x.tail_3.tail)

    pub three_some : {y : Bool} → 0x800 ≤ n → test n ≡ y → pick y 3 0 ≡ char_width test (drop i t)
    three_some {y} m f = go ranged_3 refl
      where
        go : (v : Bool) → ranged_3 ≡ v → pick y 3 0 ≡ char_width test (drop i t)
        go true g = sym (three_in g x.tail_3.tail ∙ ap (λ (j : ℕ). pick (test j) 3 0) (sym e) ∙ ap (λ (z : Bool). pick z 3 0) f)
        go false g =
            let p = x.tail_2 in
            let q = x.tail_3 in
            let o = (lead3 (get_or t i 0) l k).outside (second t i) (third t i) p.low p.top q.low q.top g (omega (arith, e, m)) in
            ap (λ (z : Bool). pick z 3 0) (sym f ∙ s.surrogate n (omega (arith, e, o.0)) (omega (arith, e, o.1))) ∙ sym (three_in g q.tail)

-- ---- four bytes

abbrev pub number_4 : ℕ → ℕ → ℕ → ℕ → ℕ
number_4 b c d e = 64 * (64 * (64 * (b - 0xF0) + (c - 0x80)) + (d - 0x80)) + (e - 0x80)

-- the second byte's range: what is outside of it is an overlong form or beyond U+10FFFF
pub record Lead4 (b : ℕ) : Type 0 where
  pub state : State
  pub lo : ℕ
  pub hi : ℕ
  pub waits : Waits state lo hi two
  pub starts : first b ≡ state
  pub bottom : 0x80 ≤ lo
  pub top : hi ≤ 0xBF
  pub outside : (c d e : ℕ) → 0x80 ≤ c → c ≤ 0xBF → 0x80 ≤ d → d ≤ 0xBF → 0x80 ≤ e → e ≤ 0xBF → within lo hi c ≡ false
      → 0x10000 ≤ number_4 b c d e → 0x10FFFF < number_4 b c d e
  pub within_is : (c d e : ℕ) → 0x80 ≤ d → 0x80 ≤ e → within lo hi c ≡ true → 0x10000 ≤ number_4 b c d e

pub lead4 : (b : ℕ) → 0xF0 ≤ b → b < 0xF5 → Lead4 b
lead4 b l k = go (eqb b 0xF0) refl (eqb b 0xF4) refl
  where
    go : (x : Bool) → eqb b 0xF0 ≡ x → (y : Bool) → eqb b 0xF4 ≡ y → Lead4 b
    go true p y f =
        let q = eqb-true b 0xF0 p in
        record {
          state = _;
          lo = 0x90;
          hi = 0xBF;
          waits = waits_f0;
          starts = first_f0 b q;
          bottom = omega arith;
          top = omega arith;
          outside = λ c d e g h m n u v o r. out_low 0x90 c o h (λ z. absurd (omega arith));
          within_is = λ c d e g h o. let z = within_low 0x90 0xBF c o in omega arith;
        }
    go false p true f =
        let q = eqb-true b 0xF4 f in
        record {
          state = _;
          lo = 0x80;
          hi = 0x8F;
          waits = waits_f4;
          starts = first_f4 b q;
          bottom = omega arith;
          top = omega arith;
          outside = λ c d e g h m n u v o r. out_high 0x8F c o g (λ z. omega arith);
          within_is = λ c d e g h o. omega arith;
        }
    go false p false f =
        let q = eqb-false b 0xF0 p in
        let r = eqb-false b 0xF4 f in
        record {
          state = _;
          lo = 0x80;
          hi = 0xBF;
          waits = waits_three;
          starts = first_three b (omega arith) (omega arith);
          bottom = omega arith;
          top = omega arith;
          outside = λ c d e g h m n u v o r. absurd (true≢false (sym (inside 0x80 0xBF c g h) ∙ o));
          within_is = λ c d e g h o. omega arith;
        }

module _ (test : ℕ → Bool) (s : Scalar test) (t : List ℕ) (i : ℕ) (h : i + 3 < length t) (l : 0xF0 ≤ get_or t i 0) where
  -- no character starts with F5 or more
  four_high : 0xF4 < get_or t i 0 → 0 ≡ char_width test (drop i t)
  four_high k = sym (ap (char_width test) (at_head t i (omega arith)) ∙ width_broken test (get_or t i 0) (drop (i + 1) t) (first_high (get_or t i 0) k))

  module _ (k : get_or t i 0 < 0xF5) where
    -- is the second byte in its range?
    abbrev ranged_4 : Bool
    ranged_4 = within (lead4 (get_or t i 0) l k).lo (lead4 (get_or t i 0) l k).hi (second t i)

    abbrev four_by : Bool → Bool → Bool → ℕ
    four_by x y z = pick (passes test (if_three x y z (number_4 (get_or t i 0) (second t i) (third t i) (fourth t i)))) 4 0

    four_is : char_width test (drop i t) ≡ four_by ranged_4 (within 0x80 0xBF (third t i)) (within 0x80 0xBF (fourth t i))
    four_is =
        let x = lead4 (get_or t i 0) l k in
        let tails = second t i ∷ third t i ∷ fourth t i ∷ drop (i + 4) t in
        ap (char_width test) (at_four t i h)
        ∙ width_is test (get_or t i 0) tails
        (lead_4 x.waits (get_or t i 0) tails x.starts l ∙ three_left x.waits (get_or t i 0 - 0xF0) (second t i) (third t i) (fourth t i) (drop (i + 4) t))
        (size_4 (get_or t i 0) l)

    four_in : (x y z : Bool) → ranged_4 ≡ x → within 0x80 0xBF (third t i) ≡ y → within 0x80 0xBF (fourth t i) ≡ z → char_width test (drop i t) ≡ four_by x y z
    four_in x y z e f g =
        four_is ∙ ap (λ (v : Bool). four_by v (within 0x80 0xBF (third t i)) (within 0x80 0xBF (fourth t i))) e ∙ ap₂ (four_by x) f g

    -- a byte that is no tail
    four_none : (x y z : Bool) → ranged_4 ≡ x → within 0x80 0xBF (third t i) ≡ y → within 0x80 0xBF (fourth t i) ≡ z
        → (x ≡ true → y ≡ true → z ≡ true → ⊥) → 0 ≡ char_width test (drop i t)
    four_none true true true e f g n = absurd (n refl refl refl)
    four_none true true false e f g n = sym (four_in true true false e f g)
    four_none true false z e f g n = sym (four_in true false z e f g)
    four_none false y z e f g n = sym (four_in false y z e f g)

  by_lead : {X : Type 0} → (get_or t i 0 < 0xF5 → X) → (0xF4 < get_or t i 0 → X) → X
  by_lead {X} f g = go (ltb (get_or t i 0) 0xF5) refl
    where
      go : (x : Bool) → ltb (get_or t i 0) 0xF5 ≡ x → X
      go true e = f (ltb-true (get_or t i 0) 0xF5 e)
      go false e = let z = ltb-false (get_or t i 0) 0xF5 e in g (omega arith)

  pub four_first : within 0x80 0xBF (second t i) ≡ false → 0 ≡ char_width test (drop i t)
  four_first e =
      by_lead (λ k. let x = lead4 (get_or t i 0) l k in
      let out = narrow x.lo x.hi (second t i) x.bottom x.top e in
      four_none k false (within 0x80 0xBF (third t i)) (within 0x80 0xBF (fourth t i)) out refl refl (λ p q r. true≢false (sym p))) four_high

  pub four_second : within 0x80 0xBF (third t i) ≡ false → 0 ≡ char_width test (drop i t)
  four_second e = by_lead (λ k. four_none k (ranged_4 k) false (within 0x80 0xBF (fourth t i)) refl e refl (λ p q r. true≢false (sym q))) four_high

  pub four_third : within 0x80 0xBF (fourth t i) ≡ false → 0 ≡ char_width test (drop i t)
  four_third e = by_lead (λ k. four_none k (ranged_4 k) (within 0x80 0xBF (third t i)) false refl refl e (λ p q r. true≢false (sym r))) four_high

  module _ {c d f n : ℕ} (x : Tails4 t i c d f) (e : n ≡ number_4 (get_or t i 0) (second t i) (third t i) (fourth t i)) where
    pub four_low : n < 0x10000 → 0 ≡ char_width test (drop i t)
    four_low m = by_lead (λ k. go k (ranged_4 k) refl) four_high
      where
        go : (k : get_or t i 0 < 0xF5) (v : Bool) → ranged_4 k ≡ v → 0 ≡ char_width test (drop i t)
        go k true g =
            absurd (omega (arith, (lead4 (get_or t i 0) l k).within_is (second t i) (third t i) (fourth t i) x.tail_3.low x.tail_4.low g, e, m))
        go k false g = sym (four_in k false true true g x.tail_3.tail x.tail_4.tail)

    pub four_some : {y : Bool} → 0x10000 ≤ n → test n ≡ y → pick y 4 0 ≡ char_width test (drop i t)
    four_some {y} m w = by_lead (λ k. go k (ranged_4 k) refl) (λ k. fails (omega (arith, e)) ∙ four_high k)
      where
        fails : 0x10FFFF < n → ◌≡◌ {A = ℕ} (pick y 4 0) 0
        fails g = ap (λ (z : Bool). pick z 4 0) (sym w ∙ s.beyond n g)

        go : (k : get_or t i 0 < 0xF5) (v : Bool) → ranged_4 k ≡ v → pick y 4 0 ≡ char_width test (drop i t)
        go k true g =
            sym (four_in k true true true g x.tail_3.tail x.tail_4.tail ∙ ap (λ (j : ℕ). pick (test j) 4 0) (sym e) ∙ ap (λ (z : Bool). pick z 4 0) w)
        go k false g =
            let p = x.tail_2 in
            let q = x.tail_3 in
            let r = x.tail_4 in
            let far = (lead4 (get_or t i 0) l k).outside (second t i) (third t i) (fourth t i) in
            let o = far p.low p.top q.low q.top r.low r.top g (omega (arith, e, m)) in
            fails (omega (arith, e, o)) ∙ sym (four_in k false true true g q.tail r.tail)
