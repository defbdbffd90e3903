-- Reading a character's number from its bytes: what is encoded is read back (`char_encoded`), so a fault at the head of a character's
-- bytes is a matter of its number (`fault_encoded`), and a byte inside of a character begins none (`fault_inside`). Assumes nothing.
use mathlib.Core.Path.{◌≡◌, refl, ap, ◌∙◌}
use mathlib.Core.Bool.{Bool, true, false, not}
use mathlib.Core.Option.{none, some}
use mathlib.Core.List.{List, [], ◌∷◌, ◌++◌}
use Prim.Native.Nat.{ℕ, ◌+◌, ◌-◌, ◌*◌, ◌/◌, ◌%◌, ◌≤◌, ◌<◌}
use native.Mathlib.Omega.{arith}
use lib.Dec.{eqb}
use borrow.Author.Tests.{eqb-true, eqb-false, le-leb, lt-leb}
use Rattle.text.specs.Bytes.{pick, within}
use Rattle.text.specs.Utf8.{State, between, one, two, three, after_e0, after_ed, after_f0, after_f4, broken, first, next, is_between}
use Rattle.text.proofs.Bytes.{inside, either, within_low, within_top}
use Rattle.text.proofs.FirstByte.{first_low, first_one, first_e0, first_ed, first_two, first_f0, first_three, first_f4}
use Rattle.charref.specs.CharRef.{encode}
use Rattle.charref.proofs.Encoding.{by_size}
use Rattle.legal.specs.Legal.{first_bits, bits, char_from, refuses, fault_at}

-- ---- a byte at a time

-- past a byte that fits no character there is none
pub char_broken : (n : ℕ) (bs : List ℕ) → char_from broken n bs ≡ none
unfolding char_from
char_broken n [] = refl
char_broken n (b ∷ bs) = char_broken (bits broken n b) bs

-- the first byte of a character, with its bits
pub char_lead : (b : ℕ) (bs : List ℕ) (s : State) (m : ℕ) → first b ≡ s → is_between s ≡ false → first_bits b ≡ m
    → char_from between 0 (b ∷ bs) ≡ char_from s m bs
unfolding char_from
char_lead b bs s m e f g = rw (e, f, g)

pub char_ascii : (b : ℕ) (bs : List ℕ) → b < 0x80 → char_from between 0 (b ∷ bs) ≡ some b
unfolding char_from
char_ascii b bs h = rw (le-leb b 0x7F (omega arith))

-- what a reader inside of a character waits for: a byte from `lo` to `hi`, and where it stands then
pub record Waits (s : State) (lo hi : ℕ) (t : State) : Type 0 where
  pub inner : is_between s ≡ false
  pub after : (b : ℕ) → next s b ≡ pick (within lo hi b) t broken

pub waits_one : Waits one 0x80 0xBF between
unfolding next is_between
waits_one = record { inner = refl; after = λ b. refl }

pub waits_two : Waits two 0x80 0xBF one
unfolding next is_between
waits_two = record { inner = refl; after = λ b. refl }

pub waits_three : Waits three 0x80 0xBF two
unfolding next is_between
waits_three = record { inner = refl; after = λ b. refl }

pub waits_e0 : Waits after_e0 0xA0 0xBF one
unfolding next is_between
waits_e0 = record { inner = refl; after = λ b. refl }

pub waits_ed : Waits after_ed 0x80 0x9F one
unfolding next is_between
waits_ed = record { inner = refl; after = λ b. refl }

pub waits_f0 : Waits after_f0 0x90 0xBF two
unfolding next is_between
waits_f0 = record { inner = refl; after = λ b. refl }

pub waits_f4 : Waits after_f4 0x80 0x8F two
unfolding next is_between
waits_f4 = record { inner = refl; after = λ b. refl }

module _ {s t : State} {lo hi : ℕ} (w : Waits s lo hi t) (n b : ℕ) where
  tail_bits_lem : bits s n b ≡ 64 * n + (b - 0x80)
  unfolding bits
  tail_bits_lem = rw w.inner

  go_on : (bs : List ℕ) (u : State) → next s b ≡ u → is_between u ≡ false → char_from s n (b ∷ bs) ≡ char_from u (64 * n + (b - 0x80)) bs
  unfolding char_from
  go_on bs u e f = rw (e, f, tail_bits_lem)

  pub tail_more : (bs : List ℕ) → is_between t ≡ false → within lo hi b ≡ true → char_from s n (b ∷ bs) ≡ char_from t (64 * n + (b - 0x80)) bs
  tail_more bs f h = go_on bs t (w.after b ∙ (rw h)) f

  pub tail_done : (bs : List ℕ) → is_between t ≡ true → within lo hi b ≡ true → char_from s n (b ∷ bs) ≡ some (64 * n + (b - 0x80))
  unfolding char_from
  tail_done bs f h = rw (w.after b, h, f, tail_bits_lem)

  pub tail_broken : (bs : List ℕ) → within lo hi b ≡ false → char_from s n (b ∷ bs) ≡ none
  unfolding is_between
  tail_broken bs h = go_on bs broken (w.after b ∙ (rw h)) refl ∙ char_broken (64 * n + (b - 0x80)) bs

-- ---- characters of two, three and four bytes

bits_2 : (b : ℕ) → 0xC0 ≤ b → b ≤ 0xDF → first_bits b ≡ b - 0xC0
unfolding first_bits
bits_2 b g h = rw (lt-leb b 0x7F (omega arith), le-leb b 0xDF h)

bits_3 : (b : ℕ) → 0xE0 ≤ b → b ≤ 0xEF → first_bits b ≡ b - 0xE0
unfolding first_bits
bits_3 b g h = rw (lt-leb b 0x7F (omega arith), lt-leb b 0xDF (omega arith), le-leb b 0xEF h)

bits_4 : (b : ℕ) → 0xF0 ≤ b → first_bits b ≡ b - 0xF0
unfolding first_bits
bits_4 b g = rw (lt-leb b 0x7F (omega arith), lt-leb b 0xDF (omega arith), lt-leb b 0xEF (omega arith))

pub lead_2 : (b : ℕ) (bs : List ℕ) → 0xC2 ≤ b → b ≤ 0xDF → char_from between 0 (b ∷ bs) ≡ char_from one (b - 0xC0) bs
lead_2 b bs g h = char_lead b bs one (b - 0xC0) (first_one b g (omega arith)) waits_one.inner (bits_2 b (omega arith) h)

pub lead_3 : {s : State} {lo hi : ℕ} (w : Waits s lo hi one) (b : ℕ) (bs : List ℕ) → first b ≡ s → 0xE0 ≤ b → b ≤ 0xEF
    → char_from between 0 (b ∷ bs) ≡ char_from s (b - 0xE0) bs
lead_3 {s} w b bs e g h = char_lead b bs s (b - 0xE0) e w.inner (bits_3 b g h)

pub lead_4 : {s : State} {lo hi : ℕ} (w : Waits s lo hi two) (b : ℕ) (bs : List ℕ) → first b ≡ s → 0xF0 ≤ b
    → char_from between 0 (b ∷ bs) ≡ char_from s (b - 0xF0) bs
lead_4 {s} w b bs e g = char_lead b bs s (b - 0xF0) e w.inner (bits_4 b g)

pub last_two : {s : State} {lo hi : ℕ} (w : Waits s lo hi one) (n c d : ℕ) (bs : List ℕ) → within lo hi c ≡ true → within 0x80 0xBF d ≡ true
    → char_from s n (c ∷ d ∷ bs) ≡ some (64 * (64 * n + (c - 0x80)) + (d - 0x80))
unfolding is_between
last_two w n c d bs h k = tail_more w n c (d ∷ bs) refl h ∙ tail_done waits_one (64 * n + (c - 0x80)) d bs refl k

pub last_three : {s : State} {lo hi : ℕ} (w : Waits s lo hi two) (n c d e : ℕ) (bs : List ℕ) → within lo hi c ≡ true → within 0x80 0xBF d ≡ true → within 0x80 0xBF e ≡ true
    → char_from s n (c ∷ d ∷ e ∷ bs) ≡ some (64 * (64 * (64 * n + (c - 0x80)) + (d - 0x80)) + (e - 0x80))
unfolding is_between
last_three w n c d e bs h k l = tail_more w n c (d ∷ e ∷ bs) refl h ∙ last_two waits_two (64 * n + (c - 0x80)) d e bs k l

-- ---- what is encoded is read back

-- the last six bits
tail : (n : ℕ) → within 0x80 0xBF (0x80 + n % 64) ≡ true
tail n = inside 0x80 0xBF (0x80 + n % 64) (omega arith) (omega arith)

module _ (n : ℕ) (rest : List ℕ) where
  abbrev Read : List ℕ → Type 0
  Read bytes = char_from between 0 (bytes ++ rest) ≡ some n

  named : (m : ℕ) → m ≡ n → some m ≡ some n
  named m e = ap some e

  read_2 : 0x80 ≤ n → n < 0x800 → Read ((0xC0 + n / 64) ∷ (0x80 + n % 64) ∷ [])
  unfolding is_between
  read_2 g h =
      let a = 0xC0 + n / 64 in
      let b = 0x80 + n % 64 in
      lead_2 a (b ∷ rest) (omega arith) (omega arith) ∙ tail_done waits_one (a - 0xC0) b rest refl (tail n)
      ∙ named (64 * (a - 0xC0) + (b - 0x80)) (omega arith)

  module _ (g : 0x800 ≤ n) (h : n < 0x10000) where
    abbrev a3 : ℕ
    a3 = 0xE0 + n / 4096

    abbrev b3 : ℕ
    b3 = 0x80 + n / 64 % 64

    three_by : {s : State} {lo hi : ℕ} → Waits s lo hi one → first a3 ≡ s → lo ≤ b3 → b3 ≤ hi → Read (a3 ∷ b3 ∷ (0x80 + n % 64) ∷ [])
    three_by {s} {lo} {hi} w e l k =
        let c = 0x80 + n % 64 in
        lead_3 w a3 (b3 ∷ c ∷ rest) e (omega arith) (omega arith)
        ∙ last_two w (a3 - 0xE0) b3 c rest (inside lo hi b3 l k) (tail n)
        ∙ named (64 * (64 * (a3 - 0xE0) + (b3 - 0x80)) + (c - 0x80)) (omega arith)

    read_3 : within 0xD800 0xDFFF n ≡ false → Read (a3 ∷ b3 ∷ (0x80 + n % 64) ∷ [])
    read_3 s = go (eqb a3 0xE0) refl (eqb a3 0xED) refl
      where
        go : (x : Bool) → eqb a3 0xE0 ≡ x → (y : Bool) → eqb a3 0xED ≡ y → Read (a3 ∷ b3 ∷ (0x80 + n % 64) ∷ [])
        go true e y f =
            let q : a3 ≡ 0xE0 = eqb-true a3 0xE0 e in
            three_by waits_e0 (first_e0 a3 q) (omega arith) (omega arith)
        go false e true f =
            let q : a3 ≡ 0xED = eqb-true a3 0xED f in
            three_by waits_ed (first_ed a3 q) (omega arith) (either 0xD800 0xDFFF n s (λ u. omega arith) (λ u. omega arith))
        go false e false f =
            let q : a3 ≡ 0xE0 → ⊥ = eqb-false a3 0xE0 e in
            three_by waits_two (first_two a3 (omega arith) (omega arith) (eqb-false a3 0xED f)) (omega arith) (omega arith)

  module _ (g : 0x10000 ≤ n) (h : n ≤ 1114111) where
    abbrev a4 : ℕ
    a4 = 0xF0 + n / 262144

    abbrev b4 : ℕ
    b4 = 0x80 + n / 4096 % 64

    abbrev rest4 : List ℕ
    rest4 = b4 ∷ (0x80 + n / 64 % 64) ∷ (0x80 + n % 64) ∷ []

    four_by : {s : State} {lo hi : ℕ} → Waits s lo hi two → first a4 ≡ s → lo ≤ b4 → b4 ≤ hi → Read (a4 ∷ rest4)
    four_by {s} {lo} {hi} w e l k =
        let c = 0x80 + n / 64 % 64 in
        let d = 0x80 + n % 64 in
        let x : 64 * (a4 - 0xF0) + (b4 - 0x80) ≡ n / 4096 = omega arith in
        let y : 64 * (n / 4096) + (c - 0x80) ≡ n / 64 = omega arith in
        let z : 64 * (n / 64) + (d - 0x80) ≡ n = omega arith in
        lead_4 w a4 (rest4 ++ rest) e (omega arith)
        ∙ last_three w (a4 - 0xF0) b4 c d rest (inside lo hi b4 l k) (tail (n / 64)) (tail n)
        ∙ named (64 * (64 * (64 * (a4 - 0xF0) + (b4 - 0x80)) + (c - 0x80)) + (d - 0x80)) (rw (x, y, z))

    read_4 : Read (a4 ∷ rest4)
    read_4 = go (eqb a4 0xF0) refl (eqb a4 0xF4) refl
      where
        go : (x : Bool) → eqb a4 0xF0 ≡ x → (y : Bool) → eqb a4 0xF4 ≡ y → Read (a4 ∷ rest4)
        go true e y f =
            let q : a4 ≡ 0xF0 = eqb-true a4 0xF0 e in
            four_by waits_f0 (first_f0 a4 q) (omega arith) (omega arith)
        go false e true f =
            let q : a4 ≡ 0xF4 = eqb-true a4 0xF4 f in
            four_by waits_f4 (first_f4 a4 q) (omega arith) (omega arith)
        go false e false f =
            let q : a4 ≡ 0xF0 → ⊥ = eqb-false a4 0xF0 e in
            let r : a4 ≡ 0xF4 → ⊥ = eqb-false a4 0xF4 f in
            four_by waits_three (first_three a4 (omega arith) (omega arith)) (omega arith) (omega arith)

  -- a number that is no surrogate and at most U+10FFFF, whatever follows it
  pub char_encoded : within 0xD800 0xDFFF n ≡ false → n ≤ 1114111 → Read (encode n)
  char_encoded s m = by_size Read n (char_ascii n rest) read_2 (λ g h. read_3 g h s) (λ g. read_4 g m)

-- K8: at a character's first byte, a fault is a character that may not stand
pub fault_encoded : (may : ℕ → Bool) (n : ℕ) (rest : List ℕ) → within 0xD800 0xDFFF n ≡ false → n ≤ 1114111
    → fault_at may (encode n ++ rest) ≡ not (may n)
unfolding fault_at
fault_encoded may n rest s m = ap (refuses may) (char_encoded n rest s m)

-- a byte inside of a character begins none
pub fault_inside : (may : ℕ → Bool) (b : ℕ) (bs : List ℕ) → within 0x80 0xBF b ≡ true → fault_at may (b ∷ bs) ≡ false
unfolding fault_at
fault_inside may b bs h =
    ap (refuses may)
    (char_lead b bs broken (first_bits b) (first_low b (within_low 0x80 0xBF b h) (omega (arith, within_top 0x80 0xBF b h))) refl refl
    ∙ char_broken (first_bits b) bs)
