-- The bytes of a character past ASCII are all past it (`encode_high`): so an ASCII byte is among the bytes of no other character
-- (`encode_apart`), and no digit, sign or base begins with them (`from_high`, `base_high`, `number_apart`). Assumes nothing.
use mathlib.Core.Path.{◌≡◌}
use Prim.Native.Nat.{ℕ, ◌+◌, ◌/◌, ◌%◌, ◌≤◌, ◌<◌}
use native.Mathlib.Omega.{arith}
use mathlib.Core.Bool.{false}
use mathlib.Core.Option.{none}
use mathlib.Core.List.{List, [], ◌∷◌, ◌++◌}
use lib.ListN.{length}
use lib.Dec.{eqb}
use borrow.Author.Tests.{ne_eqb}
use Rattle.text.proofs.Bytes.{above}
use Rattle.charref.specs.CharRef.{digit_value, number_from, small, in_base, judge, char_number, encode}
use Rattle.charref.specs.CharNumbers.{CharNumber}
use Rattle.charref.proofs.Encoding.{by_size}
use Rattle.charref.proofs.Numbers.{number_stop_lem}

-- ---- the byte x is none of them

abbrev pub AllApart : ℕ → List ℕ → Type 0
AllApart x [] = Unit {0}
AllApart x (b ∷ bs) = (eqb b x ≡ false) × AllApart x bs

high : (x b : ℕ) → x < 0x80 → 0x80 ≤ b → eqb b x ≡ false
high x b h k = ne_eqb b x (λ q. omega arith)

pub encode_apart : (x n : ℕ) → x < 0x80 → eqb n x ≡ false → AllApart x (encode n)
encode_apart x n h e =
    by_size (AllApart x) n
    (λ a. (e, tt))
    (λ a b. (high x (0xC0 + n / 64) h (omega arith), (high x (0x80 + n % 64) h (omega arith), tt)))
    (λ a b. (high x (0xE0 + n / 4096) h (omega arith), (high x (0x80 + n / 64 % 64) h (omega arith), (high x (0x80 + n % 64) h (omega arith), tt))))
    (λ a. (high x (0xF0 + n / 262144) h (omega arith), (high x (0x80 + n / 4096 % 64) h (omega arith), (high x (0x80 + n / 64 % 64) h (omega arith), (high x (0x80 + n % 64) h (omega arith), tt)))))

pub apart_append : (x : ℕ) (xs ys : List ℕ) → AllApart x xs → AllApart x ys → AllApart x (xs ++ ys)
apart_append x [] ys h k = k
apart_append x (b ∷ bs) ys h k = (h.0, apart_append x bs ys h.1 k)

-- ---- all are past ASCII

-- no digit is past ASCII
pub no_digit : (b : ℕ) → 0x80 ≤ b → digit_value b ≡ 16
unfolding digit_value
no_digit b h = rw (above 48 57 b (omega arith), above 65 70 b (omega arith), above 97 102 b (omega arith))

abbrev pub AllHigh : List ℕ → Type 0
AllHigh [] = Unit {0}
AllHigh (b ∷ bs) = (0x80 ≤ b) × AllHigh bs

pub encode_high : (n : ℕ) → 0x80 ≤ n → AllHigh (encode n)
encode_high n k =
    by_size AllHigh n
    (λ a. (k, tt))
    (λ a b. (omega arith, (omega arith, tt)))
    (λ a b. (omega arith, (omega arith, (omega arith, tt))))
    (λ a. (omega arith, (omega arith, (omega arith, (omega arith, tt)))))

module _ (base : ℕ) (small-base : base ≤ 16) where
  pub from_high : (n b : ℕ) (bs : List ℕ) → 0x80 ≤ b → number_from base n (b ∷ bs) ≡ none
  from_high n b bs h = number_stop_lem base n b bs (rw (no_digit b h) small-base)

  pub from_high_all : (n : ℕ) (w rest : List ℕ) → AllHigh w → 1 ≤ length w → number_from base n (w ++ rest) ≡ none
  from_high_all n [] rest a h = absurd (omega arith)
  from_high_all n (b ∷ bs) rest a h = from_high n b (bs ++ rest) a.0

  pub base_high : (b : ℕ) (bs : List ℕ) → 0x80 ≤ b → in_base base (b ∷ bs) ≡ small none
  unfolding in_base
  base_high b bs h = rw (ne_eqb b 43 (λ q. omega arith), ne_eqb b 45 (λ q. omega arith), from_high 0 b bs h)

  pub base_high_all : (w rest : List ℕ) → AllHigh w → 1 ≤ length w → in_base base (w ++ rest) ≡ small none
  base_high_all [] rest a h = absurd (omega arith)
  base_high_all (b ∷ bs) rest a h = base_high b (bs ++ rest) a.0

module _ (legal : ℕ → CharNumber) where
  pub number_apart : (w rest : List ℕ) → AllApart 120 w → 1 ≤ length w → char_number legal (w ++ rest) ≡ judge legal (in_base 10 (w ++ rest))
  unfolding char_number
  number_apart [] rest a h = absurd (omega arith)
  number_apart (b ∷ bs) rest a h = rw a.0
