-- Laws of character numbers: a digit at a time, zeros in front, and what a character is. Assumes nothing.
use mathlib.Core.Path.{◌≡◌, refl, sym, ◌∙◌, ap}
use Prim.Native.Nat.{ℕ, zero, suc, ◌+◌, ◌*◌, ◌-◌, ◌≤◌, ◌<◌}
use native.Mathlib.Omega.{arith}
use mathlib.Core.Logic.{◌≢◌, ◌⊎◌, inl, inr}
use native.Mathlib.Numerals.{add-one}
use native.Mathlib.Nat.{mul-le-mul, one-mul, mul-zero}
use mathlib.Core.Bool.{Bool, true, false, ◌||◌}
use mathlib.Core.Option.{Option, none, some}
use mathlib.Core.List.{List, [], ◌∷◌, ◌++◌}
use lib.Dec.{eqb, ltb}
use lib.ListN.{length, get_or, take, drop, replicate, drop_of_length-le}
use lib.Seq.{drop-cons, take_all}
use borrow.Author.Tests.{lt-ltb, le-ltb, ltb-false, ne_eqb, eqb-false}
use Rattle.text.specs.Bytes.{pick, within}
use Rattle.text.specs.Utf8.{WellFormed}
use Rattle.charref.specs.CharRef.{digit_value, digit, number_from, small, in_base, judge, char_number, any_character, encode}
use Rattle.charref.specs.CharNumbers.{Parsed}
use Rattle.charref.specs.CharNumbers.{Value, Signed, NoNumber}
use Rattle.charref.specs.CharNumbers.{CharNumber}
use Rattle.charref.specs.CharNumbers.{Char, UnexpectedSign, InvalidNumber, InvalidCodepoint, IllegalCharacter, Forbidden}
use Rattle.charref.proofs.Encoding.{encode_well_formed}

-- ---- a digit at a time

pub digit_some : (base b : ℕ) → digit_value b < base → digit base b ≡ some (digit_value b)
unfolding digit
digit_some base b h = rw (lt-ltb (digit_value b) base h)

pub digit_none : (base b : ℕ) → base ≤ digit_value b → digit base b ≡ none
unfolding digit
digit_none base b h = rw (le-ltb (digit_value b) base h)

pub number_step : (base n b : ℕ) (bs : List ℕ) → digit_value b < base
    → number_from base n (b ∷ bs) ≡ number_from base (base * n + digit_value b) bs
unfolding number_from
number_step base n b bs h = rw (digit_some base b h, number_from)

pub number_stop_lem : (base n b : ℕ) (bs : List ℕ) → base ≤ digit_value b → number_from base n (b ∷ bs) ≡ none
unfolding number_from
number_stop_lem base n b bs h = rw (digit_none base b h, number_from)

-- more digits make no smaller number, so one over 32 bits stays so
pub too_large : (base n : ℕ) (bs : List ℕ) → 1 ≤ base → 4294967295 < n → small (number_from base n bs) ≡ NoNumber
unfolding small number_from
too_large base n [] h k = rw (lt-ltb 4294967295 n k)
too_large base n (b ∷ bs) h k = go (λ d. too_large base (base * n + d) bs h (more d)) (digit base b)
  where
    more : (d : ℕ) → 4294967295 < base * n + d
    more d =
        let m : 1 * n ≤ base * n = mul-le-mul {n₂ = base} {m₂ = n} h (omega arith) in
        omega (arith, one-mul n)

    go : ((d : ℕ) → small (number_from base (base * n + d) bs) ≡ NoNumber)
        → (o : Option ℕ) → small (elim o [ none ↦ none | some d ↦ number_from base (base * n + d) bs ]) ≡ NoNumber
    go ih none = refl
    go ih (some d) = ih d

-- ---- where the reader stands at `i`

module _ (base n i : ℕ) (s : List ℕ) where
  pub at_end : length s ≤ i → n ≤ 4294967295 → small (number_from base n (drop i s)) ≡ Value n
  unfolding small number_from
  at_end h k = rw (drop_of_length-le s h, le-ltb 4294967295 n k)

  at : i < length s → number_from base n (drop i s) ≡ number_from base n (get_or s i 0 ∷ drop (i + 1) s)
  at h = rw (add-one i, drop-cons s i 0 h)

  pub at_digit : i < length s → (d : ℕ) → d ≡ digit_value (get_or s i 0) → d < base
      → number_from base n (drop i s) ≡ number_from base (base * n + d) (drop (i + 1) s)
  at_digit h d e k =
      at h ∙ number_step base n (get_or s i 0) (drop (i + 1) s) (omega arith)
      ∙ ap (λ (v : ℕ). number_from base (base * n + v) (drop (i + 1) s)) (sym e)

  pub at_none : i < length s → (d : ℕ) → d ≡ digit_value (get_or s i 0) → base ≤ d → small (number_from base n (drop i s)) ≡ NoNumber
  at_none h d e k =
      ap small (at h ∙ number_stop_lem base n (get_or s i 0) (drop (i + 1) s) (omega arith)) ∙ (unfold small in refl)

-- a value of 32 bits times the base fits 64 bits
pub product : (base n : ℕ) → base ≤ 16 → n ≤ 4294967295 → base * n ≤ 68719476720
product base n h k = mul-le-mul {n₂ = 16} {m₂ = 4294967295} h k

-- ---- zeros in front

zero_digit : digit_value 48 ≡ 0
unfolding digit_value
zero_digit = refl

pub leading_zero : (base : ℕ) (bs : List ℕ) → 1 ≤ base → number_from base 0 (48 ∷ bs) ≡ number_from base 0 bs
leading_zero base bs h =
    number_step base 0 48 bs (rw zero_digit h)
    ∙ ap (λ (n : ℕ). number_from base n bs) (rw (zero_digit, mul-zero base))

pub leading_zeros : (base k : ℕ) (bs : List ℕ) → 1 ≤ base → number_from base 0 (replicate k 48 ++ bs) ≡ number_from base 0 bs
leading_zeros base zero bs h = refl
leading_zeros base (suc k) bs h = leading_zero base (replicate k 48 ++ bs) h ∙ leading_zeros base k bs h

pub at_zero : (base i : ℕ) (s : List ℕ) → 1 ≤ base → i < length s → get_or s i 0 ≡ 48 → number_from base 0 (drop (i + 1) s) ≡ number_from base 0 (drop i s)
at_zero base i s h k e = sym (at base 0 i s k ∙ rw e (leading_zero base (drop (i + 1) s) h))

-- ---- the sign, and the base

pub base_none : (base : ℕ) (s : List ℕ) → length s ≡ 0 → NoNumber ≡ in_base base s
unfolding in_base
base_none base [] h = refl
base_none base (b ∷ s) h = absurd (omega arith)

pub base_sign : (base : ℕ) (s : List ℕ) → length s ≢ 0 → (get_or s 0 0 ≡ 43) ⊎ (get_or s 0 0 ≡ 45) → Signed ≡ in_base base s
unfolding in_base
base_sign base [] h e = absurd (h refl)
base_sign base (b ∷ s) h (inl e) = rw e
base_sign base (b ∷ s) h (inr e) = rw e

pub base_digits : (base : ℕ) (s : List ℕ) → length s ≢ 0 → ((get_or s 0 0 ≡ 43) ⊎ (get_or s 0 0 ≡ 45) → ⊥)
    → small (number_from base 0 s) ≡ in_base base s
unfolding in_base
base_digits base [] h k = absurd (h refl)
base_digits base (b ∷ s) h k = rw (ne_eqb b 43 (λ e. k (inl e)), ne_eqb b 45 (λ e. k (inr e)))

pub char_none : (legal : ℕ → CharNumber) (s : List ℕ) → length s ≡ 0 → InvalidNumber ≡ char_number legal s
unfolding char_number
char_none legal [] h = refl
char_none legal (b ∷ s) h = absurd (omega arith)

pub char_hex : (legal : ℕ → CharNumber) (s : List ℕ) → length s ≢ 0 → get_or s 0 0 ≡ 120
    → judge legal (in_base 16 (take (length s - 1) (drop 1 s))) ≡ char_number legal s
unfolding char_number
char_hex legal [] h e = absurd (h refl)
char_hex legal (b ∷ s) h e = rw (take_all (length (b ∷ s) - 1) s (omega arith), e)

pub char_decimal : (legal : ℕ → CharNumber) (s : List ℕ) → length s ≢ 0 → get_or s 0 0 ≢ 120
    → judge legal (in_base 10 s) ≡ char_number legal s
unfolding char_number
char_decimal legal [] h e = absurd (h refl)
char_decimal legal (b ∷ s) h e = rw (ne_eqb b 120 e)

-- ---- what a character is

-- not 0, no surrogate, at most U+10FFFF
pub record Character (n : ℕ) : Type 0 where
  pub positive : 0 < n
  pub no_surrogate : within 0xD800 0xDFFF n ≡ false
  pub most : n ≤ 1114111

-- for every rule that names no other character than the one it is asked for
module _ (legal : ℕ → CharNumber) (own : (m n : ℕ) → legal m ≡ Char n → m ≡ n) where
  pub judge_character : (p : Parsed) (n : ℕ) → judge legal p ≡ Char n → Character n
  unfolding judge
  judge_character Signed n e = absurd (let z : ◌≡◌ {A = ℕ} 0 1 = cc in omega arith)
  judge_character NoNumber n e = absurd (let z : ◌≡◌ {A = ℕ} 0 1 = cc in omega arith)
  judge_character (Value m) n e = go (eqb m 0) refl (within 0xD800 0xDFFF m) refl (ltb 1114111 m) refl e
    where
      go : (t : Bool) → eqb m 0 ≡ t → (u : Bool) → within 0xD800 0xDFFF m ≡ u → (v : Bool) → ltb 1114111 m ≡ v
          → pick t IllegalCharacter (pick (u || v) (InvalidCodepoint m) (legal m)) ≡ Char n → Character n
      go true a u b v c e = absurd (let z : ◌≡◌ {A = ℕ} 0 1 = cc in omega arith)
      go false a true b v c e = absurd (let z : ◌≡◌ {A = ℕ} 0 1 = cc in omega arith)
      go false a false b true c e = absurd (let z : ◌≡◌ {A = ℕ} 0 1 = cc in omega arith)
      go false a false b false c e =
          let q : m ≡ n = own m n e in
          let z : m ≢ 0 = eqb-false m 0 a in
          record { positive = omega arith; no_surrogate = rw q at b; most = omega (arith, ltb-false 1114111 m c) }

  pub legal_character : (text : List ℕ) (n : ℕ) → char_number legal text ≡ Char n → Character n
  unfolding char_number
  legal_character [] n e = judge_character NoNumber n e
  legal_character (b ∷ bs) n e = judge_character (pick (eqb b 120) (in_base 16 bs) (in_base 10 (b ∷ bs))) n e

-- ---- a number is forbidden only where the rule forbids it

module _ (legal : ℕ → CharNumber) (X : Type 0) (forbids : (n : ℕ) → legal n ≡ Forbidden → X) where
  judge_forbidden : (p : Parsed) → judge legal p ≡ Forbidden → X
  unfolding judge
  judge_forbidden Signed e = absurd (let z : ◌≡◌ {A = ℕ} 0 1 = cc in omega arith)
  judge_forbidden NoNumber e = absurd (let z : ◌≡◌ {A = ℕ} 0 1 = cc in omega arith)
  judge_forbidden (Value m) e = go (eqb m 0) (within 0xD800 0xDFFF m || ltb 1114111 m) e
    where
      go : (t u : Bool) → pick t IllegalCharacter (pick u (InvalidCodepoint m) (legal m)) ≡ Forbidden → X
      go true u e = absurd (let z : ◌≡◌ {A = ℕ} 0 1 = cc in omega arith)
      go false true e = absurd (let z : ◌≡◌ {A = ℕ} 0 1 = cc in omega arith)
      go false false e = forbids m e

  pub char_forbidden : (text : List ℕ) → char_number legal text ≡ Forbidden → X
  unfolding char_number
  char_forbidden [] e = judge_forbidden NoNumber e
  char_forbidden (b ∷ bs) e = judge_forbidden (pick (eqb b 120) (in_base 16 bs) (in_base 10 (b ∷ bs))) e

-- the rule that lets every character pass forbids none
pub any_passes : (n : ℕ) → any_character n ≡ Forbidden → ⊥
any_passes n e = let z : ◌≡◌ {A = ℕ} 0 1 = cc in absurd (omega arith)

-- Under that rule no character number is forbidden.
pub char_number_passes_lem : (text : List ℕ) → char_number any_character text ≡ Forbidden → ⊥
char_number_passes_lem text e = char_forbidden any_character ⊥ any_passes text e

-- another rule for the characters that 12 to 15 let pass
abbrev pub relegal : (ℕ → CharNumber) → CharNumber → CharNumber
relegal legal (Char n) = legal n
relegal legal UnexpectedSign = UnexpectedSign
relegal legal InvalidNumber = InvalidNumber
relegal legal (InvalidCodepoint n) = InvalidCodepoint n
relegal legal IllegalCharacter = IllegalCharacter
relegal legal Forbidden = Forbidden

relegal_judge : (legal : ℕ → CharNumber) (p : Parsed) → judge legal p ≡ relegal legal (judge any_character p)
unfolding judge
relegal_judge legal Signed = refl
relegal_judge legal NoNumber = refl
relegal_judge legal (Value n) = go (eqb n 0) (within 0xD800 0xDFFF n || ltb 1114111 n)
  where
    go : (z s : Bool) → pick z IllegalCharacter (pick s (InvalidCodepoint n) (legal n)) ≡ relegal legal (pick z IllegalCharacter (pick s (InvalidCodepoint n) (Char n)))
    go true s = refl
    go false true = refl
    go false false = refl

-- Under any rule a number is what the lenient one says, but for characters.
pub relegal_number : (legal : ℕ → CharNumber) (text : List ℕ) → char_number legal text ≡ relegal legal (char_number any_character text)
unfolding char_number
relegal_number legal [] = relegal_judge legal (in_base 10 [])
relegal_number legal (b ∷ bs) = relegal_judge legal (pick (eqb b 120) (in_base 16 bs) (in_base 10 (b ∷ bs)))

-- A character number that is read is not 0, no surrogate, and at most U+10FFFF.
pub char_number_character_lem : (text : List ℕ) (n : ℕ) → char_number any_character text ≡ Char n → Character n
char_number_character_lem text n e = legal_character any_character (λ m k q. cc) text n e

-- The bytes of a character number that is read are well-formed UTF-8.
pub char_number_well_formed_lem : (text : List ℕ) (n : ℕ) → char_number any_character text ≡ Char n → WellFormed (encode n)
char_number_well_formed_lem text n e =
    let h : Character n = char_number_character_lem text n e in
    encode_well_formed n h.no_surrogate h.most
