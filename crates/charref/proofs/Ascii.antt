-- A text that writes a character's number is ASCII, so it needs no check of UTF-8. Assumes nothing.
use mathlib.Core.Path.{◌≡◌, refl}
use Prim.Native.Nat.{ℕ, ◌+◌, ◌*◌, ◌≤◌, ◌<◌}
use native.Mathlib.Omega.{arith}
use mathlib.Core.Bool.{Bool, true, false, ◌&&◌, ◌||◌}
use mathlib.Core.Option.{Option, none, some}
use mathlib.Core.List.{List, [], ◌∷◌}
use lib.Dec.{eqb, leb}
use lib.ListN.{length}
use borrow.Author.Tests.{eqb-true, leb-false}
use Rattle.text.specs.Bytes.{pick}
use Rattle.text.specs.Utf8.{utf8_end}
use Rattle.text.specs.Answers.{Done}
use Rattle.text.proofs.Utf8.{all_ascii, ascii_well_formed}
use Rattle.text.proofs.Longest.{whole_end}
use Rattle.charref.specs.CharRef.{digit_value, digit, number_from, small, in_base, judge, char_number, any_character, number_answer}
use Rattle.charref.specs.CharNumbers.{Parsed}
use Rattle.charref.specs.CharNumbers.{Value, Signed, NoNumber}
use Rattle.charref.specs.CharNumbers.{CharNumber}
use Rattle.charref.specs.CharNumbers.{Char, UnexpectedSign, InvalidNumber, InvalidCodepoint, IllegalCharacter, Forbidden}
use Rattle.text.proofs.Bytes.{above}
use Rattle.charref.proofs.Numbers.{digit_none}

-- past ASCII no byte is a digit
no_digit : (b : ℕ) → 127 < b → digit_value b ≡ 16
unfolding digit_value
no_digit b h = rw (above 48 57 b (omega arith), above 65 70 b (omega arith), above 97 102 b (omega arith))

and_both : (a b : Bool) → a ≡ true → b ≡ true → a && b ≡ true
and_both a b e f = rw (e, f)

module _ (base : ℕ) (h : base ≤ 16) where
  digit_ascii : (b d : ℕ) → digit base b ≡ some d → leb b 0x7F ≡ true
  digit_ascii b d e = go (leb b 0x7F) refl
    where
      go : (t : Bool) → leb b 0x7F ≡ t → t ≡ true
      go true q = refl
      go false q =
          let n : digit base b ≡ none = digit_none base b (omega (arith, no_digit b (leb-false b 0x7F q), h)) in
          absurd (let z : ◌≡◌ {A = ℕ} 0 1 = cc in omega arith)

  number_ascii : (n v : ℕ) (t : List ℕ) → number_from base n t ≡ some v → all_ascii t ≡ true
  unfolding number_from
  number_ascii n v [] e = refl
  number_ascii n v (b ∷ bs) e = go (digit base b) refl e (λ d q. number_ascii (base * n + d) v bs q)
    where
      go : (o : Option ℕ) → digit base b ≡ o → elim o [ none ↦ none | some d ↦ number_from base (base * n + d) bs ] ≡ some v
          → ((d : ℕ) → number_from base (base * n + d) bs ≡ some v → all_ascii bs ≡ true) → all_ascii (b ∷ bs) ≡ true
      go none q f ih = absurd (let z : ◌≡◌ {A = ℕ} 0 1 = cc in omega arith)
      go (some d) q f ih = and_both (leb b 0x7F) (all_ascii bs) (digit_ascii b d q) (ih d f)

  small_ascii : (t : List ℕ) (v : ℕ) → small (number_from base 0 t) ≡ Value v → all_ascii t ≡ true
  unfolding small
  small_ascii t v e = go (number_from base 0 t) refl e
    where
      go : (o : Option ℕ) → number_from base 0 t ≡ o → small o ≡ Value v → all_ascii t ≡ true
      go none q f = absurd (let z : ◌≡◌ {A = ℕ} 0 1 = cc in omega arith)
      go (some n) q f = number_ascii 0 n t q

  base_ascii : (t : List ℕ) (v : ℕ) → in_base base t ≡ Value v → all_ascii t ≡ true
  unfolding in_base
  base_ascii [] v e = refl
  base_ascii (b ∷ bs) v e = go (eqb b 43 || eqb b 45) e
    where
      go : (t : Bool) → pick t Signed (small (number_from base 0 (b ∷ bs))) ≡ Value v → all_ascii (b ∷ bs) ≡ true
      go true f = absurd (let z : ◌≡◌ {A = ℕ} 0 1 = cc in omega arith)
      go false f = small_ascii (b ∷ bs) v f

-- what has a character's number is a value
judged : (p : Parsed) (n : ℕ) (P : Type 0) → ((v : ℕ) → p ≡ Value v → P) → judge any_character p ≡ Char n → P
unfolding judge
judged Signed n P f e = absurd (let z : ◌≡◌ {A = ℕ} 0 1 = cc in omega arith)
judged NoNumber n P f e = absurd (let z : ◌≡◌ {A = ℕ} 0 1 = cc in omega arith)
judged (Value v) n P f e = f v refl

pub char_ascii : (t : List ℕ) (n : ℕ) → char_number any_character t ≡ Char n → all_ascii t ≡ true
unfolding char_number
char_ascii [] n e = refl
char_ascii (b ∷ bs) n e = go (eqb b 120) refl e
  where
    go : (t : Bool) → eqb b 120 ≡ t → judge any_character (pick t (in_base 16 bs) (in_base 10 (b ∷ bs))) ≡ Char n → all_ascii (b ∷ bs) ≡ true
    go true q f =
        judged (in_base 16 bs) n (all_ascii (b ∷ bs) ≡ true)
        (λ v g. rw (eqb-true b 120 q) (base_ascii 16 (omega arith) bs v g)) f
    go false q f =
        judged (in_base 10 (b ∷ bs)) n (all_ascii (b ∷ bs) ≡ true) (λ v g. base_ascii 10 (omega arith) (b ∷ bs) v g) f

-- what is answered with success has a character's number
answered : (c : CharNumber) (P : Type 0) {first second : ℕ} → ((n : ℕ) → c ≡ Char n → P) → number_answer c ≡ Done first second → P
unfolding number_answer
answered (Char n) P f e = f n refl
answered UnexpectedSign P f e = absurd (let z : ◌≡◌ {A = ℕ} 0 1 = cc in omega arith)
answered InvalidNumber P f e = absurd (let z : ◌≡◌ {A = ℕ} 0 1 = cc in omega arith)
answered (InvalidCodepoint n) P f e = absurd (let z : ◌≡◌ {A = ℕ} 0 1 = cc in omega arith)
answered IllegalCharacter P f e = absurd (let z : ◌≡◌ {A = ℕ} 0 1 = cc in omega arith)
answered Forbidden P f e = absurd (let z : ◌≡◌ {A = ℕ} 0 1 = cc in omega arith)

-- so the check of UTF-8 lets it pass
pub number_utf8 : (t : List ℕ) {first second : ℕ} → number_answer (char_number any_character t) ≡ Done first second → utf8_end t ≡ length t
number_utf8 t e =
    answered (char_number any_character t) (utf8_end t ≡ length t) (λ n q. whole_end t (ascii_well_formed t (char_ascii t n q))) e
