-- Character numbers under a rule: the answers of two rules are related as the rules are (`char_related`), and a character that is read is
-- one that the rule gave (`char_given`). The rules by number: what each says of a character (`rule_lenient`, `rule_judged`), and that a
-- character which is read is well-formed under each (`rule_character`, `rule_well_formed`). Assumes nothing.
use mathlib.Core.Path.{◌≡◌, refl, ap, ◌∙◌}
use mathlib.Core.Logic.{◌≢◌}
use Prim.Native.Nat.{ℕ, zero, suc}
use native.Mathlib.Omega.{arith}
use mathlib.Core.Bool.{Bool, true, false, ◌||◌}
use mathlib.Core.List.{List, [], ◌∷◌}
use lib.Dec.{eqb, ltb}
use borrow.Author.Tests.{lt-ltb}
use Rattle.text.specs.Bytes.{pick, within}
use Rattle.text.specs.Utf8.{WellFormed}
use Rattle.text.specs.Version.{Rule, xml10, xml11}
use Rattle.charref.specs.Chars.{is_char}
use Rattle.charref.specs.CharRef.{in_base, judge, char_number, any_character, only_char, encode}
use Rattle.charref.specs.Reading.{legal_by}
use Rattle.charref.specs.CharNumbers.{Parsed}
use Rattle.charref.specs.CharNumbers.{Value, Signed, NoNumber}
use Rattle.charref.specs.CharNumbers.{CharNumber}
use Rattle.charref.specs.CharNumbers.{Char, UnexpectedSign, InvalidNumber, InvalidCodepoint, IllegalCharacter, Forbidden}
use Rattle.charref.proofs.Encoding.{encode_well_formed}
use Rattle.charref.proofs.Numbers.{Character, legal_character, relegal, relegal_number}

module _ (R : CharNumber → CharNumber → Type 0) (same : (c : CharNumber) → R c c) (f g : ℕ → CharNumber) (h : (n : ℕ) → R (f n) (g n)) where
  judge_related : (p : Parsed) → R (judge f p) (judge g p)
  unfolding judge
  judge_related Signed = same UnexpectedSign
  judge_related NoNumber = same InvalidNumber
  judge_related (Value n) = go (eqb n 0) (within 0xD800 0xDFFF n || ltb 1114111 n)
    where
      go : (x y : Bool) → R (pick x IllegalCharacter (pick y (InvalidCodepoint n) (f n))) (pick x IllegalCharacter (pick y (InvalidCodepoint n) (g n)))
      go true y = same IllegalCharacter
      go false true = same (InvalidCodepoint n)
      go false false = h n

  pub char_related : (text : List ℕ) → R (char_number f text) (char_number g text)
  unfolding char_number
  char_related [] = judge_related (in_base 10 [])
  char_related (b ∷ bs) = judge_related (pick (eqb b 120) (in_base 16 bs) (in_base 10 (b ∷ bs)))

module _ (legal : ℕ → CharNumber) (P : ℕ → Type 0) (gives : (m n : ℕ) → legal m ≡ Char n → P n) where
  judge_given : (p : Parsed) (n : ℕ) → judge legal p ≡ Char n → P n
  unfolding judge
  judge_given Signed n e = absurd (let z : ◌≡◌ {A = ℕ} 0 1 = cc in omega arith)
  judge_given NoNumber n e = absurd (let z : ◌≡◌ {A = ℕ} 0 1 = cc in omega arith)
  judge_given (Value m) n e = go (eqb m 0) (within 0xD800 0xDFFF m || ltb 1114111 m) e
    where
      go : (x y : Bool) → pick x IllegalCharacter (pick y (InvalidCodepoint m) (legal m)) ≡ Char n → P n
      go true y e = absurd (let z : ◌≡◌ {A = ℕ} 0 1 = cc in omega arith)
      go false true e = absurd (let z : ◌≡◌ {A = ℕ} 0 1 = cc in omega arith)
      go false false e = gives m n e

  pub char_given : (text : List ℕ) (n : ℕ) → char_number legal text ≡ Char n → P n
  unfolding char_number
  char_given [] n e = judge_given (in_base 10 []) n e
  char_given (b ∷ bs) n e = judge_given (pick (eqb b 120) (in_base 16 bs) (in_base 10 (b ∷ bs))) n e

-- ---- the rules by number

pub rule_lenient : (rule c : ℕ) → rule ≡ 0 → legal_by rule c ≡ Char c
rule_lenient rule c e = ap (λ (r : ℕ). legal_by r c) e

pub rule_judged : (rule c : ℕ) {may : Bool} → rule ≢ 0 → may ≡ is_char (pick (ltb 1 rule) xml11 xml10) c → legal_by rule c ≡ pick may (Char c) Forbidden
unfolding only_char
rule_judged zero c some e = absurd (some refl)
rule_judged (suc zero) c some e = rw e
rule_judged (suc (suc g)) c {may} some e =
    let newer = lt-ltb 1 (suc (suc g)) (omega arith) in
    let k : may ≡ is_char xml11 c = e ∙ ap (λ (n : Bool). is_char (pick n xml11 xml10) c) newer in
    rw k

-- a rule names no other character than the one it is asked for
only_own : (r : Rule) (m n : ℕ) → only_char r m ≡ Char n → m ≡ n
unfolding only_char
only_own r m n e = go (is_char r m) e
  where
    go : (x : Bool) → pick x (Char m) Forbidden ≡ Char n → m ≡ n
    go true q = cc
    go false q = absurd (let z : ◌≡◌ {A = ℕ} 0 1 = cc in omega arith)

rule_own : (rule m n : ℕ) → legal_by rule m ≡ Char n → m ≡ n
rule_own zero m n e = cc
rule_own (suc zero) m n e = only_own xml10 m n e
rule_own (suc (suc rule)) m n e = only_own xml11 m n e

-- A character number that is read is not 0, no surrogate, and at most U+10FFFF, and its bytes are well-formed UTF-8.
module _ (rule : ℕ) (text : List ℕ) (n : ℕ) (e : char_number (legal_by rule) text ≡ Char n) where
  pub rule_character : Character n
  rule_character = legal_character (legal_by rule) (rule_own rule) text n e

  pub rule_well_formed : WellFormed (encode n)
  rule_well_formed = encode_well_formed n rule_character.no_surrogate rule_character.most

-- a number that the lenient rule lets pass, where the rule allows its character
pub rule_allows : (rule : ℕ) (text : List ℕ) {c : ℕ} → char_number any_character text ≡ Char c → legal_by rule c ≡ Char c → char_number (legal_by rule) text ≡ Char c
rule_allows rule text e may = relegal_number (legal_by rule) text ∙ ap (relegal (legal_by rule)) e ∙ may
