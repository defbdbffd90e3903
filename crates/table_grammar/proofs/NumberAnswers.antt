-- A character number that is accepted is at most U+10FFFF (`character_most`), and its bytes are UTF-8 (`encode_good`). Assumes nothing.
use mathlib.Core.Path.{◌≡◌, refl, sym, ap, ◌∙◌, subst}
use mathlib.Core.Bool.{Bool, true, false, true≢false}
use mathlib.Core.List.{List}
use Prim.Native.Nat.{ℕ, ◌≤◌}
use native.Mathlib.Omega.{arith}
use Rattle.text.specs.Utf8.{WellFormed}
use Rattle.text.specs.Answers.{Answer}
use Rattle.text.specs.Answers.{Done, Refused}
use Rattle.charref.specs.CharRef.{char_number, any_character, number_answer, encode}
use Rattle.charref.specs.CharNumbers.{CharNumber}
use Rattle.charref.specs.CharNumbers.{Char, UnexpectedSign, InvalidNumber, InvalidCodepoint, IllegalCharacter, Forbidden}
use Rattle.charref.proofs.Numbers.{char_number_character_lem, char_number_well_formed_lem}

-- a character is at most U+10FFFF
abbrev first_of : Answer → ℕ
first_of (Done first second) = first
first_of (Refused number first second) = 0

answer_char : (k : ℕ) → first_of (number_answer (Char k)) ≡ k
unfolding number_answer
answer_char k = refl

answer_sign : first_of (number_answer UnexpectedSign) ≡ 0
unfolding number_answer
answer_sign = refl

answer_none : first_of (number_answer InvalidNumber) ≡ 0
unfolding number_answer
answer_none = refl

answer_codepoint : (k : ℕ) → first_of (number_answer (InvalidCodepoint k)) ≡ 0
unfolding number_answer
answer_codepoint k = refl

answer_illegal : first_of (number_answer IllegalCharacter) ≡ 0
unfolding number_answer
answer_illegal = refl

answer_forbidden : first_of (number_answer Forbidden) ≡ 0
unfolding number_answer
answer_forbidden = refl

pub character_most : (digits : List ℕ) (a : Answer) {c second : ℕ} → a ≡ number_answer (char_number any_character digits) → a ≡ Done c second → c ≤ 1114111
character_most digits a {c} {second} e f = go (char_number any_character digits) refl (sym f ∙ e)
  where
    go : (n : CharNumber) → char_number any_character digits ≡ n → Done c second ≡ number_answer n → c ≤ 1114111
    go (Char k) p q = let z = (char_number_character_lem digits k p).most in omega (arith, z, ap first_of q ∙ answer_char k)
    go UnexpectedSign p q = omega (arith, ap first_of q ∙ answer_sign)
    go InvalidNumber p q = omega (arith, ap first_of q ∙ answer_none)
    go (InvalidCodepoint k) p q = omega (arith, ap first_of q ∙ answer_codepoint k)
    go IllegalCharacter p q = omega (arith, ap first_of q ∙ answer_illegal)
    go Forbidden p q = omega (arith, ap first_of q ∙ answer_forbidden)

abbrev is_done : Answer → Bool
is_done (Done first second) = true
is_done (Refused number first second) = false

done_not : {c second : ℕ} {a : Answer} → Done c second ≡ a → is_done a ≡ false → ⊥
done_not e f = true≢false (ap is_done e ∙ f)

answer_sign_no : is_done (number_answer UnexpectedSign) ≡ false
unfolding number_answer
answer_sign_no = refl

answer_none_no : is_done (number_answer InvalidNumber) ≡ false
unfolding number_answer
answer_none_no = refl

answer_codepoint_no : (k : ℕ) → is_done (number_answer (InvalidCodepoint k)) ≡ false
unfolding number_answer
answer_codepoint_no k = refl

answer_illegal_no : is_done (number_answer IllegalCharacter) ≡ false
unfolding number_answer
answer_illegal_no = refl

answer_forbidden_no : is_done (number_answer Forbidden) ≡ false
unfolding number_answer
answer_forbidden_no = refl

-- a character's bytes are UTF-8
pub encode_good : (digits : List ℕ) (a : Answer) {c second : ℕ} → a ≡ number_answer (char_number any_character digits) → a ≡ Done c second → WellFormed (encode c)
encode_good digits a {c} {second} e f = go (char_number any_character digits) refl (sym f ∙ e)
  where
    go : (n : CharNumber) → char_number any_character digits ≡ n → Done c second ≡ number_answer n → WellFormed (encode c)
    go (Char k) p q = subst (λ (j : ℕ). WellFormed (encode j)) (sym (ap first_of q ∙ answer_char k)) (char_number_well_formed_lem digits k p)
    go UnexpectedSign p q = absurd (done_not q answer_sign_no)
    go InvalidNumber p q = absurd (done_not q answer_none_no)
    go (InvalidCodepoint k) p q = absurd (done_not q (answer_codepoint_no k))
    go IllegalCharacter p q = absurd (done_not q answer_illegal_no)
    go Forbidden p q = absurd (done_not q answer_forbidden_no)
