-- The two checks of a text before an answer: which of the three answers. Assumes nothing.
use mathlib.Core.Path.{◌≡◌, refl, sym, ◌∙◌, ap}
use mathlib.Core.List.{List}
use Prim.Native.Nat.{ℕ}
use lib.ListN.{length}
use borrow.Author.Tests.{eq-eqb}
use Rattle.text.specs.Utf8.{utf8_end}
use Rattle.text.specs.Call.{and_then, length_check, utf8_check, text_check, argument_check, passed}
use Rattle.text.specs.Simple.{Simple}
use Rattle.text.proofs.Printable.{simple_end}
use Rattle.text.specs.Answers.{Answer, Done}

module _ (text : List ℕ) (later : Answer) where
  module _ {length₁ : Answer} {one two : ℕ} (e : length₁ ≡ length_check text) (q : length₁ ≡ Done one two) where
    both : and_then (text_check text) later ≡ and_then (utf8_check text) later
    both = ap (λ (a : Answer). and_then (and_then a (utf8_check text)) later) (sym e ∙ q)

    pub later_answers : {r valid : Answer} {three four : ℕ} → valid ≡ utf8_check text → valid ≡ Done three four → r ≡ later → r ≡ and_then (text_check text) later
    later_answers f p l = l ∙ sym (both ∙ ap (λ (a : Answer). and_then a later) (sym f ∙ p))

    -- where the text is UTF-8 without a check
    pub known_answers : {r : Answer} → utf8_end text ≡ length text → r ≡ later → r ≡ and_then (text_check text) later
    known_answers u l = later_answers {valid = passed} (sym (well u)) refl l
      where
        well : utf8_end text ≡ length text → utf8_check text ≡ passed
        well v = unfold utf8_check in rw (eq-eqb (utf8_end text) (length text) v)

-- checks of arguments that all refuse nothing leave the answer to what comes after them
pub all_pass : {l s u : Answer} (later : Answer) {a b c d e f : ℕ} → l ≡ Done a b → s ≡ Done c d → u ≡ Done e f
    → later ≡ and_then (and_then l (and_then s u)) later
all_pass later p q r = rw (p, q, r) refl

-- of a simple text refusal 5 has nothing to say
pub simple_passes : (t : List ℕ) → Simple t → utf8_check t ≡ Done 0 0
unfolding utf8_check
simple_passes t s = rw (eq-eqb (utf8_end t) (length t) (simple_end t s)) refl
