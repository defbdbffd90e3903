-- A character reference: the character written, or the number's refusal handed on. Assumes nothing.
use mathlib.Core.Path.{◌≡◌, refl, sym, ap, ◌∙◌}
use mathlib.Core.List.{List}
use Prim.Native.Nat.{ℕ, ◌≤◌}
use lib.ListN.{length}
use Rattle.text.specs.Answers.{Answer}
use Rattle.text.specs.Answers.{Done, Refused}
use Rattle.charref.specs.CharRef.{char_number, any_character, number_answer, encode}
use Rattle.charref.specs.CharNumbers.{CharNumber}
use Rattle.charref.specs.CharNumbers.{Char}
use Rattle.charref.specs.Errors.{read_as, refusal_for, answer_as}
use Rattle.charref.specs.declared.ParseCharRefError.{ParseCharRefError}
use Rattle.charref.proofs.Errors.{answers}
use Rattle.std.specs.Prelude.{Err}
use Rattle.charref.proofs.Encoding.{encode_at_most}
use Rattle.tokens.specs.Outcome.{Outcome, done, refused, numbered, number_outcome}
use Rattle.tokens.specs.Walking.{Stepped, stepped}
use Rattle.tokens.specs.Walking.{Step}

pub number_done : (digits : List ℕ) (openings : ℕ) {c : ℕ} → char_number any_character digits ≡ Char c
    → number_outcome any_character digits openings ≡ done (encode c) openings
unfolding number_outcome
number_done digits openings e = rw e

module _ (digits : List ℕ) (next openings : ℕ) where
  -- the step at a character is that of its reference
  pub number_written : {c : ℕ} {old new : List ℕ} {r : Step} → char_number any_character digits ≡ Char c
      → Stepped next (done (encode c) openings) old new r → Stepped next (number_outcome any_character digits openings) old new r
  number_written e s = rw (number_done digits openings e) s

  -- what refuses the number is passed upward as it came
  pub number_refused : {e : ParseCharRefError} (old : List ℕ) → Err e ≡ read_as (char_number any_character digits)
      → Stepped next (number_outcome any_character digits openings) old old (stepped (Err (refusal_for e)))
  unfolding number_outcome numbered
  number_refused {e} old h =
      let n = char_number any_character digits in
      rw (sym (answers n) ∙ sym (ap answer_as h)) (record { answers = refl; writes = refl })

-- a character is at most four bytes, and opens nothing
abbrev pub Small : ℕ → Outcome → Type 0
Small openings (done value made) = (length value ≤ 4) × (made ≡ openings)
Small openings (refused before made number first second) = Unit {0}

pub number_small : (legal : ℕ → CharNumber) (digits : List ℕ) (openings : ℕ) → Small openings (number_outcome legal digits openings)
unfolding number_outcome
number_small legal digits openings = go (number_answer (char_number legal digits))
  where
    go : (a : Answer) → Small openings (numbered a openings)
    go (Done n second) = (encode_at_most n, refl)
    go (Refused number first second) = tt
