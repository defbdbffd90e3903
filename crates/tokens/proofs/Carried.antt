-- What is said of outcomes, carried from token to token: if each answer has it, every run has it. Stated once; lengths, UTF-8 and
-- openings are instances. Assumes nothing.
use mathlib.Core.Path.{◌≡◌, refl}
use Prim.Native.Nat.{ℕ, zero, suc}
use mathlib.Core.List.{List, [], ◌∷◌}
use lib.ListN.{drop}
use Rattle.charref.specs.CharRef.{char_number, number_answer, encode}
use Rattle.charref.specs.CharNumbers.{CharNumber}
use Rattle.charref.specs.CharNumbers.{Char, UnexpectedSign, InvalidNumber, InvalidCodepoint, IllegalCharacter, Forbidden}
use Rattle.tokens.specs.Tokens.{Stop, kept, space, number, Token, copy, stop, barred, Head, head, token_of, skip_of, Heads, tokens}
use Rattle.tokens.specs.Outcome.{Outcome, done, refused, followed, run, numbered, number_outcome}

-- A reader of the text stands at a place, each token leads it to another, and `Holds x y n o` says what is to be said of the outcome
-- `o` of the bytes between two places, with `n` openings before it.
pub record Carried (legal : ℕ → CharNumber) : Type 1 where
  pub Place : Type 0
  pub end : Place
  pub Stands : Place → List ℕ → Type 0
  pub Leads : Place → Token → Place → Type 0
  pub Holds : Place → Place → ℕ → Outcome → Type 0
  pub nothing : (x : Place) → Stands x [] → (n : ℕ) → Holds x end n (done [] n)
  pub refusal : (x y : Place) (n why first second : ℕ) → Holds x y n (refused [] n why first second)
  pub joined : (x y z : Place) (n : ℕ) (o : Outcome) (rest : ℕ → Outcome) → Holds x y n o → ((m : ℕ) → Holds y z m (rest m)) → Holds x z n (followed o rest)
  pub copies : (x y : Place) (b : ℕ) → Leads x (copy b) y → (n : ℕ) → Holds x y n (done (b ∷ []) n)
  pub keeps : (x y : Place) (b : ℕ) → Leads x (stop (kept b)) y → (n : ℕ) → Holds x y n (done (b ∷ []) n)
  pub spaces : (x y : Place) → Leads x (stop space) y → (n : ℕ) → Holds x y n (done (32 ∷ []) n)
  pub numbers : (x y : Place) (digits : List ℕ) (c : ℕ) → Leads x (stop (number digits)) y → char_number legal digits ≡ Char c
      → (n : ℕ) → Holds x y n (done (encode c) n)

module _ {legal : ℕ → CharNumber} (C : Carried legal) where
  -- where the token leads, and that the reader stands there before the bytes after it
  pub record Onward (x : C.Place) (t : Token) (rest : List ℕ) : Type 0 where
    pub to : C.Place
    pub leads : C.Leads x t to
    pub stands : C.Stands to rest

  abbrev pub Moves : C.Place → List ℕ → Head → Type 0
  Moves x bs (head t skip) = Onward x t (drop skip bs)

  -- every head moves the reader onward
  abbrev pub Moving : Heads → Type 0
  Moving at = (x : C.Place) (offset b : ℕ) (bs : List ℕ) → C.Stands x (b ∷ bs) → Moves x bs (at offset b bs)

  -- every answer has it
  abbrev pub Answering : (Stop → ℕ → Outcome) → Type 0
  Answering f = (x y : C.Place) (s : Stop) → C.Leads x (stop s) y → (n : ℕ) → C.Holds x y n (f s n)

  -- a text walked by `walked` has it, wherever the reader stands before it
  abbrev pub Walked : (List ℕ → ℕ → Outcome) → Type 0
  Walked walked = (x : C.Place) (t : List ℕ) → C.Stands x t → (n : ℕ) → C.Holds x C.end n (walked t n)

  token_carried : (f : Stop → ℕ → Outcome) → Answering f → (x y : C.Place) (t : Token) → C.Leads x t y
      → (ts : List Token) → ((n : ℕ) → C.Holds y C.end n (run f ts n)) → (n : ℕ) → C.Holds x C.end n (run f (t ∷ ts) n)
  unfolding run
  token_carried f a x y (copy b) l ts h n = C.joined x y C.end n (done (b ∷ []) n) (λ m. run f ts m) (C.copies x y b l n) h
  token_carried f a x y (stop s) l ts h n = C.joined x y C.end n (f s n) (λ m. run f ts m) (a x y s l n) h
  token_carried f a x y (barred o) l ts h n = C.refusal x C.end n 26 o 0

  -- the tokens of a text, after `skip` bytes
  pub run_carried : (at : Heads) → Moving at → (f : Stop → ℕ → Outcome) → Answering f
      → (t : List ℕ) (x : C.Place) (offset skip : ℕ) → C.Stands x (drop skip t) → (n : ℕ) → C.Holds x C.end n (run f (tokens at offset skip t) n)
  unfolding tokens run
  run_carried at g f a [] x offset zero h n = C.nothing x h n
  run_carried at g f a [] x offset (suc skip) h n = C.nothing x h n
  run_carried at g f a (b ∷ bs) x offset (suc skip) h n = run_carried at g f a bs x (suc offset) skip h n
  run_carried at g f a (b ∷ bs) x offset zero h n =
      go (at offset b bs) (g x offset b bs h) (λ y skip k m. run_carried at g f a bs y (suc offset) skip k m)
    where
      go : (z : Head) → Moves x bs z
          → ((y : C.Place) (skip : ℕ) → C.Stands y (drop skip bs) → (m : ℕ) → C.Holds y C.end m (run f (tokens at (suc offset) skip bs) m))
          → C.Holds x C.end n (run f (token_of z ∷ tokens at (suc offset) (skip_of z) bs) n)
      go (head t skip) o ih = token_carried f a x o.to t o.leads (tokens at (suc offset) skip bs) (λ m. ih o.to skip o.stands m) n

  -- the answer to a character number
  pub number_carried : (x y : C.Place) (digits : List ℕ) → C.Leads x (stop (number digits)) y → (n : ℕ) → C.Holds x y n (number_outcome legal digits n)
  unfolding number_outcome
  number_carried x y digits l n = go (char_number legal digits) refl
    where
      go : (c : CharNumber) → char_number legal digits ≡ c → C.Holds x y n (numbered (number_answer c) n)
      go (Char c) e = C.numbers x y digits c l e n
      go UnexpectedSign e = C.refusal x y n 12 0 0
      go InvalidNumber e = C.refusal x y n 13 0 0
      go (InvalidCodepoint c) e = C.refusal x y n 14 c 0
      go IllegalCharacter e = C.refusal x y n 15 0 0
      go Forbidden e = C.refusal x y n 25 0 0
