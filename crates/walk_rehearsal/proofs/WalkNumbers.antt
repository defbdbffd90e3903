-- Every refusal of the walk has a number from 10 to 27 other than 19 (`normalize_numbered`). Assumes nothing.
use mathlib.Core.Path.{◌≡◌, refl}
use mathlib.Core.Bool.{false}
use mathlib.Core.List.{List, [], ◌∷◌}
use Prim.Native.Nat.{ℕ, zero, suc, ◌≤◌}
use native.Mathlib.Omega.{arith}
use lib.Dec.{eqb}
use Rattle.text.specs.Bytes.{same_bytes}
use Rattle.text.proofs.Bytes.{pick_both}
use Rattle.charref.specs.CharRef.{char_number, number_answer}
use Rattle.charref.specs.CharNumbers.{CharNumber}
use Rattle.charref.specs.CharNumbers.{Char, UnexpectedSign, InvalidNumber, InvalidCodepoint, IllegalCharacter, Forbidden}
use Rattle.entity.specs.Binding.{Bound, text, external, predefined, unknown}
use Rattle.tokens.specs.Tokens.{Stop, kept, space, number, named, unterminated, Token, copy, stop, barred, Heads, tokens}
use Rattle.tokens.specs.Outcome.{Outcome, done, refused, prepend, followed, run, numbered, number_outcome}
use Rattle.attribute.specs.Walk.{Settings, opened, answer, exhausted, walk, normalize}

-- a number of the walk
pub record WalkNumber (why : ℕ) : Type 0 where
  pub from : 10 ≤ why
  pub upto : why ≤ 27
  pub roomy : eqb why 19 ≡ false

abbrev pub Numbered : Outcome → Type 0
Numbered (done value m) = Unit {0}
Numbered (refused before m why first second) = WalkNumber why

numbered_prepend : (front : List ℕ) (o : Outcome) → Numbered o → Numbered (prepend front o)
numbered_prepend front (done value m) h = tt
numbered_prepend front (refused before m why first second) h = h

numbered_then : (o : Outcome) (k : ℕ → Outcome) → Numbered o → ((m : ℕ) → Numbered (k m)) → Numbered (followed o k)
numbered_then (done value m) k h g = numbered_prepend value (k m) (g m)
numbered_then (refused before m why first second) k h g = h

numbered_run : (f : Stop → ℕ → Outcome) → ((x : Stop) (n : ℕ) → Numbered (f x n)) → (ts : List Token) (n : ℕ) → Numbered (run f ts n)
unfolding run
numbered_run f h [] n = tt
numbered_run f h (copy b ∷ ts) n = numbered_prepend (b ∷ []) (run f ts n) (numbered_run f h ts n)
numbered_run f h (stop x ∷ ts) n = numbered_then (f x n) (λ m. run f ts m) (h x n) (λ m. numbered_run f h ts m)
numbered_run f h (barred offset ∷ ts) n = record { from = omega arith; upto = omega arith; roomy = refl }

numbered_char : (c : CharNumber) (n : ℕ) → Numbered (numbered (number_answer c) n)
unfolding numbered number_answer
numbered_char (Char c) n = tt
numbered_char UnexpectedSign n = record { from = omega arith; upto = omega arith; roomy = refl }
numbered_char InvalidNumber n = record { from = omega arith; upto = omega arith; roomy = refl }
numbered_char (InvalidCodepoint c) n = record { from = omega arith; upto = omega arith; roomy = refl }
numbered_char IllegalCharacter n = record { from = omega arith; upto = omega arith; roomy = refl }
numbered_char Forbidden n = record { from = omega arith; upto = omega arith; roomy = refl }

numbered_opened : (limit : ℕ) (walked : List ℕ → ℕ → Outcome) → ((t : List ℕ) (n : ℕ) → Numbered (walked t n)) → (offset : ℕ) (name : List ℕ) (b : Bound) (n : ℕ)
    → Numbered (opened limit walked offset name b n)
unfolding opened
numbered_opened limit walked h offset name (text t) n =
    pick_both Numbered (eqb n limit) {a = refused [] n 17 offset 0} (record { from = omega arith; upto = omega arith; roomy = refl }) (h t (suc n))
numbered_opened limit walked h offset name external n = record { from = omega arith; upto = omega arith; roomy = refl }
numbered_opened limit walked h offset name (predefined t) n = h t n
numbered_opened limit walked h offset name unknown n = record { from = omega arith; upto = omega arith; roomy = refl }

numbered_answer : (s : Settings) (walked : List ℕ → ℕ → Outcome) → ((t : List ℕ) (n : ℕ) → Numbered (walked t n)) → (x : Stop) (n : ℕ) → Numbered (answer s walked x n)
unfolding answer number_outcome
numbered_answer s walked h (kept b) n = tt
numbered_answer s walked h space n = tt
numbered_answer s walked h (number digits) n = numbered_char (char_number s.legal digits) n
numbered_answer s walked h (named offset name) n =
    pick_both Numbered (same_bytes name (97 ∷ 109 ∷ 112 ∷ [])) {a = done (38 ∷ []) n} tt (numbered_opened s.limit walked h offset name (s.bind name) n)
numbered_answer s walked h (unterminated offset end) n = record { from = omega arith; upto = omega arith; roomy = refl }

numbered_none : (x : Stop) (n : ℕ) → Numbered (exhausted x n)
unfolding exhausted
numbered_none x n = record { from = omega arith; upto = omega arith; roomy = refl }

numbered_walk : (s : Settings) (at : Heads) (depth : ℕ) (t : List ℕ) (n : ℕ) → Numbered (walk s at depth t n)
unfolding walk
numbered_walk s at zero t n = numbered_run exhausted numbered_none (tokens at 0 0 t) n
numbered_walk s at (suc depth) t n = numbered_run _ (numbered_answer s _ (λ u m. numbered_walk s s.inner depth u m)) (tokens at 0 0 t) n

pub normalize_numbered : (s : Settings) (depth : ℕ) (t : List ℕ) → Numbered (normalize s depth t)
unfolding normalize
normalize_numbered s depth t = numbered_walk s s.outer depth t 0
