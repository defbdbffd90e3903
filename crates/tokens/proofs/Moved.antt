-- A value stays the same after other openings: two runs of the same tokens, one after m openings and one after n, give the same value
-- and make as many openings, as long as these stay within the limit. Assumes nothing.
use mathlib.Core.Path.{◌≡◌, ap, subst, ◌∙◌}
use Prim.Native.Nat.{ℕ, suc, ◌+◌, ◌-◌, ◌≤◌}
use native.Mathlib.Omega.{arith}
use mathlib.Core.List.{List, [], ◌∷◌, ◌++◌}
use Rattle.text.specs.Answers.{Answer}
use Rattle.text.specs.Answers.{Done, Refused}
use Rattle.charref.specs.CharRef.{char_number, number_answer, encode}
use Rattle.charref.specs.CharNumbers.{CharNumber}
use Rattle.tokens.specs.Tokens.{Stop, number, named, unterminated, Token, copy, stop, barred}
use Rattle.tokens.specs.Outcome.{Outcome, done, refused, prepend, followed, run, numbered, number_outcome}
use Rattle.tokens.specs.Seen.{Shifts}

-- the outcome after m openings, and that after n
abbrev pub Moved : (limit m n : ℕ) → Outcome → Outcome → Type 0
Moved limit m n (done value made) p = (m ≤ made) × (n + (made - m) ≤ limit → p ≡ done value (n + (made - m)))
Moved limit m n (refused before made why first second) p = Unit {0}

pub refused_done : (before value : List ℕ) (m why first second n : ℕ) → refused before m why first second ≡ done value n → ⊥
refused_done before value m why first second n e =
    let z : ◌≡◌ {A = ℕ} 0 1 = cc in
    absurd (omega arith)

module _ (limit : ℕ) where
  -- no opening is made
  pub moved_still : (m n : ℕ) (value : List ℕ) → Moved limit m n (done value m) (done value n)
  moved_still m n value = (omega arith, λ l. ap (done value) (omega arith))

  -- one opening is made before
  pub moved_opening : (m n : ℕ) (o p : Outcome) → Moved limit (suc m) (suc n) o p → Moved limit m n o p
  moved_opening m n (done value made) p h = (omega arith, λ l. h.1 (omega arith) ∙ ap (done value) (omega arith))
  moved_opening m n (refused before made why first second) p h = tt

  -- where that is one too many, nothing is said
  pub moved_over : (m n : ℕ) (o p q : Outcome) → n ≡ limit → Moved limit (suc m) (suc n) o p → Moved limit m n o q
  moved_over m n (done value made) p q e h = (omega arith, λ l. absurd (omega arith))
  moved_over m n (refused before made why first second) p q e h = tt

  -- ---- along a run

  moved_after : (m n made : ℕ) (value : List ℕ) (o p : Outcome) (g : ℕ → Outcome) → Moved limit m n (done value made) p
      → Moved limit made (n + (made - m)) o (g (n + (made - m))) → Moved limit m n (prepend value o) (followed p g)
  moved_after m n made value (done rest more) p g e h =
      (omega arith, λ l. ap (λ (q : Outcome). followed q g) (e.1 (omega arith)) ∙ ap (prepend value) (h.1 (omega arith)) ∙ ap (done (value ++ rest)) (omega arith))
  moved_after m n made value (refused before more why first second) p g e h = tt

  pub moved_joined : (m n : ℕ) (o p : Outcome) (f g : ℕ → Outcome) → Moved limit m n o p → ((a b : ℕ) → Moved limit a b (f a) (g b))
      → Moved limit m n (followed o f) (followed p g)
  moved_joined m n (done value made) p f g h k = moved_after m n made value (f made) p g h (k made (n + (made - m)))
  moved_joined m n (refused before made why first second) p f g h k = tt

  pub run_moved : (f : Stop → ℕ → Outcome) → ((s : Stop) (m n : ℕ) → Moved limit m n (f s m) (f s n))
      → (ts : List Token) (m n : ℕ) → Moved limit m n (run f ts m) (run f ts n)
  unfolding run
  run_moved f h [] m n = moved_still m n []
  run_moved f h (copy b ∷ ts) m n =
      moved_joined m n (done (b ∷ []) m) (done (b ∷ []) n) (λ a. run f ts a) (λ a. run f ts a) (moved_still m n (b ∷ [])) (λ a c. run_moved f h ts a c)
  run_moved f h (stop s ∷ ts) m n =
      moved_joined m n (f s m) (f s n) (λ a. run f ts a) (λ a. run f ts a) (h s m n) (λ a c. run_moved f h ts a c)
  run_moved f h (barred o ∷ ts) m n = tt

  -- ---- character numbers

  numbered_moved : (a : Answer) (m n : ℕ) → Moved limit m n (numbered a m) (numbered a n)
  unfolding numbered
  numbered_moved (Done c second) m n = moved_still m n (encode c)
  numbered_moved (Refused why first second) m n = tt

  pub number_moved : (legal : ℕ → CharNumber) (digits : List ℕ) (m n : ℕ) → Moved limit m n (number_outcome legal digits m) (number_outcome legal digits n)
  unfolding number_outcome
  number_moved legal digits m n = numbered_moved (number_answer (char_number legal digits)) m n

  -- ---- what is said of values

  moved_value : (m n k : ℕ) (value : List ℕ) (o p : Outcome) → Moved limit m n o p → o ≡ done value (m + k) → n + k ≤ limit → p ≡ done value (n + k)
  moved_value m n k value o p h e l =
      let q : Moved limit m n (done value (m + k)) p = subst (λ (x : Outcome). Moved limit m n x p) e h in
      q.1 (omega arith) ∙ ap (done value) (omega arith)

  pub moved_shifts : (f : Stop → ℕ → Outcome) → ((digits : List ℕ) (m n : ℕ) → Moved limit m n (f (number digits) m) (f (number digits) n))
      → ((i j : ℕ) (name : List ℕ) (m n : ℕ) → Moved limit m n (f (named i name) m) (f (named j name) n))
      → ((i e m n : ℕ) (value : List ℕ) → f (unterminated i e) m ≡ done value n → ⊥) → Shifts limit f
  moved_shifts f numbers names unended =
      record {
        numbers = λ digits value m n k e l. moved_value m n k value (f (number digits) m) (f (number digits) n) (numbers digits m n) e l;
        names = λ i j name value m n k e l. moved_value m n k value (f (named i name) m) (f (named j name) n) (names i j name m n) e l;
        unended = unended;
      }
