-- Every refusal by 16 has the words 0, 0 (`walk_zeros`, `normalize_zeros`). Assumes nothing.
use mathlib.Core.Path.{◌≡◌, refl}
use mathlib.Core.Bool.{Bool, true, false}
use mathlib.Core.List.{List, [], ◌∷◌, ◌++◌}
use Prim.Native.Nat.{ℕ, zero, suc}
use native.Mathlib.Omega.{arith}
use lib.Dec.{eqb}
use Rattle.text.specs.Bytes.{pick, same_bytes}
use Rattle.charref.specs.CharRef.{char_number, number_answer}
use Rattle.charref.specs.CharNumbers.{CharNumber}
use Rattle.charref.specs.CharNumbers.{Char, UnexpectedSign, InvalidNumber, InvalidCodepoint, IllegalCharacter, Forbidden}
use Rattle.entity.specs.Binding.{Bound, text, external, predefined, unknown}
use Rattle.tokens.specs.Tokens.{Stop, kept, space, number, named, unterminated, Token, copy, stop, barred, Heads, tokens}
use Rattle.tokens.specs.Outcome.{Outcome, done, refused, prepend, followed, run, numbered, number_outcome}
use Rattle.attribute.specs.Walk.{Settings, opened, answer, exhausted, walk, normalize}

abbrev pub Zeros : Outcome → Type 0
Zeros (done value m) = Unit {0}
Zeros (refused before m why first second) = why ≡ 16 → (first ≡ 0) × (second ≡ 0)

prepend_zeros : (front : List ℕ) (o : Outcome) → Zeros o → Zeros (prepend front o)
prepend_zeros front (done value m) z = tt
prepend_zeros front (refused before m why first second) z = z

followed_zeros : (o : Outcome) (k : ℕ → Outcome) → Zeros o → ((m : ℕ) → Zeros (k m)) → Zeros (followed o k)
followed_zeros (done value m) k z h = prepend_zeros value (k m) (h m)
followed_zeros (refused before m why first second) k z h = z

run_zeros : (f : Stop → ℕ → Outcome) → ((x : Stop) (n : ℕ) → Zeros (f x n)) → (ts : List Token) (n : ℕ) → Zeros (run f ts n)
unfolding run
run_zeros f h [] n = tt
run_zeros f h (copy b ∷ ts) n = prepend_zeros (b ∷ []) (run f ts n) (run_zeros f h ts n)
run_zeros f h (stop x ∷ ts) n = followed_zeros (f x n) (λ m. run f ts m) (h x n) (λ m. run_zeros f h ts m)
run_zeros f h (barred o ∷ ts) n = λ e. absurd (omega (arith, e))

number_zeros : (c : CharNumber) (n : ℕ) → Zeros (numbered (number_answer c) n)
unfolding numbered number_answer
number_zeros (Char m) n = tt
number_zeros UnexpectedSign n = λ e. absurd (omega (arith, e))
number_zeros InvalidNumber n = λ e. absurd (omega (arith, e))
number_zeros (InvalidCodepoint m) n = λ e. absurd (omega (arith, e))
number_zeros IllegalCharacter n = λ e. absurd (omega (arith, e))
number_zeros Forbidden n = λ e. absurd (omega (arith, e))

pick_zeros : (b : Bool) (o p : Outcome) → Zeros o → Zeros p → Zeros (pick b o p)
pick_zeros true o p z w = z
pick_zeros false o p z w = w

opened_zeros : (limit : ℕ) (walked : List ℕ → ℕ → Outcome) → ((u : List ℕ) (n : ℕ) → Zeros (walked u n)) → (offset : ℕ) (name : List ℕ) (b : Bound) (n : ℕ)
    → Zeros (opened limit walked offset name b n)
unfolding opened
opened_zeros limit walked h offset name (text t) n =
    pick_zeros (eqb n limit) (refused [] n 17 offset 0) (walked t (suc n)) (λ e. absurd (omega (arith, e))) (h t (suc n))
opened_zeros limit walked h offset name external n = λ e. absurd (omega (arith, e))
opened_zeros limit walked h offset name (predefined t) n = h t n
opened_zeros limit walked h offset name unknown n = λ e. absurd (omega (arith, e))

answer_zeros : (s : Settings) (walked : List ℕ → ℕ → Outcome) → ((u : List ℕ) (n : ℕ) → Zeros (walked u n)) → (x : Stop) (n : ℕ) → Zeros (answer s walked x n)
unfolding answer number_outcome
answer_zeros s walked h (kept b) n = tt
answer_zeros s walked h space n = tt
answer_zeros s walked h (number digits) n = number_zeros (char_number s.legal digits) n
answer_zeros s walked h (named offset name) n =
    pick_zeros (same_bytes name (97 ∷ 109 ∷ 112 ∷ [])) (done (38 ∷ []) n) (opened s.limit walked offset name (s.bind name) n) tt
    (opened_zeros s.limit walked h offset name (s.bind name) n)
answer_zeros s walked h (unterminated offset end) n = λ e. absurd (omega (arith, e))

exhausted_zeros : (x : Stop) (n : ℕ) → Zeros (exhausted x n)
unfolding exhausted
exhausted_zeros x n = λ e. (refl, refl)

pub walk_zeros : (s : Settings) (at : Heads) (depth : ℕ) (t : List ℕ) (n : ℕ) → Zeros (walk s at depth t n)
unfolding walk
walk_zeros s at zero t n = run_zeros exhausted exhausted_zeros (tokens at 0 0 t) n
walk_zeros s at (suc depth) t n =
    run_zeros (answer s (λ u m. walk s s.inner depth u m)) (answer_zeros s (λ u m. walk s s.inner depth u m) (λ u m. walk_zeros s s.inner depth u m)) (tokens at 0 0 t) n

pub normalize_zeros : (s : Settings) (depth : ℕ) (t : List ℕ) → Zeros (normalize s depth t)
unfolding normalize
normalize_zeros s depth t = walk_zeros s s.outer depth t 0
