-- The value of a reference stays the same at another offset and after other openings, as long as these stay within the limit.
-- Assumes nothing.
use mathlib.Core.Path.{◌≡◌, refl}
use Prim.Native.Nat.{ℕ, zero, suc}
use mathlib.Core.Bool.{Bool, true, false}
use mathlib.Core.List.{List, [], ◌∷◌}
use lib.Dec.{eqb}
use borrow.Author.Tests.{eqb-true}
use Rattle.text.specs.Bytes.{pick, same_bytes}
use Rattle.entity.specs.Binding.{Bound, text, external, predefined, unknown}
use Rattle.tokens.specs.Tokens.{Stop, kept, space, number, named, unterminated, Heads, tokens}
use Rattle.tokens.specs.Outcome.{Outcome, done, refused}
use Rattle.tokens.proofs.Moved.{Moved, moved_still, moved_opening, moved_over, run_moved, number_moved}
use Rattle.attribute.specs.Walk.{Settings, opened, answer, exhausted, walk}

module _ (st : Settings) where
  pick_moved : (t : Bool) (m n : ℕ) (o p : Outcome) (value : List ℕ) → Moved st.limit m n o p
      → Moved st.limit m n (pick t (done value m) o) (pick t (done value n) p)
  pick_moved true m n o p value h = moved_still st.limit m n value
  pick_moved false m n o p value h = h

  -- ---- one stop

  module _ (walked : List ℕ → ℕ → Outcome) (h : (t : List ℕ) (m n : ℕ) → Moved st.limit m n (walked t m) (walked t n)) where
    text_moved : (i j : ℕ) (t : List ℕ) (m n : ℕ) (a b : Bool) → eqb n st.limit ≡ b
        → Moved st.limit m n (pick a (refused [] m 17 i 0) (walked t (suc m))) (pick b (refused [] n 17 j 0) (walked t (suc n)))
    text_moved i j t m n true b e = tt
    text_moved i j t m n false true e =
        moved_over st.limit m n (walked t (suc m)) (walked t (suc n)) (refused [] n 17 j 0) (eqb-true n st.limit e) (h t (suc m) (suc n))
    text_moved i j t m n false false e = moved_opening st.limit m n (walked t (suc m)) (walked t (suc n)) (h t (suc m) (suc n))

    opened_moved : (i j : ℕ) (name : List ℕ) (b : Bound) (m n : ℕ)
        → Moved st.limit m n (opened st.limit walked i name b m) (opened st.limit walked j name b n)
    unfolding opened
    opened_moved i j name (text t) m n = text_moved i j t m n (eqb m st.limit) (eqb n st.limit) refl
    opened_moved i j name external m n = tt
    opened_moved i j name (predefined t) m n = h t m n
    opened_moved i j name unknown m n = tt

    named_moved : (i j : ℕ) (name : List ℕ) (m n : ℕ) → Moved st.limit m n (answer st walked (named i name) m) (answer st walked (named j name) n)
    unfolding answer
    named_moved i j name m n =
        pick_moved (same_bytes name (97 ∷ 109 ∷ 112 ∷ [])) m n (opened st.limit walked i name (st.bind name) m)
        (opened st.limit walked j name (st.bind name) n) (38 ∷ []) (opened_moved i j name (st.bind name) m n)

    answer_moved : (s : Stop) (m n : ℕ) → Moved st.limit m n (answer st walked s m) (answer st walked s n)
    unfolding answer
    answer_moved (kept b) m n = moved_still st.limit m n (b ∷ [])
    answer_moved space m n = moved_still st.limit m n (32 ∷ [])
    answer_moved (number digits) m n = number_moved st.limit st.legal digits m n
    answer_moved (named offset name) m n = named_moved offset offset name m n
    answer_moved (unterminated offset end) m n = tt

  -- ---- down the depth

  exhausted_moved : (s : Stop) (m n : ℕ) → Moved st.limit m n (exhausted s m) (exhausted s n)
  unfolding exhausted
  exhausted_moved s m n = tt

  pub walk_moved : (at : Heads) (depth : ℕ) (t : List ℕ) (m n : ℕ) → Moved st.limit m n (walk st at depth t m) (walk st at depth t n)
  unfolding walk
  walk_moved at zero t m n = run_moved st.limit exhausted exhausted_moved (tokens at 0 0 t) m n
  walk_moved at (suc depth) t m n =
      run_moved st.limit (answer st (λ u a. walk st st.inner depth u a))
      (answer_moved (λ u a. walk st st.inner depth u a) (λ u a b. walk_moved st.inner depth u a b)) (tokens at 0 0 t) m n
