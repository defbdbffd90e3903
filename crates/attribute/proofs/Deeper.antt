-- An answer other than 16 is the answer at every greater depth: an accepted value is accepted with the same openings, and any other
-- refusal stays. Assumes nothing.
use mathlib.Core.Path.{◌≡◌}
use Prim.Native.Nat.{ℕ, zero, suc, ◌+◌}
use native.Mathlib.Nat.{zero-add, suc-add}
use mathlib.Core.Bool.{Bool, true, false}
use mathlib.Core.List.{List, [], ◌∷◌}
use lib.ListN.{length}
use lib.Dec.{eqb}
use Rattle.text.specs.Bytes.{pick, same_bytes}
use Rattle.entity.specs.Binding.{Bound, text, external, predefined, unknown}
use Rattle.tokens.specs.Tokens.{Stop, kept, space, number, named, unterminated, Heads, tokens}
use Rattle.tokens.specs.Outcome.{Outcome, done, refused, number_outcome}
use Rattle.tokens.proofs.Related.{Related, run_related, Keeps, keeps_related}
use Rattle.attribute.specs.Walk.{Settings, opened, answer, exhausted, walk}

-- ---- walks of replacement texts that are related

module _ (R : Outcome → Outcome → Type 0) (related : Related R) (st : Settings) where
  pub pick_related : (t : Bool) (o p q : Outcome) → R p q → R (pick t o p) (pick t o q)
  pick_related true o p q k = related.same o
  pick_related false o p q k = k

  module _ (f g : List ℕ → ℕ → Outcome) (h : (t : List ℕ) (n : ℕ) → R (f t n) (g t n)) where
    opened_related : (offset : ℕ) (name : List ℕ) (b : Bound) (n : ℕ) → R (opened st.limit f offset name b n) (opened st.limit g offset name b n)
    unfolding opened
    opened_related offset name (text t) n = pick_related (eqb n st.limit) (refused [] n 17 offset 0) (f t (suc n)) (g t (suc n)) (h t (suc n))
    opened_related offset name external n = related.same (refused [] n 27 offset 0)
    opened_related offset name (predefined t) n = h t n
    opened_related offset name unknown n = related.same (refused [] n 11 (suc offset) (suc offset + length name))

    pub answer_related : (s : Stop) (n : ℕ) → R (answer st f s n) (answer st g s n)
    unfolding answer
    answer_related (kept b) n = related.same (done (b ∷ []) n)
    answer_related space n = related.same (done (32 ∷ []) n)
    answer_related (number digits) n = related.same (number_outcome st.legal digits n)
    answer_related (named offset name) n =
        pick_related (same_bytes name (97 ∷ 109 ∷ 112 ∷ [])) (done (38 ∷ []) n) (opened st.limit f offset name (st.bind name) n) (opened st.limit g offset name (st.bind name) n)
        (opened_related offset name (st.bind name) n)
    answer_related (unterminated offset end) n = related.same (refused [] n 10 offset end)

-- ---- more depth

abbrev by16 : ℕ → Bool
by16 why = eqb why 16

exhausted_keeps : (f : Stop → ℕ → Outcome) (s : Stop) (n : ℕ) → Keeps by16 (exhausted s n) (f s n)
unfolding exhausted
exhausted_keeps f s n = tt

module _ (st : Settings) where
  one_deeper : (at : Heads) (depth : ℕ) (t : List ℕ) (n : ℕ) → Keeps by16 (walk st at depth t n) (walk st at (suc depth) t n)
  unfolding walk
  one_deeper at zero t n =
      run_related (Keeps by16) (keeps_related by16) exhausted (answer st (λ u m. walk st st.inner zero u m))
      (exhausted_keeps (answer st (λ u m. walk st st.inner zero u m))) (tokens at 0 0 t) n
  one_deeper at (suc depth) t n =
      run_related (Keeps by16) (keeps_related by16) (answer st (λ u m. walk st st.inner depth u m)) (answer st (λ u m. walk st st.inner (suc depth) u m))
      (answer_related (Keeps by16) (keeps_related by16) st (λ u m. walk st st.inner depth u m) (λ u m. walk st st.inner (suc depth) u m)
      (λ u m. one_deeper st.inner depth u m)) (tokens at 0 0 t) n

  -- A value accepted at one depth is accepted at every greater one, with the same bytes and openings.
  pub deeper_done : (at : Heads) (depth more : ℕ) (t value : List ℕ) (n openings : ℕ) → walk st at depth t n ≡ done value openings
      → walk st at (more + depth) t n ≡ done value openings
  deeper_done at depth zero t value n openings e = rw (zero-add depth) e
  deeper_done at depth (suc more) t value n openings e =
      rw (suc-add more depth) (rw (deeper_done at depth more t value n openings e) at (one_deeper at (more + depth) t n))

  -- A refusal other than 16 is the answer at every greater depth.
  pub deeper_refused : (at : Heads) (depth more : ℕ) (t before : List ℕ) (n m why first second : ℕ) → eqb why 16 ≡ false
      → walk st at depth t n ≡ refused before m why first second → walk st at (more + depth) t n ≡ refused before m why first second
  deeper_refused at depth zero t before n m why first second w e = rw (zero-add depth) e
  deeper_refused at depth (suc more) t before n m why first second w e =
      rw (suc-add more depth) (rw w at (rw (deeper_refused at depth more t before n m why first second w e) at (one_deeper at (more + depth) t n)))
