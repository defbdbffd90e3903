-- K13 of the least depth: at a smaller depth no name is looked up that is not looked up at a greater one (`names_down`), and the least depth is
-- told by the outcomes up to depth 128 (`least_same`). Assumes nothing.
use mathlib.Core.Path.{◌≡◌, refl, ap, subst, ◌∙◌}
use Prim.Native.Nat.{ℕ, zero, suc, ◌+◌, ◌-◌, ◌≤◌, ◌<◌}
use native.Mathlib.Omega.{arith}
use native.Mathlib.Nat.{zero-add, suc-add}
use mathlib.Core.Bool.{Bool, true, false}
use mathlib.Core.List.{List, [], ◌∷◌, ◌++◌}
use lib.Dec.{eqb}
use Rattle.text.specs.Bytes.{pick, same_bytes}
use Rattle.entity.specs.Binding.{Bound, text, external, predefined, unknown}
use Rattle.tokens.specs.Tokens.{Stop, kept, space, number, named, unterminated, Token, copy, stop, barred, Heads, tokens}
use Rattle.tokens.specs.Outcome.{Outcome, done, refused}
use Rattle.tokens.specs.Lookups.{unless_refused, lookups, Each}
use Rattle.tokens.proofs.Lookups.{each_left, each_right}
use Rattle.tokens.proofs.Related.{Keeps, keeps_related}
use Rattle.attribute.specs.Walk.{Settings, answer, walk, normalize}
use Rattle.attribute.specs.LookedUp.{names_inside, names_at, walk_names, looked_up}
use Rattle.attribute.proofs.Deeper.{answer_related, deeper_done}
use Rattle.walk_depths.specs.LeastDepth.{used_up, first_not, least_of, least_depth}

-- what is done stays, whatever a refusal becomes
abbrev refusal : ℕ → Bool
refusal why = true

stays_done : (s : Settings) (at : Heads) (depth : ℕ) (t : List ℕ) (n : ℕ) → Keeps refusal (walk s at depth t n) (walk s at (suc depth) t n)
stays_done s at depth t n = go (walk s at depth t n) refl
  where
    go : (o : Outcome) → walk s at depth t n ≡ o → Keeps refusal o (walk s at (suc depth) t n)
    go (done value m) e = subst (λ (k : ℕ). walk s at k t n ≡ done value m) (omega arith) (deeper_done s at depth 1 t value n m e)
    go (refused before m why first second) e = tt

module _ (P : List ℕ → Type 0) where
  each_joined : (xs ys : List (List ℕ)) → Each P xs → Each P ys → Each P (xs ++ ys)
  each_joined [] ys h k = k
  each_joined (x ∷ xs) ys h k = (h.0, each_joined xs ys h.1 k)

  -- where the second run goes on wherever the first does, and asks at each stop for all that the first asks for
  module _ (f g : Stop → ℕ → Outcome) (asked also : Stop → ℕ → List (List ℕ)) (stays : (x : Stop) (n : ℕ) → Keeps refusal (f x n) (g x n))
      (here : (x : Stop) (n : ℕ) → Each P (also x n) → Each P (asked x n)) where
    after_stop : (o p : Outcome) (xs ys : ℕ → List (List ℕ)) → Keeps refusal o p → ((n : ℕ) → Each P (ys n) → Each P (xs n))
        → Each P (unless_refused p ys) → Each P (unless_refused o xs)
    after_stop (done value n) p xs ys k h e = h n (subst (λ (o : Outcome). Each P (unless_refused o ys)) k e)
    after_stop (refused before n why first second) p xs ys k h e = tt

    lookups_fewer : (ts : List Token) (n : ℕ) → Each P (lookups g also ts n) → Each P (lookups f asked ts n)
    unfolding lookups
    lookups_fewer [] n e = tt
    lookups_fewer (copy b ∷ ts) n e = lookups_fewer ts n e
    lookups_fewer (stop x ∷ ts) n e =
        let later = unless_refused (g x n) (λ m. lookups g also ts m) in
        each_joined (asked x n) (unless_refused (f x n) (λ m. lookups f asked ts m)) (here x n (each_left P (also x n) later e))
        (after_stop (f x n) (g x n) (λ m. lookups f asked ts m) (λ m. lookups g also ts m) (stays x n) (λ m h. lookups_fewer ts m h)
        (each_right P (also x n) later e))
    lookups_fewer (barred offset ∷ ts) n e = tt

  module _ (s : Settings) where
    module _ (names others : List ℕ → ℕ → List (List ℕ)) (h : (u : List ℕ) (n : ℕ) → Each P (others u n) → Each P (names u n)) where
      inside_fewer : (b : Bound) (n : ℕ) → Each P (names_inside s.limit others b n) → Each P (names_inside s.limit names b n)
      unfolding names_inside
      inside_fewer (text t) n e = go (eqb n s.limit) e
        where
          go : (full : Bool) → Each P (pick full [] (others t (suc n))) → Each P (pick full [] (names t (suc n)))
          go true q = tt
          go false q = h t (suc n) q
      inside_fewer external n e = tt
      inside_fewer (predefined t) n e = h t n e
      inside_fewer unknown n e = tt

      stop_fewer : (x : Stop) (n : ℕ) → Each P (names_at s others x n) → Each P (names_at s names x n)
      unfolding names_at
      stop_fewer (kept b) n e = tt
      stop_fewer space n e = tt
      stop_fewer (number digits) n e = tt
      stop_fewer (named offset name) n e = go (same_bytes name (97 ∷ 109 ∷ 112 ∷ [])) e
        where
          go : (amp : Bool) → Each P (pick amp [] (name ∷ names_inside s.limit others (s.bind name) n)) → Each P (pick amp [] (name ∷ names_inside s.limit names (s.bind name) n))
          go true q = tt
          go false q = (q.0, inside_fewer (s.bind name) n q.1)
      stop_fewer (unterminated offset end) n e = tt

    -- one depth less
    names_less : (at : Heads) (depth : ℕ) (t : List ℕ) (n : ℕ) → Each P (walk_names s at (suc depth) t n) → Each P (walk_names s at depth t n)
    unfolding walk_names
    names_less at zero t n e = tt
    names_less at (suc depth) t n e =
        lookups_fewer (answer s (λ u m. walk s s.inner depth u m)) (answer s (λ u m. walk s s.inner (suc depth) u m))
        (names_at s (λ u m. walk_names s s.inner depth u m)) (names_at s (λ u m. walk_names s s.inner (suc depth) u m))
        (answer_related (Keeps refusal) (keeps_related refusal) s (λ u m. walk s s.inner depth u m) (λ u m. walk s s.inner (suc depth) u m)
        (λ u m. stays_done s s.inner depth u m))
        (stop_fewer (λ u m. walk_names s s.inner depth u m) (λ u m. walk_names s s.inner (suc depth) u m) (λ u m q. names_less s.inner depth u m q))
        (tokens at 0 0 t) n e

    names_below : (at : Heads) (depth more : ℕ) (t : List ℕ) (n : ℕ) → Each P (walk_names s at (more + depth) t n) → Each P (walk_names s at depth t n)
    names_below at depth zero t n e = rw (zero-add depth) at e
    names_below at depth (suc more) t n e = names_below at depth more t n (names_less at (more + depth) t n (rw (suc-add more depth) at e))

    -- what holds of each name that a value's reading looks up holds of those that it looks up at a smaller depth
    pub names_down : (t : List ℕ) (depth less : ℕ) → less ≤ depth → Each P (looked_up s depth t) → Each P (looked_up s less t)
    unfolding looked_up
    names_down t depth less h e =
        let sum : depth ≡ (depth - less) + less = omega (arith, h) in
        names_below s.outer less (depth - less) t 0 (subst (λ (k : ℕ). Each P (walk_names s s.outer k t 0)) sum e)

-- ---- the least depth is told by the outcomes from 0 to 128

first_same : (so also : ℕ → Bool) (count from : ℕ) → ((e : ℕ) → from ≤ e → e < from + count → so e ≡ also e) → first_not so from count ≡ first_not also from count
unfolding first_not
first_same so also zero from h = refl
first_same so also (suc count) from h =
    let later = first_same so also count (suc from) (λ e l k. h e (omega (arith, l)) (omega (arith, k))) in
    ap (λ (b : Bool). pick b (first_not so (suc from) count) from) (h from (omega arith) (omega arith))
    ∙ ap (λ (n : ℕ). pick (also from) n from) later

pub least_same : (s also : Settings) (t : List ℕ) → ((e : ℕ) → e ≤ 128 → normalize s e t ≡ normalize also e t) → least_depth s t ≡ least_depth also t
unfolding least_depth
least_same s also t h =
    ap (least_of (first_not (λ e. used_up (normalize s e t)) 0 129)) (h 128 (omega arith))
    ∙ ap (λ (n : ℕ). least_of n (normalize also 128 t))
    (first_same (λ e. used_up (normalize s e t)) (λ e. used_up (normalize also e t)) 129 0 (λ e l k. ap used_up (h e (omega (arith, k)))))
