-- What is said of outcomes, carried along every walk: if a name's text has it where it is opened, every walk has it. Assumes nothing.
use mathlib.Core.Path.{◌≡◌, refl}
use Prim.Native.Nat.{ℕ, zero, suc, ◌+◌}
use mathlib.Core.Bool.{false}
use mathlib.Core.List.{List, [], ◌∷◌}
use lib.ListN.{length}
use lib.Dec.{eqb}
use Rattle.text.specs.Bytes.{same_bytes}
use Rattle.text.proofs.Bytes.{pick_by, pick_both}
use Rattle.entity.specs.Binding.{Bound, text, external, predefined, unknown}
use Rattle.tokens.specs.Tokens.{kept, space, number, named, unterminated, stop, Heads}
use Rattle.tokens.specs.Outcome.{Outcome, done, refused}
use Rattle.tokens.proofs.Carried.{Carried, Moving, Answering, Walked, run_carried, number_carried}
use Rattle.attribute.specs.Walk.{Settings, opened, answer, exhausted, walk}

module _ (st : Settings) (C : Carried st.legal) where
  -- `amp`, and the text that a name is bound to, where `walked` walks texts so
  pub record Opening : Type 0 where
    pub amp : (x y : C.Place) (offset : ℕ) (name : List ℕ) → C.Leads x (stop (named offset name)) y → (n : ℕ) → C.Holds x y n (done (38 ∷ []) n)
    pub opens : (walked : List ℕ → ℕ → Outcome) → Walked C walked → (x y : C.Place) (offset : ℕ) (name t : List ℕ)
        → C.Leads x (stop (named offset name)) y → st.bind name ≡ text t → (n : ℕ) → eqb n st.limit ≡ false → C.Holds x y n (walked t (suc n))
    pub stands_for : (walked : List ℕ → ℕ → Outcome) → Walked C walked → (x y : C.Place) (offset : ℕ) (name t : List ℕ)
        → C.Leads x (stop (named offset name)) y → st.bind name ≡ predefined t → (n : ℕ) → C.Holds x y n (walked t n)

  module _ (P : Opening) where
    opened_carried : (walked : List ℕ → ℕ → Outcome) → Walked C walked → (x y : C.Place) (offset : ℕ) (name : List ℕ)
        → C.Leads x (stop (named offset name)) y → (b : Bound) → st.bind name ≡ b → (n : ℕ) → C.Holds x y n (opened st.limit walked offset name b n)
    unfolding opened
    opened_carried walked w x y offset name l (text t) e n =
        pick_by (C.Holds x y n) (eqb n st.limit) {a = refused [] n 17 offset 0} {b = walked t (suc n)}
        (λ q. C.refusal x y n 17 offset 0) (λ q. P.opens walked w x y offset name t l e n q)
    opened_carried walked w x y offset name l external e n = C.refusal x y n 27 offset 0
    opened_carried walked w x y offset name l (predefined t) e n = P.stands_for walked w x y offset name t l e n
    opened_carried walked w x y offset name l unknown e n = C.refusal x y n 11 (suc offset) (suc offset + length name)

    pub answer_carried : (walked : List ℕ → ℕ → Outcome) → Walked C walked → Answering C (answer st walked)
    unfolding answer
    answer_carried walked w x y (kept b) l n = C.keeps x y b l n
    answer_carried walked w x y space l n = C.spaces x y l n
    answer_carried walked w x y (number digits) l n = number_carried C x y digits l n
    answer_carried walked w x y (named offset name) l n =
        pick_both (C.Holds x y n) (same_bytes name (97 ∷ 109 ∷ 112 ∷ [])) {a = done (38 ∷ []) n} (P.amp x y offset name l n)
        (opened_carried walked w x y offset name l (st.bind name) refl n)
    answer_carried walked w x y (unterminated offset end) l n = C.refusal x y n 10 offset end

    exhausted_carried : Answering C exhausted
    unfolding exhausted
    exhausted_carried x y s l n = C.refusal x y n 16 0 0

    pub walk_carried : Moving C st.inner → (at : Heads) → Moving C at → (depth : ℕ) → Walked C (λ t n. walk st at depth t n)
    unfolding walk
    walk_carried i at g zero x t h n = run_carried C at g exhausted exhausted_carried t x 0 0 h n
    walk_carried i at g (suc depth) x t h n =
        run_carried C at g (answer st (λ u m. walk st st.inner depth u m))
        (answer_carried (λ u m. walk st st.inner depth u m) (walk_carried i st.inner i depth)) t x 0 0 h n
