-- A walk asks nothing of the heads of the outer text: settings that differ there alone walk alike (`walk_outer`). Assumes nothing.
use mathlib.Core.Path.{◌≡◌, refl, ap, ◌∙◌}
use Prim.Native.Nat.{ℕ, zero, suc}
use mathlib.Core.List.{List}
use Rattle.tokens.specs.Tokens.{Stop, kept, space, number, named, unterminated, Heads, tokens}
use Rattle.tokens.specs.Outcome.{Outcome, done, refused, prepend, followed}
use Rattle.tokens.proofs.Related.{Related, run_related}
use Rattle.attribute.specs.Walk.{Settings, answer, walk}
use Rattle.attribute.proofs.Deeper.{answer_related}

abbrev Same : Outcome → Outcome → Type 0
Same o p = o ≡ p

then_same : (o : Outcome) (f g : ℕ → Outcome) → ((n : ℕ) → f n ≡ g n) → followed o f ≡ followed o g
then_same (done value m) f g h = ap (prepend value) (h m)
then_same (refused before m why first second) f g h = refl

same_related : Related Same
same_related = record { same = λ o. refl; joined = λ o p f g e h. then_same o f g h ∙ ap (λ (x : Outcome). followed x g) e }

abbrev pub with_outer : Heads → Settings → Settings
with_outer at s = record { outer = at; inner = s.inner; bind = s.bind; limit = s.limit; legal = s.legal }

module _ (outer : Heads) (s : Settings) where
  answer_outer : (f : List ℕ → ℕ → Outcome) (x : Stop) (n : ℕ) → answer (with_outer outer s) f x n ≡ answer s f x n
  unfolding answer
  answer_outer f (kept b) n = refl
  answer_outer f space n = refl
  answer_outer f (number digits) n = refl
  answer_outer f (named offset name) n = refl
  answer_outer f (unterminated offset end) n = refl

  pub walk_outer : (at : Heads) (depth : ℕ) (t : List ℕ) (n : ℕ) → walk (with_outer outer s) at depth t n ≡ walk s at depth t n
  unfolding walk
  walk_outer at zero t n = refl
  walk_outer at (suc depth) t n =
      let f : List ℕ → ℕ → Outcome = λ u m. walk (with_outer outer s) s.inner depth u m in
      let g : List ℕ → ℕ → Outcome = λ u m. walk s s.inner depth u m in
      run_related Same same_related (answer (with_outer outer s) f) (answer s g)
      (λ x m. answer_outer f x m ∙ answer_related Same same_related s f g (λ u k. walk_outer s.inner depth u k) x m) (tokens at 0 0 t) n
