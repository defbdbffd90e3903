-- Two runs of the same tokens whose answers are related are related. Assumes nothing.
use mathlib.Core.Path.{◌≡◌, refl, ap}
use Prim.Native.Nat.{ℕ}
use mathlib.Core.Bool.{Bool, true, false}
use mathlib.Core.List.{List, [], ◌∷◌}
use Rattle.tokens.specs.Tokens.{Stop, Token, copy, stop, barred}
use Rattle.tokens.specs.Outcome.{Outcome, done, refused, prepend, followed, run}

pub record Related (R : Outcome → Outcome → Type 0) : Type 0 where
  pub same : (o : Outcome) → R o o
  pub joined : (o p : Outcome) (f g : ℕ → Outcome) → R o p → ((n : ℕ) → R (f n) (g n)) → R (followed o f) (followed p g)

module _ (R : Outcome → Outcome → Type 0) (related : Related R) where
  pub run_related : (f g : Stop → ℕ → Outcome) → ((s : Stop) (n : ℕ) → R (f s n) (g s n)) → (ts : List Token) (n : ℕ) → R (run f ts n) (run g ts n)
  unfolding run
  run_related f g h [] n = related.same (done [] n)
  run_related f g h (copy b ∷ ts) n =
      related.joined (done (b ∷ []) n) (done (b ∷ []) n) (λ m. run f ts m) (λ m. run g ts m) (related.same (done (b ∷ []) n)) (λ m. run_related f g h ts m)
  run_related f g h (stop s ∷ ts) n = related.joined (f s n) (g s n) (λ m. run f ts m) (λ m. run g ts m) (h s n) (λ m. run_related f g h ts m)
  run_related f g h (barred o ∷ ts) n = related.same (refused [] n 26 o 0)

-- ---- every answer of the first is the second's, but for refusals by some numbers

abbrev pub Stays : Bool → Outcome → Outcome → Type 0
Stays true o p = Unit {0}
Stays false o p = p ≡ o

stays_itself : (t : Bool) (o : Outcome) → Stays t o o
stays_itself true o = tt
stays_itself false o = refl

stays_under : (t : Bool) (o p : Outcome) (f : Outcome → Outcome) → Stays t o p → Stays t (f o) (f p)
stays_under true o p f h = tt
stays_under false o p f h = ap f h

module _ (excused : ℕ → Bool) where
  abbrev pub Keeps : Outcome → Outcome → Type 0
  Keeps (done value m) o = o ≡ done value m
  Keeps (refused before m why first second) o = Stays (excused why) (refused before m why first second) o

  keeps_itself : (o : Outcome) → Keeps o o
  keeps_itself (done value m) = refl
  keeps_itself (refused before m why first second) = stays_itself (excused why) (refused before m why first second)

  keeps_prepend : (front : List ℕ) (o p : Outcome) → Keeps o p → Keeps (prepend front o) (prepend front p)
  keeps_prepend front (done value m) p h = ap (prepend front) h
  keeps_prepend front (refused before m why first second) p h = stays_under (excused why) (refused before m why first second) p (prepend front) h

  keeps_joined : (o p : Outcome) (f g : ℕ → Outcome) → Keeps o p → ((n : ℕ) → Keeps (f n) (g n)) → Keeps (followed o f) (followed p g)
  keeps_joined (done value m) p f g h k = rw h (keeps_prepend value (f m) (g m) (k m))
  keeps_joined (refused before m why first second) p f g h k = stays_under (excused why) (refused before m why first second) p (λ o. followed o g) h

  pub keeps_related : Related Keeps
  keeps_related = record { same = keeps_itself; joined = keeps_joined }
