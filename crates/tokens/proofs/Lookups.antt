-- Two runs whose answers agree wherever the names that the first asks for are of one kind, agree where those of the whole run are
-- (`run_agrees`), and ask for the same names. Assumes nothing.
use mathlib.Core.Path.{◌≡◌, refl, ap, ◌∙◌}
use Prim.Native.Nat.{ℕ}
use mathlib.Core.List.{List, [], ◌∷◌, ◌++◌}
use Rattle.tokens.specs.Tokens.{Stop, Token, copy, stop, barred}
use Rattle.tokens.specs.Outcome.{Outcome, done, refused, prepend, followed, run}
use Rattle.tokens.specs.Lookups.{unless_refused, lookups, Each}

-- ---- each of some names

module _ (P : List ℕ → Type 0) where
  pub each_left : (xs ys : List (List ℕ)) → Each P (xs ++ ys) → Each P xs
  each_left [] ys h = tt
  each_left (x ∷ xs) ys h = (h.0, each_left xs ys h.1)

  pub each_right : (xs ys : List (List ℕ)) → Each P (xs ++ ys) → Each P ys
  each_right [] ys h = h
  each_right (x ∷ xs) ys h = each_right xs ys h.1

pub each_weaker : (P Q : List ℕ → Type 0) → ((name : List ℕ) → P name → Q name) → (xs : List (List ℕ)) → Each P xs → Each Q xs
each_weaker P Q f [] h = tt
each_weaker P Q f (x ∷ xs) h = (f x h.0, each_weaker P Q f xs h.1)

-- ---- two readings

-- one outcome, by way of the same names
pub record Agree (o p : Outcome) (names others : List (List ℕ)) : Type 0 where
  pub outcome : o ≡ p
  pub asks : names ≡ others

pub agree_itself : (o : Outcome) (names : List (List ℕ)) → Agree o o names names
agree_itself o names = record { outcome = refl; asks = refl }

module _ (P : List ℕ → Type 0) where
  -- what follows agrees, if what comes before does
  followed_agrees : (o p : Outcome) (xs ys : List (List ℕ)) (f g : ℕ → Outcome) (names others : ℕ → List (List ℕ))
      → (Each P xs → Agree o p xs ys) → ((n : ℕ) → Each P (names n) → Agree (f n) (g n) (names n) (others n))
      → Each P (xs ++ unless_refused o names) → Agree (followed o f) (followed p g) (xs ++ unless_refused o names) (ys ++ unless_refused p others)
  followed_agrees o p xs ys f g names others here later e =
      let first = here (each_left P xs (unless_refused o names) e) in
      let rest = go o (each_right P xs (unless_refused o names) e) in
      record {
        outcome = rest.outcome ∙ ap (λ (x : Outcome). followed x g) first.outcome;
        asks =
            ap (λ (zs : List (List ℕ)). xs ++ zs) (rest.asks ∙ ap (λ (x : Outcome). unless_refused x others) first.outcome)
            ∙ ap (λ (zs : List (List ℕ)). zs ++ unless_refused p others) first.asks;
      }
    where
      go : (x : Outcome) → Each P (unless_refused x names) → Agree (followed x f) (followed x g) (unless_refused x names) (unless_refused x others)
      go (done value n) h = let next = later n h in record { outcome = ap (prepend value) next.outcome; asks = next.asks }
      go (refused before n why first second) h = agree_itself (refused before n why first second) []

  module _ (f g : Stop → ℕ → Outcome) (asked also : Stop → ℕ → List (List ℕ))
      (agree : (s : Stop) (n : ℕ) → Each P (asked s n) → Agree (f s n) (g s n) (asked s n) (also s n)) where
    pub run_agrees : (ts : List Token) (n : ℕ) → Each P (lookups f asked ts n) → Agree (run f ts n) (run g ts n) (lookups f asked ts n) (lookups g also ts n)
    unfolding run lookups
    run_agrees [] n e = agree_itself (done [] n) []
    run_agrees (copy b ∷ ts) n e =
        let rest = run_agrees ts n e in
        record { outcome = ap (prepend (b ∷ [])) rest.outcome; asks = rest.asks }
    run_agrees (stop s ∷ ts) n e =
        followed_agrees (f s n) (g s n) (asked s n) (also s n) (λ m. run f ts m) (λ m. run g ts m) (λ m. lookups f asked ts m) (λ m. lookups g also ts m) (agree s n)
        (λ m h. run_agrees ts m h) e
    run_agrees (barred offset ∷ ts) n e = agree_itself (refused [] n 26 offset 0) []
