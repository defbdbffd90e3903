-- The openings of outcomes: none is made, or they stay within a limit. Two instances of what is carried. Assumes nothing.
use mathlib.Core.Path.{◌≡◌, refl, ◌∙◌}
use Prim.Native.Nat.{ℕ, ◌≤◌}
use mathlib.Core.List.{List}
use Rattle.charref.specs.CharNumbers.{CharNumber}
use Rattle.tokens.specs.Tokens.{Head, head, Heads}
use Rattle.tokens.specs.Outcome.{Outcome, done, refused, prepend, followed}
use Rattle.tokens.proofs.Carried.{Carried, Moves, Moving}

-- the openings that an outcome tells
abbrev pub openings_of : Outcome → ℕ
openings_of (done value openings) = openings
openings_of (refused before openings why first second) = openings

openings_prepend : (front : List ℕ) (o : Outcome) → openings_of (prepend front o) ≡ openings_of o
openings_prepend front (done value m) = refl
openings_prepend front (refused before m why first second) = refl

-- ---- none is made

pub same_joined : (n : ℕ) (o : Outcome) (rest : ℕ → Outcome) → openings_of o ≡ n → ((m : ℕ) → openings_of (rest m) ≡ m) → openings_of (followed o rest) ≡ n
same_joined n (done value m) rest e h = openings_prepend value (rest m) ∙ h m ∙ e
same_joined n (refused before m why first second) rest e h = e

abbrev pub none_made : (legal : ℕ → CharNumber) → Carried legal
none_made legal =
    record {
      Place = Unit {0};
      end = tt;
      Stands = λ x t. Unit {0};
      Leads = λ x t y. Unit {0};
      Holds = λ x y n o. openings_of o ≡ n;
      nothing = λ x h n. refl;
      refusal = λ x y n why first second. refl;
      joined = λ x y z n o rest e h. same_joined n o rest e h;
      copies = λ x y b l n. refl;
      keeps = λ x y b l n. refl;
      spaces = λ x y l n. refl;
      numbers = λ x y digits c l e n. refl;
    }

-- ---- they stay within a limit

pub most_joined : (limit n : ℕ) (o : Outcome) (rest : ℕ → Outcome) → (n ≤ limit → openings_of o ≤ limit) → ((m : ℕ) → m ≤ limit → openings_of (rest m) ≤ limit)
    → n ≤ limit → openings_of (followed o rest) ≤ limit
most_joined limit n (done value m) rest f h l = rw (openings_prepend value (rest m)) (h m (f l))
most_joined limit n (refused before m why first second) rest f h l = f l

abbrev pub within_limit : (limit : ℕ) (legal : ℕ → CharNumber) → Carried legal
within_limit limit legal =
    record {
      Place = Unit {0};
      end = tt;
      Stands = λ x t. Unit {0};
      Leads = λ x t y. Unit {0};
      Holds = λ x y n o. n ≤ limit → openings_of o ≤ limit;
      nothing = λ x h n l. l;
      refusal = λ x y n why first second l. l;
      joined = λ x y z n o rest e h. most_joined limit n o rest e h;
      copies = λ x y b l n h. h;
      keeps = λ x y b l n h. h;
      spaces = λ x y l n h. h;
      numbers = λ x y digits c l e n h. h;
    }

-- ---- every head moves a reader that asks nothing

none_moves : (legal : ℕ → CharNumber) (bs : List ℕ) (z : Head) → Moves (none_made legal) tt bs z
none_moves legal bs (head t skip) = record { to = tt; leads = tt; stands = tt }

pub none_moving : (legal : ℕ → CharNumber) (at : Heads) → Moving (none_made legal) at
none_moving legal at x offset b bs h = none_moves legal bs (at offset b bs)

within_moves : (limit : ℕ) (legal : ℕ → CharNumber) (bs : List ℕ) (z : Head) → Moves (within_limit limit legal) tt bs z
within_moves limit legal bs (head t skip) = record { to = tt; leads = tt; stands = tt }

pub within_moving : (limit : ℕ) (legal : ℕ → CharNumber) (at : Heads) → Moving (within_limit limit legal) at
within_moving limit legal at x offset b bs h = within_moves limit legal bs (at offset b bs)
