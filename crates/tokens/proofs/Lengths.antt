-- Lengths: what is made of a text has at most its bytes and 65,535 for each opening, before a refusal too. An instance of what is
-- carried, with the heads of references. Assumes nothing.
use mathlib.Core.Path.{◌≡◌, refl, ◌∙◌}
use Prim.Native.Nat.{ℕ, suc, ◌+◌, ◌*◌, ◌≤◌}
use native.Mathlib.Omega.{arith}
use mathlib.Core.Bool.{Bool, ◌&&◌}
use mathlib.Core.List.{List, [], ◌∷◌}
use lib.ListN.{length, drop, length-append, length-drop}
use lib.Dec.{eqb}
use Rattle.text.proofs.Bytes.{pick_both}
use Rattle.charref.specs.CharRef.{char_number, encode}
use Rattle.charref.specs.CharNumbers.{CharNumber}
use Rattle.charref.specs.CharNumbers.{Char, InvalidNumber}
use Rattle.charref.proofs.Encoding.{encode_at_most}
use Rattle.charref.proofs.Numbers.{char_none}
use Rattle.tokens.specs.Tokens.{Stop, kept, space, number, named, unterminated, Token, copy, stop, barred, Head, head, Name, ended, endless, longer, name_at, reference_at}
use Rattle.tokens.specs.Outcome.{Outcome, done, refused, prepend, followed}
use Rattle.tokens.proofs.Carried.{Carried, Moves}

-- with `x` bytes left before, `y` after and `n` openings before: the bytes made are at most those gone, and 65,535 for each opening made
abbrev pub Bounded : ℕ → ℕ → ℕ → Outcome → Type 0
Bounded x y n (done value m) = length value + 65535 * n + y ≤ x + 65535 * m
Bounded x y n (refused before m why first second) = length before + 65535 * n ≤ x + 65535 * m

-- more bytes left before and fewer after, or fewer openings before
pub bounded_more : (x y x' y' n n' : ℕ) (o : Outcome) → 65535 * n' + x ≤ 65535 * n + x' → 65535 * n' + x + y' ≤ 65535 * n + x' + y → Bounded x y n o → Bounded x' y' n' o
bounded_more x y x' y' n n' (done value m) g k h = omega arith
bounded_more x y x' y' n n' (refused before m why first second) g k h = omega arith

bounded_prepend : (x y z n m : ℕ) (front : List ℕ) (o : Outcome) → length front + 65535 * n + y ≤ x + 65535 * m → Bounded y z m o → Bounded x z n (prepend front o)
bounded_prepend x y z n m front (done value k) g h = rw (length-append front value) (omega arith)
bounded_prepend x y z n m front (refused before k why first second) g h = rw (length-append front before) (omega arith)

pub bounded_joined : (x y z n : ℕ) (o : Outcome) (rest : ℕ → Outcome) → Bounded x y n o → ((m : ℕ) → Bounded y z m (rest m)) → Bounded x z n (followed o rest)
bounded_joined x y z n (done value m) rest h k = bounded_prepend x y z n m value (rest m) h (k m)
bounded_joined x y z n (refused before m why first second) rest h k = h

-- the least number of bytes that a token takes up
abbrev pub weighs : Stop → ℕ
weighs (kept b) = 1
weighs space = 1
weighs (number []) = 0
weighs (number (b ∷ bs)) = 4
weighs (named offset name) = 1
weighs (unterminated offset end) = 0

abbrev pub weight : Token → ℕ
weight (copy b) = 1
weight (stop s) = weighs s
weight (barred o) = 0

pub number_bounded : (legal : ℕ → CharNumber) (x y : ℕ) (digits : List ℕ) (c : ℕ) → weighs (number digits) + y ≤ x → char_number legal digits ≡ Char c
    → (n : ℕ) → Bounded x y n (done (encode c) n)
number_bounded legal x y [] c l e n = absurd (let p : InvalidNumber ≡ Char c = char_none legal [] refl ∙ e in let z : ◌≡◌ {A = ℕ} 0 1 = cc in omega arith)
number_bounded legal x y (d ∷ ds) c l e n = omega (arith, encode_at_most c)

abbrev pub lengths : (legal : ℕ → CharNumber) → Carried legal
lengths legal =
    record {
      Place = ℕ;
      end = 0;
      Stands = λ x t. length t ≤ x;
      Leads = λ x t y. weight t + y ≤ x;
      Holds = Bounded;
      nothing = λ x h n. omega arith;
      refusal = λ x y n why first second. omega arith;
      joined = bounded_joined;
      copies = λ x y b l n. omega arith;
      keeps = λ x y b l n. omega arith;
      spaces = λ x y l n. omega arith;
      numbers = number_bounded legal;
    }

-- ---- heads: a token takes up at least what it weighs

abbrev pub Fits : List ℕ → Head → Type 0
Fits bs (head t skip) = weight t + length (drop skip bs) ≤ suc (length bs)

pub fits_moves : (legal : ℕ → CharNumber) (x : ℕ) (bs : List ℕ) (z : Head) → Fits bs z → suc (length bs) ≤ x → Moves (lengths legal) x bs z
fits_moves legal x bs (head t skip) f h = record { to = length (drop skip bs); leads = omega arith; stands = omega arith }

abbrev NameFits : ℕ → Name → Type 0
NameFits size (ended name) = suc (length name) ≤ size
NameFits size endless = Unit {0}

longer_fits : (size b : ℕ) (n : Name) → NameFits size n → NameFits (suc size) (longer b n)
longer_fits size b (ended name) h = omega arith
longer_fits size b endless h = tt

name_fits : (inner : Bool) (bs : List ℕ) → NameFits (length bs) (name_at inner bs)
unfolding name_at
name_fits inner [] = tt
name_fits inner (b ∷ bs) =
    pick_both (NameFits (suc (length bs))) (eqb b 59) (omega arith)
    (pick_both (NameFits (suc (length bs))) (inner && eqb b 38) tt (longer_fits (length bs) b (name_at inner bs) (name_fits inner bs)))

ended_fits : (offset : ℕ) (bs : List ℕ) (n : Name) → NameFits (length bs) n → Fits bs (reference_at offset bs n)
unfolding reference_at
ended_fits offset bs (ended []) h = rw (length-drop 1 bs) (omega arith)
ended_fits offset bs (ended (b ∷ [])) h =
    pick_both (Fits bs) (eqb b 35) (rw (length-drop 2 bs) (omega arith)) (rw (length-drop 2 bs) (omega arith))
ended_fits offset bs (ended (b ∷ c ∷ cs)) h = pick_both (Fits bs) (eqb b 35) (rw length-drop (omega arith)) (rw length-drop (omega arith))
ended_fits offset bs endless h = omega arith

pub reference_fits : (inner : Bool) (offset : ℕ) (bs : List ℕ) → Fits bs (reference_at offset bs (name_at inner bs))
reference_fits inner offset bs = ended_fits offset bs (name_at inner bs) (name_fits inner bs)
