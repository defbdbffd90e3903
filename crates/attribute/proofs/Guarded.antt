-- Document 02, K8: barring heads beside the heads themselves. Where no head is barred both are read alike; where the heads themselves give
-- a value, the barring ones are refused by 26 at the first head that is barred (`guard_run`). Assumes nothing.
use mathlib.Core.Path.{◌≡◌, refl, ap}
use Prim.Native.Nat.{ℕ, zero, suc}
use mathlib.Core.Bool.{Bool, true, false}
use mathlib.Core.Option.{Option, none, some}
use mathlib.Core.List.{List, [], ◌∷◌}
use Rattle.text.specs.Bytes.{pick}
use Rattle.legal.specs.Legal.{fault_at}
use Rattle.tokens.specs.Tokens.{Stop, copy, stop, barred, Head, head, token_of, skip_of, Heads, tokens}
use Rattle.tokens.specs.Outcome.{Outcome, done, refused, prepend, followed, run}
use Rattle.attribute.specs.Strict.{barring}

-- the offset of the first head at which a fault begins
unfoldable pub first_barred : (ℕ → Bool) → Heads → ℕ → ℕ → List ℕ → Option ℕ
unfolding fault_at
first_barred may at offset skip [] = none
first_barred may at offset (suc skip) (b ∷ bs) = first_barred may at (suc offset) skip bs
first_barred may at offset zero (b ∷ bs) =
    let rest = first_barred may at (suc offset) (skip_of (at offset b bs)) bs in
    pick (fault_at may (b ∷ bs)) (some offset) rest

-- refused by 26 at that offset
abbrev pub Barred : ℕ → Outcome → Type 0
Barred k (done value m) = ⊥
Barred k (refused before m why first second) = (why ≡ 26) × (first ≡ k) × (second ≡ 0)

-- what is read by barring heads, beside what is read by the heads themselves
abbrev pub Guards : Option ℕ → Outcome → Outcome → Type 0
Guards none o p = p ≡ o
Guards (some k) (done value m) p = Barred k p
Guards (some k) (refused before m why first second) p = Unit {0}

barred_here : (o : Outcome) (n offset : ℕ) → Guards (some offset) o (refused [] n 26 offset 0)
barred_here (done value m) n offset = (refl, refl, refl)
barred_here (refused before m why first second) n offset = tt

barred_prepend : (front : List ℕ) (k : ℕ) (p : Outcome) → Barred k p → Barred k (prepend front p)
barred_prepend front k (done value m) h = absurd h
barred_prepend front k (refused before m why first second) h = h

guards_prepend : (q : Option ℕ) (front : List ℕ) (o p : Outcome) → Guards q o p → Guards q (prepend front o) (prepend front p)
guards_prepend none front o p h = ap (prepend front) h
guards_prepend (some k) front (done value m) p h = barred_prepend front k p h
guards_prepend (some k) front (refused before m why first second) p h = tt

guards_refused : (q : Option ℕ) (before : List ℕ) (m why first second : ℕ) → Guards q (refused before m why first second) (refused before m why first second)
guards_refused none before m why first second = refl
guards_refused (some k) before m why first second = tt

guards_then : (q : Option ℕ) (o : Outcome) (f g : ℕ → Outcome) → ((m : ℕ) → Guards q (f m) (g m)) → Guards q (followed o f) (followed o g)
guards_then q (done value m) f g h = guards_prepend q value (f m) (g m) (h m)
guards_then q (refused before m why first second) f g h = guards_refused q before m why first second

module _ (may : ℕ → Bool) (at : Heads) (f : Stop → ℕ → Outcome) where
  abbrev plain_run : ℕ → ℕ → List ℕ → ℕ → Outcome
  plain_run offset skip t n = run f (tokens at offset skip t) n

  abbrev guarded_run : ℕ → ℕ → List ℕ → ℕ → Outcome
  guarded_run offset skip t n = run f (tokens (barring may at) offset skip t) n

  pub guard_run : (t : List ℕ) (offset skip n : ℕ) → Guards (first_barred may at offset skip t) (plain_run offset skip t n) (guarded_run offset skip t n)
  unfolding first_barred barring tokens run
  guard_run [] offset skip n = refl
  guard_run (b ∷ bs) offset (suc skip) n = guard_run bs (suc offset) skip n
  guard_run (b ∷ bs) offset zero n = go (at offset b bs) (fault_at may (b ∷ bs)) (λ k m. guard_run bs (suc offset) k m)
    where
      go : (z : Head) (x : Bool) → ((k m : ℕ) → Guards (first_barred may at (suc offset) k bs) (plain_run (suc offset) k bs m) (guarded_run (suc offset) k bs m))
          → Guards (pick x (some offset) (first_barred may at (suc offset) (skip_of z) bs)) (run f (token_of z ∷ tokens at (suc offset) (skip_of z) bs) n)
          (run f (token_of (pick x (head (barred offset) 0) z) ∷ tokens (barring may at) (suc offset) (skip_of (pick x (head (barred offset) 0) z)) bs) n)
      go z true ih = barred_here (run f (token_of z ∷ tokens at (suc offset) (skip_of z) bs) n) n offset
      go (head (copy c) k) false ih = guards_prepend (first_barred may at (suc offset) k bs) (c ∷ []) (plain_run (suc offset) k bs n) (guarded_run (suc offset) k bs n) (ih k n)
      go (head (stop s) k) false ih = guards_then (first_barred may at (suc offset) k bs) (f s n) (λ m. plain_run (suc offset) k bs m) (λ m. guarded_run (suc offset) k bs m) (λ m. ih k m)
      go (head (barred o) k) false ih = guards_refused (first_barred may at (suc offset) k bs) [] n 26 o 0

-- beside a value
pub guards_none : (value : List ℕ) (m : ℕ) (p : Outcome) (q : Option ℕ) → Guards q (done value m) p → q ≡ none → p ≡ done value m
guards_none value m p q h e = rw e at h

pub guards_some : (value : List ℕ) (m k : ℕ) (p : Outcome) (q : Option ℕ) → Guards q (done value m) p → q ≡ some k → Barred k p
guards_some value m k p q h e = rw e at h
