-- The first span that leaves the text: what is left to look at, from a turn on (`inside_next`, `inside_end`); that all stay inside where none
-- leaves (`stays_inside`). Assumes nothing.
use mathlib.Core.Path.{◌≡◌, refl, sym, ap, ◌∙◌}
use mathlib.Core.Bool.{Bool, true, false, ◌&&◌, not}
use mathlib.Core.List.{List, [], ◌∷◌}
use Prim.Native.Nat.{ℕ, zero, suc, ◌+◌, ◌-◌, ◌≤◌, ◌<◌}
use native.Mathlib.Omega.{arith}
use native.Mathlib.Nat.{not-suc-le-zero, le_of_suc-le-suc}
use native.Mathlib.Numerals.{add-one}
use lib.Dec.{eqb, ltb}
use lib.ListN.{length, get_or, drop, drop_of_length-le}
use borrow.Author.Tests.{eq-eqb, ne_eqb, eqb-true, lt-ltb, le-ltb, ltb-true, ltb-false}
use Rattle.text.specs.Bytes.{pick}
use Rattle.walk_rehearsal.specs.declared.Span.{Span}
use Rattle.walk_rehearsal.specs.Rehearsal.{leaves_text, inside}
use Rattle.walk_rehearsal.specs.Turns.{further_by}

abbrev pub no_span : Span
no_span = record { start = 0; length = 0 }

-- the spans from an index on are the one there and those after it
pub drop_next : (ss : List Span) (i : ℕ) → i < length ss → drop i ss ≡ get_or ss i no_span ∷ drop (i + 1) ss
drop_next ss i l = go ss i l ∙ ap (λ (k : ℕ). get_or ss i no_span ∷ drop k ss) (sym (add-one i))
  where
    go : (ss : List Span) (i : ℕ) → i < length ss → drop i ss ≡ get_or ss i no_span ∷ drop (suc i) ss
    go [] i l = absurd (not-suc-le-zero l)
    go (s ∷ ss) zero l = refl
    go (s ∷ ss) (suc i) l = go ss i (le_of_suc-le-suc l)

-- what `staying` comes to, after `at` spans, with these still to look at
abbrev pub comes_to : ℕ → ℕ → ℕ → List Span → ℕ
comes_to size at staying ss = pick (eqb staying at) (staying + inside size ss) staying

module _ (size : ℕ) where
  further_comes : (s : Span) (ss : List Span) (at staying : ℕ) → staying ≤ at
      → comes_to size (at + 1) (further_by size s at staying) ss ≡ comes_to size at staying (s ∷ ss)
  unfolding inside
  further_comes s ss at staying h = go (eqb staying at) (leaves_text size s) refl refl
    where
      go : (same out : Bool) → eqb staying at ≡ same → leaves_text size s ≡ out
          → comes_to size (at + 1) (pick (same && not out) (staying + 1) staying) ss ≡ pick same (staying + pick out 0 (suc (inside size ss))) staying
      go true true e q = let z = eqb-true staying at e in rw (ne_eqb staying (at + 1) (λ w. omega (arith, z, w))) (omega arith)
      go true false e q = let z = eqb-true staying at e in rw (eq-eqb (staying + 1) (at + 1) (omega (arith, z))) (omega arith)
      go false out e q = rw (ne_eqb staying (at + 1) (λ w. omega (arith, h, w)))

  pub inside_next : (ss : List Span) (at staying : ℕ) → at < length ss → staying ≤ at
      → comes_to size (at + 1) (further_by size (get_or ss at no_span) at staying) (drop (at + 1) ss) ≡ comes_to size at staying (drop at ss)
  inside_next ss at staying l h =
      further_comes (get_or ss at no_span) (drop (at + 1) ss) at staying h ∙ ap (comes_to size at staying) (sym (drop_next ss at l))

  pub inside_end : (ss : List Span) (at staying : ℕ) → length ss ≤ at → comes_to size at staying (drop at ss) ≡ staying
  unfolding inside
  inside_end ss at staying l = ap (comes_to size at staying) (drop_of_length-le ss {i = at} l) ∙ go (eqb staying at)
    where
      go : (same : Bool) → pick same (staying + 0) staying ≡ staying
      go true = omega arith
      go false = refl

  -- where none leaves, each stays inside
  pub stays_inside : (ss : List Span) → length ss ≤ inside size ss → (i : ℕ) → i < length ss → (get_or ss i no_span).start + (get_or ss i no_span).length ≤ size
  unfolding inside
  stays_inside [] h i l = absurd (not-suc-le-zero l)
  stays_inside (s ∷ ss) h i l = go (leaves_text size s) refl h i l (λ k j m. stays_inside ss k j m)
    where
      go : (out : Bool) → leaves_text size s ≡ out → suc (length ss) ≤ pick out 0 (suc (inside size ss)) → (i : ℕ) → i < suc (length ss)
          → (length ss ≤ inside size ss → (j : ℕ) → j < length ss → (get_or ss j no_span).start + (get_or ss j no_span).length ≤ size)
          → (get_or (s ∷ ss) i no_span).start + (get_or (s ∷ ss) i no_span).length ≤ size
      go true q k i l rest = absurd (not-suc-le-zero k)
      go false q k zero l rest = ltb-false size (s.start + s.length) q
      go false q k (suc i) l rest = rest (le_of_suc-le-suc k) i (le_of_suc-le-suc l)

-- one span more or none
pub further_most : (size : ℕ) (s : Span) (at staying : ℕ) → staying ≤ at → further_by size s at staying ≤ at + 1
further_most size s at staying h = go (eqb staying at && not (leaves_text size s))
  where
    go : (b : Bool) → pick b (staying + 1) staying ≤ at + 1
    go true = omega (arith, h)
    go false = omega (arith, h)

-- without the sum, which might wrap
pub leaves_so : (size start len : ℕ) → start ≤ size → ltb (size - start) len ≡ ltb size (start + len)
leaves_so size start len h = go (ltb size (start + len)) refl
  where
    go : (b : Bool) → ltb size (start + len) ≡ b → ltb (size - start) len ≡ b
    go true q = lt-ltb (size - start) len (let z = ltb-true size (start + len) q in omega (arith, h, z))
    go false q = le-ltb (size - start) len (let z = ltb-false size (start + len) q in omega (arith, h, z))
