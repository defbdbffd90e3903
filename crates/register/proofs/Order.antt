-- The order of entries (document 02, K10): another count leaves it (`recount_forms`), a count of zero takes the form out of it
-- (`recount_without`), and a refused call leaves it (`becoming_refused`). Assumes nothing.
use mathlib.Core.Path.{◌≡◌, refl, ap}
use Prim.Native.Nat.{ℕ, ◌<◌}
use native.Mathlib.Omega.{arith}
use mathlib.Core.Bool.{Bool, true, false}
use mathlib.Core.List.{List, [], ◌∷◌}
use lib.Dec.{eqb}
use borrow.Author.Tests.{ne_eqb}
use Rattle.text.specs.Bytes.{pick, same_bytes}
use Rattle.text.specs.Call.{called}
use Rattle.register.specs.Entries.{Entry, entry, recount}
use Rattle.register.specs.CallLists.{Asked, adds, withdraws, counts, forms, without, becoming}

pub recount_forms : (f : List ℕ) (n : ℕ) → 0 < n → (es : List Entry) → forms (recount f n es) ≡ forms es
unfolding recount
recount_forms f n some [] = refl
recount_forms f n some (e ∷ es) = go (same_bytes e.form f) (recount_forms f n some es)
  where
    go : (t : Bool) → forms (recount f n es) ≡ forms es
        → forms (pick t (pick (eqb n 0) es (entry e.form n ∷ es)) (e ∷ recount f n es)) ≡ forms (e ∷ es)
    go true ih = rw (ne_eqb n 0 (λ z. omega (arith, z))) refl
    go false ih = ap (λ (l : List (List ℕ)). e.form ∷ l) ih

pub recount_without : (f : List ℕ) (n : ℕ) → eqb n 0 ≡ true → (es : List Entry) → forms (recount f n es) ≡ without f (forms es)
unfolding recount without
recount_without f n none [] = refl
recount_without f n none (e ∷ es) = go (same_bytes e.form f) (recount_without f n none es)
  where
    go : (t : Bool) → forms (recount f n es) ≡ without f (forms es)
        → forms (pick t (pick (eqb n 0) es (entry e.form n ∷ es)) (e ∷ recount f n es)) ≡ pick t (forms es) (e.form ∷ without f (forms es))
    go true ih = rw none refl
    go false ih = ap (λ (l : List (List ℕ)). e.form ∷ l) ih

pub becoming_refused : (c : Asked) (number : ℕ) → (number ≡ 0 → ⊥) → (words : List ℕ) (buffers : List (List ℕ)) (fs : List (List ℕ))
    → fs ≡ becoming c (called number words buffers) fs
unfolding becoming
becoming_refused (adds f) number n words buffers fs = rw (ne_eqb number 0 n) refl
becoming_refused (withdraws f) number n words buffers fs = rw (ne_eqb number 0 n) refl
becoming_refused (counts f) number n words buffers fs = refl
