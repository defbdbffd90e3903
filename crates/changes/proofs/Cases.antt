-- The changes of entries as the calls answer them: `leaving_changed`, and each case of `add` and `withdraw`. Assumes nothing.
use mathlib.Core.Path.{◌≡◌, refl, ap, ap₂, sym, ◌∙◌}
use Prim.Native.Nat.{ℕ, ◌+◌, ◌-◌, ◌≤◌, ◌<◌}
use native.Mathlib.Omega.{arith}
use mathlib.Core.List.{List, [], ◌∷◌, ◌++◌}
use lib.ListN.{length}
use borrow.Author.Tests.{lt-ltb, le-ltb, eq-eqb, ne_eqb}
use Rattle.text.specs.Call.{Called, called}
use Rattle.text.specs.Answers.{Done}
use Rattle.register.specs.Entries.{Entry, entry, cost, count_in, recount, largest_count, Change, changed, refused, add, withdraw}
use Rattle.register.specs.Stored.{written}
use Rattle.register.specs.RegisterCalls.{lent, leaves}
use Rattle.changes.specs.Leaving.{leaving}

-- the same change, said otherwise
pub left_as : (buffer : List ℕ) (used : ℕ) {l : Called} {x y : Change} → l ≡ leaves buffer used x → y ≡ x → l ≡ leaves buffer used y
left_as buffer used e q = e ∙ sym (ap (leaves buffer used) q)

pub leaving_changed : (buffer : List ℕ) (used n : ℕ) (new : List Entry) {after : List ℕ} {second : ℕ} → second ≡ cost new → after ≡ written used new buffer
    → leaving (Done n second) used after ≡ leaves buffer used (changed n new)
leaving_changed buffer used n new e q = ap₂ (λ (c : ℕ) (b : List ℕ). called 0 (n ∷ c ∷ []) (lent b c)) e q

module _ (size : ℕ) (f : List ℕ) (es : List Entry) where
  pub add_room : count_in f es ≡ 0 → cost es + (8 + length f) ≤ size → add size f es ≡ changed 1 (es ++ (entry f 1 ∷ []))
  unfolding add
  add_room z h = rw (eq-eqb (count_in f es) 0 z, le-ltb size (cost es + (8 + length f)) h) refl

  pub add_no_room : count_in f es ≡ 0 → size < cost es + (8 + length f) → add size f es ≡ refused 30
  unfolding add
  add_no_room z h = rw (eq-eqb (count_in f es) 0 z, lt-ltb size (cost es + (8 + length f)) h) refl

  pub add_more : (n : ℕ) → count_in f es ≡ n → 0 < n → n < largest_count → add size f es ≡ changed (n + 1) (recount f (n + 1) es)
  unfolding add
  add_more n e z h = rw (e, ne_eqb n 0 (λ q. omega (arith, q)), lt-ltb n largest_count h) refl

  pub add_full : (n : ℕ) → count_in f es ≡ n → 0 < n → largest_count ≤ n → add size f es ≡ refused 30
  unfolding add
  add_full n e z h = rw (e, ne_eqb n 0 (λ q. omega (arith, q)), le-ltb n largest_count h) refl

module _ (f : List ℕ) (es : List Entry) where
  pub withdraw_absent : count_in f es ≡ 0 → withdraw f es ≡ refused 29
  unfolding withdraw
  withdraw_absent z = rw (eq-eqb (count_in f es) 0 z) refl

  pub withdraw_one : (n : ℕ) → count_in f es ≡ n → 0 < n → withdraw f es ≡ changed (n - 1) (recount f (n - 1) es)
  unfolding withdraw
  withdraw_one n e z = rw (e, ne_eqb n 0 (λ q. omega (arith, q))) refl
