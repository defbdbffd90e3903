-- The count of a form where its entry was found: `filled_count`. Assumes nothing.
use mathlib.Core.Path.{◌≡◌, ap, sym, ◌∙◌}
use Prim.Native.Nat.{ℕ, ◌+◌, ◌≤◌}
use native.Mathlib.Omega.{arith}
use mathlib.Core.List.{List, ◌∷◌}
use lib.ListN.{length}
use Rattle.register.specs.Entries.{Entry, entry, cost, count_in}
use Rattle.register.specs.Stored.{u32_at}
use Rattle.register.specs.Places.{Stands, Filled, entries_in}
use Rattle.register.proofs.Boundaries.{Boundary, turn, within}
use Rattle.changes.proofs.Changing.{stands_count}

module _ (bytes : List ℕ) (f : Filled bytes) {form : List ℕ} {at : ℕ} (s : Stands form (entries_in bytes) at) where
  place : Boundary (entries_in bytes) at
  place = record { before = s.before; rest = entry form s.count ∷ s.after; is = s.is; place = s.place }

  pub filled_fits : at + 8 ≤ length bytes
  unfolding place cost
  filled_fits = omega (arith, within f place)

  pub filled_count : u32_at bytes (at + 4) ≡ count_in form (entries_in bytes)
  unfolding place
  filled_count =
      let t = turn f place (omega (arith, filled_fits)) in
      let q : entry form s.count ≡ t.one = same_head t.is in
      t.count ∙ ap (λ (e : Entry). e.count) (sym q)
      ∙ sym (ap (count_in form) s.is ∙ stands_count form s.count s.before s.after s.others)
    where
      same_head : {a b : Entry} {xs ys : List Entry} → a ∷ xs ≡ b ∷ ys → a ≡ b
      same_head e = cc
