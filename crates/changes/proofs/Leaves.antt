-- What the changes leave of a register that sits in its buffer: `append_leaves`, `count_leaves`, `remove_leaves`. Assumes nothing.
use mathlib.Core.Path.{◌≡◌, ap, sym, ◌∙◌}
use Prim.Native.Nat.{ℕ, ◌+◌, ◌-◌, ◌≤◌, ◌<◌}
use native.Mathlib.Omega.{arith}
use mathlib.Core.List.{List, [], ◌∷◌, ◌++◌}
use lib.ListN.{length, take, drop, replicate, length-drop}
use borrow.Rule.Slice.PartMut.{mid_of, put_mid, mid_len, same_len_mid}
use Rattle.text.specs.Call.{laid}
use Rattle.text.specs.Answers.{Answer}
use Rattle.text.specs.Answers.{Done, Refused}
use Rattle.register.specs.Entries.{Entry, entry, cost, count_in, recount, changed, add}
use Rattle.register.specs.Stored.{u32_at, u32, entry_bytes}
use Rattle.register.specs.RegisterCalls.{leaves}
use Rattle.register.specs.Places.{Absent, Stands, Sits}
use Rattle.register.proofs.StoredLaws.{cost_join}
use Rattle.register.proofs.Counts.{absent_zero}
use Rattle.register.proofs.Boundaries.{one_cost}
use Rattle.register.proofs.Sits.{sits_cost}
use Rattle.output.proofs.Laid.{rest_part, rest_put, laid_length}
use Rattle.changes.specs.Leaving.{leaving, present, Seated}
use Rattle.changes.proofs.Changing.{appended, recounted, recounted_is, recounted_cost, removed_by, removed_is, removed_cost, stands_fits, stands_size, stands_number, stands_is, stands_some}
use Rattle.changes.proofs.Cases.{leaving_changed, add_room, add_no_room}

module _ (buffer : List ℕ) (used : ℕ) (es : List Entry) (h : Sits buffer used es) where
  pub append_refuses : (form : List ℕ) {r : Answer} → r ≡ Refused 30 0 0 → Absent form es → length buffer < used + 8 + length form
      → leaving r used buffer ≡ leaves buffer used (add (length buffer) form es)
  append_refuses form e a k =
      ap (λ (r : Answer). leaving r used buffer) e
      ∙ sym (ap (leaves buffer used) (add_no_room (length buffer) form es (absent_zero form es a) (omega (arith, sits_cost buffer used es h))))

  pub append_leaves : (form : List ℕ) {r : Answer} {second : ℕ} {part : List ℕ} → r ≡ Done 1 second → second ≡ used + 8 + length form
      → Absent form es → used + 8 + length form ≤ length buffer
      → part ≡ laid (entry_bytes (entry form 1)) (mid_of used (length buffer - used) buffer)
      → leaving r used (put_mid used (length buffer - used) buffer part) ≡ leaves buffer used (add (length buffer) form es)
  append_leaves form {r} {second} {part} e n a k p =
      let room : cost es + (8 + length form) ≤ length buffer = omega (arith, sits_cost buffer used es h) in
      let new = es ++ (entry form 1 ∷ []) in
      let c : second ≡ cost new
      = omega (arith, n, sits_cost buffer used es h, cost_join es (entry form 1 ∷ []), one_cost (entry form 1)) in
      ap (λ (r : Answer). leaving r used (put_mid used (length buffer - used) buffer part)) e
      ∙ leaving_changed buffer used 1 new c
      (rest_put used buffer part
      ∙ ap (λ (l : List ℕ). take used buffer ++ l) (p ∙ ap (laid (entry_bytes (entry form 1))) (rest_part used buffer))
      ∙ appended buffer used es h (entry form 1) room)
      ∙ sym (ap (leaves buffer used) (add_room (length buffer) form es (absent_zero form es a) room))

  module _ {form : List ℕ} {at : ℕ} (s : Stands form es at) where
    pub count_leaves : (n : ℕ) → 0 < n → {r : Answer} {part : List ℕ} → r ≡ Done n used
        → part ≡ laid (u32 n) (mid_of (at + 4) (length buffer - (at + 4)) buffer)
        → leaving r used (put_mid (at + 4) (length buffer - (at + 4)) buffer part) ≡ leaves buffer used (changed n (recount form n es))
    count_leaves n some {r} {part} e p =
        let new = recount form n es in
        ap (λ (r : Answer). leaving r used (put_mid (at + 4) (length buffer - (at + 4)) buffer part)) e
        ∙ leaving_changed buffer used n new (sym (ap cost (recounted_is buffer used es h s n some) ∙ recounted_cost buffer used es h s n some))
        (rest_put (at + 4) buffer part
        ∙ ap (λ (l : List ℕ). take (at + 4) buffer ++ l) (p ∙ ap (laid (u32 n)) (rest_part (at + 4) buffer))
        ∙ recounted buffer used es h s n some)

    module _ {gap : ℕ} (g : gap ≡ 8 + u32_at buffer at) where
      gap_is : gap ≡ 8 + length form
      gap_is = g ∙ ap (λ (n : ℕ). 8 + n) (stands_size buffer used es h s)

      pub remove_leaves : {r : Answer} {closed zeros : List ℕ} → r ≡ Done 0 (used - gap)
          → closed ≡ laid (drop gap (mid_of at (used - at) buffer)) (mid_of at (used - at) buffer)
          → zeros ≡ replicate (length (mid_of (used - gap) (used - (used - gap)) (put_mid at (used - at) buffer closed))) 0
          → leaving r used (put_mid (used - gap) (used - (used - gap)) (put_mid at (used - at) buffer closed) zeros) ≡ leaves buffer used (changed 0 (recount form 0 es))
      remove_leaves {r} {closed} {zeros} e p q =
          let part = mid_of at (used - at) buffer in
          let fits = stands_fits buffer used es h s in
          let moved : length closed ≡ length part = ap length p ∙ laid_length (drop gap part) part (omega (arith, length-drop gap part)) in
          let same : length (put_mid at (used - at) buffer closed) ≡ length buffer = same_len_mid at (used - at) buffer closed moved in
          let n : length (mid_of (used - gap) (used - (used - gap)) (put_mid at (used - at) buffer closed)) ≡ gap
          = mid_len (used - gap) used (put_mid at (used - at) buffer closed) (omega (arith, same, h.within)) ∙ omega (arith, gap_is, fits) in
          let c : used - gap ≡ cost (recount form 0 es)
          = omega (arith, removed_cost buffer used es h s gap_is, ap cost (removed_is buffer used es h s)) in
          ap (λ (r : Answer). leaving r used (put_mid (used - gap) (used - (used - gap)) (put_mid at (used - at) buffer closed) zeros)) e
          ∙ leaving_changed buffer used 0 (recount form 0 es) c (removed_by buffer used es h s gap_is p q n)

-- the entry of a form, as a change reads it
pub record Placed (buffer : List ℕ) (used : ℕ) (form : List ℕ) (at : ℕ) : Type 0 where
  pub within : used ≤ length buffer
  pub fits : at + 8 + u32_at buffer at ≤ used
  pub is : count_in form (present buffer used) ≡ u32_at buffer (at + 4)
  pub some : 0 < u32_at buffer (at + 4)

pub placed : (buffer : List ℕ) (used : ℕ) {form : List ℕ} {at : ℕ} → Seated buffer used → Stands form (present buffer used) at
    → Placed buffer used form at
placed buffer used h s =
    let es = present buffer used in
    let number = stands_number buffer used es h s in
    record {
      within = h.within;
      fits = omega (arith, stands_fits buffer used es h s, stands_size buffer used es h s);
      is = stands_is buffer used es h s ∙ sym number;
      some = omega (arith, stands_some buffer used es h s, number);
    }
