-- What the calls on a register keep, in K10's words: a refused call leaves everything (`refused_keeps`), bytes past the used lengths stay
-- (`past_stays`), and those freed are zero (`freed_zero`). Assumes nothing.
use mathlib.Core.Path.{◌≡◌, refl, ap, ap₂, sym, ◌∙◌, subst}
use Prim.Native.Nat.{ℕ, ◌+◌, ◌-◌, ◌≤◌, ◌<◌}
use native.Mathlib.Omega.{arith}
use mathlib.Core.List.{List, [], ◌++◌, append_assoc}
use lib.ListN.{length, get_or, drop, replicate, length-append, length-replicate, get_or-replicate, get_or-append}
use lib.Seq.{drop-append-add, drop-drop, get_or-append-add}
use Rattle.text.specs.Call.{guarded, text_check}
use Rattle.text.specs.Answers.{Answer}
use Rattle.text.specs.Answers.{Done, Refused}
use Rattle.register.specs.Entries.{Entry, cost, Change, changed, refused, add, withdraw}
use Rattle.register.specs.Stored.{Held, holds, damaged, bytes_of, register, written}
use Rattle.register.specs.RegisterCalls.{lent, leaves, of_held, add_call, withdraw_call, counted, count_call}
use Rattle.register.specs.CallLists.{Asked, adds, withdraws, counts, Store, answered, left_by, number_of}
use Rattle.register.proofs.StoredLaws.{bytes_cost}

-- ---- K10: a refused call leaves every byte

module _ (s : Store) where
  change_keeps : (r : Change) → (number_of (leaves s.buffer s.used r) ≡ 0 → ⊥) → left_by (leaves s.buffer s.used r) s ≡ s
  change_keeps (changed n es) k = absurd (k refl)
  change_keeps (refused number) k = refl

  guard_keeps : (r : Change) (a : Answer) → (number_of (guarded a (lent s.buffer s.used) (leaves s.buffer s.used r)) ≡ 0 → ⊥)
      → left_by (guarded a (lent s.buffer s.used) (leaves s.buffer s.used r)) s ≡ s
  guard_keeps r (Done first second) k = change_keeps r k
  guard_keeps r (Refused number first second) k = refl

  count_keeps : (f : List ℕ) (h : Held) (a : Answer) → left_by (guarded a [] (counted f h)) s ≡ s
  count_keeps f (holds es) (Done first second) = refl
  count_keeps f damaged (Done first second) = refl
  count_keeps f h (Refused number first second) = refl

  pub refused_keeps : (c : Asked) → (number_of (answered c s) ≡ 0 → ⊥) → left_by (answered c s) s ≡ s
  unfolding answered add_call withdraw_call count_call
  refused_keeps (adds f) k = guard_keeps (of_held (add (length s.buffer) f) (register s.buffer s.used)) (text_check f) k
  refused_keeps (withdraws f) k = guard_keeps (of_held (withdraw f) (register s.buffer s.used)) (text_check f) k
  refused_keeps (counts f) k = count_keeps f (register s.buffer s.used) (text_check f)

-- ---- K10: bytes past the used length otherwise stay, those freed at the end are zero

module _ (used : ℕ) (es : List Entry) (buffer : List ℕ) where
  abbrev zeros : List ℕ
  zeros = replicate (used - cost es) 0

  abbrev value : List ℕ
  value = bytes_of es ++ zeros

  value_length : length value ≡ cost es + (used - cost es)
  value_length = length-append (bytes_of es) zeros ∙ ap₂ ◌+◌ (bytes_cost es) (length-replicate (used - cost es) 0)

  written_past : (n : ℕ) → used ≤ n → cost es ≤ n → drop n (written used es buffer) ≡ drop n buffer
  unfolding written
  written_past n h g =
      let k = n - length value in
      let q : n ≡ length value + k = omega (arith, value_length) in
      ap (λ (m : ℕ). drop m (value ++ drop (length value) buffer)) q
      ∙ drop-append-add value (drop (length value) buffer) k
      ∙ drop-drop k (length value) buffer
      ∙ ap (λ (m : ℕ). drop m buffer) (sym q)

  written_freed : (k : ℕ) → cost es ≤ k → k < used → get_or (written used es buffer) k 0 ≡ 0
  unfolding written
  written_freed k h g =
      let i = k - cost es in
      let rest = drop (length value) buffer in
      let n : length zeros ≡ used - cost es = length-replicate (used - cost es) 0 in
      let q : k ≡ length (bytes_of es) + i = omega (arith, bytes_cost es) in
      ap₂ (λ (l : List ℕ) (m : ℕ). get_or l m 0) (append_assoc (bytes_of es) zeros rest) q
      ∙ get_or-append-add (bytes_of es) (zeros ++ rest) i 0
      ∙ get_or-append zeros rest 0 i (omega (arith, n))
      ∙ get_or-replicate (used - cost es) i 0 0 (omega arith)

module _ (s : Store) where
  -- what a call leaves is what it was lent, or the buffer with other entries
  module _ (P : Store → Type 0) (same : P s) (other : (es : List Entry) → P (record { buffer = written s.used es s.buffer; used = cost es })) where
    change_leaves : (r : Change) → P (left_by (leaves s.buffer s.used r) s)
    change_leaves (changed n es) = other es
    change_leaves (refused number) = same

    guard_leaves : (r : Change) (a : Answer) → P (left_by (guarded a (lent s.buffer s.used) (leaves s.buffer s.used r)) s)
    guard_leaves r (Done first second) = change_leaves r
    guard_leaves r (Refused number first second) = same

    call_leaves : (c : Asked) → P (left_by (answered c s) s)
    unfolding answered add_call withdraw_call count_call
    call_leaves (adds f) = guard_leaves (of_held (add (length s.buffer) f) (register s.buffer s.used)) (text_check f)
    call_leaves (withdraws f) = guard_leaves (of_held (withdraw f) (register s.buffer s.used)) (text_check f)
    call_leaves (counts f) = subst P (sym (count_keeps s f (register s.buffer s.used) (text_check f))) same

  pub past_stays : (c : Asked) (n : ℕ) → s.used ≤ n → (left_by (answered c s) s).used ≤ n → drop n (left_by (answered c s) s).buffer ≡ drop n s.buffer
  past_stays c n h =
      call_leaves (λ (t : Store). t.used ≤ n → drop n t.buffer ≡ drop n s.buffer) (λ g. refl)
      (λ es g. written_past s.used es s.buffer n h g) c

  pub freed_zero : (c : Asked) (k : ℕ) → (left_by (answered c s) s).used ≤ k → k < s.used → get_or (left_by (answered c s) s).buffer k 0 ≡ 0
  freed_zero c k =
      call_leaves (λ (t : Store). t.used ≤ k → k < s.used → get_or t.buffer k 0 ≡ 0) (λ h g. absurd (omega (arith, h, g)))
      (λ es h g. written_freed s.used es s.buffer k h g) c
