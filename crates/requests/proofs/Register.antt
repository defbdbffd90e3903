-- K10, of the calls: after every list of calls from an empty register each count is the accepted adds minus the accepted withdrawals
-- (`k10_counts`), no call answered 28 (`k10_no_28`), and the register is what the request says (`k10_used`, `k10_zero`, `k10_order`,
-- `k10_bytes`). Bytes and entries of any register determine each other (`k10_same_entries`, `k10_same_bytes`); a refused call leaves
-- everything (`k10_refused`), freed bytes are zero (`k10_freed`), others stay (`k10_past`); what is no register is 28 (`k10_28_add`,
-- `k10_28_withdraw`, `k10_28_count`); and demand 1 holds of them (`k10_add_refuses`, `k10_withdraw_refuses`, `k10_count_refuses`). Assumes
-- nothing.
use mathlib.Core.Path.{◌≡◌, refl, ap, sym, ◌∙◌, subst}
use mathlib.Core.Logic.{◌≢◌, ◌↔◌}
use Prim.Native.Nat.{ℕ, ◌+◌, ◌-◌, ◌≤◌, ◌<◌}
use native.Mathlib.Omega.{arith}
use mathlib.Core.Bool.{Bool, true, false}
use mathlib.Core.List.{List, [], ◌∷◌, ◌++◌}
use lib.Dec.{eqb, ltb}
use lib.ListN.{length, get_or, take, drop}
use borrow.Author.Tests.{eqb-true, eqb-false, ltb-true, ltb-false}
use Rattle.text.specs.Bytes.{pick, same_bytes}
use Rattle.text.specs.Utf8.{WellFormed}
use Rattle.text.specs.Call.{Called, called, guarded, length_check, utf8_check, text_check, passed, longest_text}
use Rattle.text.specs.Answers.{Answer}
use Rattle.text.specs.Answers.{Done, Refused}
use Rattle.text.proofs.Bytes.{pick_both}
use Rattle.register.specs.Entries.{Entry, entry, cost, count_in, recount, largest_count, Change, changed, refused, add, withdraw, absent}
use Rattle.register.specs.Stored.{Held, holds, damaged, bytes_of, entries, intact, register, written}
use Rattle.register.specs.RegisterCalls.{lent, leaves, of_held, add_call, withdraw_call, counted, count_call}
use Rattle.register.specs.CallLists.{Asked, adds, withdraws, counts, Store, empty, answered, left_by, number_of, after_calls, accepted_of, is_add, is_withdrawal, forms, became_by, None}
use Rattle.register.specs.Places.{Small, Narrow}
use Rattle.register.proofs.Replays.{replayed, replayed_count}
use Rattle.register.proofs.Keeping.{refused_keeps, past_stays, freed_zero}
use Rattle.register.proofs.Sits.{sits_cost, held_entries, held_sits}
use Rattle.govlezna.specs.Calls.{register_add_call, register_withdraw_call, register_count_call}
use Rattle.demands.specs.CallDemands.{listed, Refuses, success, refusal}
use Rattle.demands.proofs.Numbers.{By, by_then, by_length, by_utf8}
use Rattle.demands.proofs.CallDemands.{length_passes, utf8_passes}
use Rattle.requests.specs.Register.{Present, Counts, Full, no_room, at_most}

-- ---- lists of calls from an empty register, nothing else writing

-- the calls of a list are the exported ones
pub k10_calls : (f : List ℕ) (s : Store)
    → (answered (adds f) s ≡ register_add_call f s.buffer s.used)
    × (answered (withdraws f) s ≡ register_withdraw_call f s.buffer s.used)
    × (answered (counts f) s ≡ register_count_call f s.buffer s.used)
unfolding answered
k10_calls f s = (refl, refl, refl)

form_passes : (g : List ℕ) → WellFormed g → length g ≤ longest_text → text_check g ≡ passed
form_passes g w l = rw (length_passes g l, utf8_passes g w) refl

module _ (buffer : List ℕ) (cs : List Asked) where
  abbrev start : Store
  start = empty buffer

  abbrev end : Store
  end = after_calls cs start

  -- "each count is the accepted adds minus the accepted withdrawals of that form", which never are more (`k10_fewer`)
  pub k10_counts : (g : List ℕ) → WellFormed g → length g ≤ longest_text
      → register_count_call g end.buffer end.used ≡ called 0 ((accepted_of (is_add g) cs start - accepted_of (is_withdrawal g) cs start) ∷ 0 ∷ []) []
  k10_counts g w l = sym (k10_calls g end).2 ∙ replayed_count buffer g cs (form_passes g w l)

  pub k10_fewer : (g : List ℕ) → accepted_of (is_withdrawal g) cs start ≤ accepted_of (is_add g) cs start
  k10_fewer g = (replayed buffer cs).fewer g

  -- 28 is for what others wrote: no call of such a list answers it
  pub k10_no_28 : None 28 cs start
  k10_no_28 = (replayed buffer cs).none28

  -- there is a register after them
  pub k10_holds : Present end.buffer end.used
  k10_holds = record { present = (replayed buffer cs).present; held = (replayed buffer cs).is }

  -- the entries that the list leaves
  module _ (es : List Entry) (held : register end.buffer end.used ≡ holds es) where
    left : (replayed buffer cs).present ≡ es
    left = let q : holds (replayed buffer cs).present ≡ holds es = sym (replayed buffer cs).is ∙ held in cc

    -- "Each present form costs its bytes plus 8": the used length is the sum of these
    pub k10_used : end.used ≡ cost es
    k10_used = (replayed buffer cs).costs ∙ ap cost left

    -- "A form whose count is zero uses no space": no entry has it
    pub k10_zero : (g : List ℕ) → count_in g es ≡ 0 → absent g es ≡ true
    k10_zero g = subst (λ (x : List Entry). count_in g x ≡ 0 → absent g x ≡ true) left ((replayed buffer cs).gone g)

    -- "entries in the order in which they became present"
    pub k10_order : forms es ≡ became_by cs start []
    k10_order = sym (ap forms left) ∙ (replayed buffer cs).ordered

    -- "length and count, u32 little-endian, before the bytes": the used bytes are those of the entries, and no others
    pub k10_bytes : take end.used end.buffer ≡ bytes_of es
    k10_bytes = (replayed buffer cs).bytes ∙ ap bytes_of left

-- ---- any register: what the bytes hold determines the entries, and the other way round

module _ (buffer buffer' : List ℕ) (used used' : ℕ) (es es' : List Entry) (held : register buffer used ≡ holds es) (held' : register buffer' used' ≡ holds es') where
  pub k10_same_entries : take used buffer ≡ take used' buffer' → es ≡ es'
  k10_same_entries e =
      let q : holds es ≡ holds es' = sym (held_entries buffer used es held) ∙ ap entries e ∙ held_entries buffer' used' es' held' in
      cc

  pub k10_same_bytes : Small buffer → Small buffer' → es ≡ es' → take used buffer ≡ take used' buffer'
  k10_same_bytes s s' e = (held_sits buffer used es held s).is ∙ ap bytes_of e ∙ sym (held_sits buffer' used' es' held' s').is

-- ---- any call, whatever it is lent

module _ (s : Store) (c : Asked) where
  -- "A refused call leaves every byte", and the used length
  pub k10_refused : (number_of (answered c s) ≡ 0 → ⊥) → left_by (answered c s) s ≡ s
  k10_refused = refused_keeps s c

  -- "zeroes the bytes freed at the end"
  pub k10_freed : (k : ℕ) → (left_by (answered c s) s).used ≤ k → k < s.used → get_or (left_by (answered c s) s).buffer k 0 ≡ 0
  k10_freed = freed_zero s c

  -- "bytes past the used length otherwise stay"
  pub k10_past : (n : ℕ) → s.used ≤ n → (left_by (answered c s) s).used ≤ n → drop n (left_by (answered c s) s).buffer ≡ drop n s.buffer
  k10_past = past_stays s c

-- "28, after 5 and before the form is looked for", when the used bytes are no register
module _ (f : List ℕ) (w : WellFormed f) (l : length f ≤ longest_text) (buffer : List ℕ) (used : ℕ) (broken : intact buffer used ≡ false) where
  no_register : register buffer used ≡ damaged
  unfolding register
  no_register = rw broken refl

  pub k10_28_add : register_add_call f buffer used ≡ called 28 (0 ∷ 0 ∷ []) (lent buffer used)
  unfolding add_call
  k10_28_add = rw (form_passes f w l, no_register) refl

  pub k10_28_withdraw : register_withdraw_call f buffer used ≡ called 28 (0 ∷ 0 ∷ []) (lent buffer used)
  unfolding withdraw_call
  k10_28_withdraw = rw (form_passes f w l, no_register) refl

  pub k10_28_count : register_count_call f buffer used ≡ called 28 (0 ∷ 0 ∷ []) []
  unfolding count_call
  k10_28_count = rw (form_passes f w l, no_register) refl

-- ---- 29 and 30, exactly when

count_narrow : (f : List ℕ) (es : List Entry) → Narrow es → count_in f es < 0x100000000
unfolding count_in
count_narrow f [] n = omega arith
count_narrow f (e ∷ es) n = pick_both (λ (k : ℕ). k < 0x100000000) (same_bytes e.form f) {a = e.count} {b = count_in f es} n.1 (count_narrow f es n.2)

-- a form that 1 or 5 refuses is refused by no other number
form_numbers_lem : (f : List ℕ) → By (λ (n : ℕ). (n ≢ 0) × (n ≢ 29) × (n ≢ 30)) (text_check f)
form_numbers_lem f =
    by_then (λ (n : ℕ). (n ≢ 0) × (n ≢ 29) × (n ≢ 30)) (length_check f) (utf8_check f)
    (by_length (λ (n : ℕ). (n ≢ 0) × (n ≢ 29) × (n ≢ 30)) (λ z. omega (arith, z), λ z. omega (arith, z), λ z. omega (arith, z)) f)
    (by_utf8 (λ (n : ℕ). (n ≢ 0) × (n ≢ 29) × (n ≢ 30)) (λ z. omega (arith, z), λ z. omega (arith, z), λ z. omega (arith, z)) f)

module _ (f buffer : List ℕ) (used : ℕ) where
  -- "29 when a withdrawn form is absent": exactly when the call for its count answers 0
  pub k10_29 : (number_of (register_withdraw_call f buffer used) ≡ 29) ↔ Counts f buffer used 0
  unfolding withdraw_call count_call withdraw
  k10_29 = go (text_check f) (form_numbers_lem f) (register buffer used)
    where
      held : (es : List Entry) (zero : Bool) → eqb (count_in f es) 0 ≡ zero
          → (number_of (leaves buffer used (pick zero (refused 29) (changed (count_in f es - 1) (recount f (count_in f es - 1) es)))) ≡ 29)
          ↔ (called 0 (count_in f es ∷ 0 ∷ []) [] ≡ called 0 (0 ∷ 0 ∷ []) [])
      held es true q = (λ e. ap (λ (n : ℕ). called 0 (n ∷ 0 ∷ []) []) (eqb-true (count_in f es) 0 q), λ e. refl)
      held es false q = (λ e. absurd (omega (arith, e)), λ e. let z : count_in f es ≡ 0 = cc in absurd (eqb-false (count_in f es) 0 q z))

      go : (c : Answer) → By (λ (n : ℕ). (n ≢ 0) × (n ≢ 29) × (n ≢ 30)) c → (h : Held)
          → (number_of (guarded c (lent buffer used) (leaves buffer used (of_held (withdraw f) h))) ≡ 29) ↔ (guarded c [] (counted f h) ≡ called 0 (0 ∷ 0 ∷ []) [])
      go (Refused why first second) k h = (λ e. absurd (k.1 e), λ e. let z : why ≡ 0 = cc in absurd (k.0 z))
      go (Done first second) k (holds es) = held es (eqb (count_in f es) 0) refl
      go (Done first second) k damaged = (λ e. absurd (omega (arith, e)), λ e. let z : ◌≡◌ {A = ℕ} 28 0 = cc in absurd (omega (arith, z)))

  -- where the call for the count answers otherwise, neither way of being full is met
  not_full : {number : ℕ} {words : List ℕ} → number ≢ 0 → register_count_call f buffer used ≡ called number words [] → Full f buffer used → ⊥
  not_full {number} {words} h e (no_room c l) = let q : called number words [] ≡ called 0 (0 ∷ 0 ∷ []) [] = sym e ∙ c in let z : number ≡ 0 = cc in h z
  not_full {number} {words} h e (at_most c) = let q : called number words [] ≡ called 0 (largest_count ∷ 0 ∷ []) [] = sym e ∙ c in let z : number ≡ 0 = cc in h z

  -- a register whose used length is the cost of its entries
  module _ (es : List Entry) (costs : used ≡ cost es) (narrow : count_in f es < 0x100000000) (is : Counts f buffer used (count_in f es)) where
    of_count : (k : ℕ) → Counts f buffer used k → count_in f es ≡ k
    of_count k c = let q : called 0 (count_in f es ∷ 0 ∷ []) [] ≡ called 0 (k ∷ 0 ∷ []) [] = sym is ∙ c in cc

    fits : (length buffer < cost es + (8 + length f) → ⊥) → (count_in f es ≡ largest_count → ⊥) → Full f buffer used → ⊥
    fits room most (no_room c l) = room (omega (arith, l, costs))
    fits room most (at_most c) = most (of_count largest_count c)

    counted_more : (count_in f es ≡ 0 → ⊥) → (count_in f es ≡ largest_count → ⊥) → Full f buffer used → ⊥
    counted_more some most (no_room c l) = some (of_count 0 c)
    counted_more some most (at_most c) = most (of_count largest_count c)

    by_cases : (zero full below : Bool) → eqb (count_in f es) 0 ≡ zero → ltb (length buffer) (cost es + (8 + length f)) ≡ full → ltb (count_in f es) largest_count ≡ below
        → (fresh more : List Entry)
        → (number_of (leaves buffer used (pick zero (pick full (refused 30) (changed 1 fresh)) (pick below (changed (count_in f es + 1) more) (refused 30)))) ≡ 30) ↔ Full f buffer used
    by_cases true true below z l b fresh more =
        (λ e. no_room (is ∙ ap (λ (k : ℕ). called 0 (k ∷ 0 ∷ []) []) (eqb-true (count_in f es) 0 z)) (rw costs (ltb-true (length buffer) (cost es + (8 + length f)) l)), λ x. refl)
    by_cases true false below z l b fresh more =
        let q = eqb-true (count_in f es) 0 z in
        let r = ltb-false (length buffer) (cost es + (8 + length f)) l in
        (λ e. absurd (omega (arith, e)), λ x. absurd (fits (λ h. omega (arith, h, r)) (λ h. omega (arith, h, q)) x))
    by_cases false full true z l b fresh more =
        let q = eqb-false (count_in f es) 0 z in
        let r = ltb-true (count_in f es) largest_count b in
        (λ e. absurd (omega (arith, e)), λ x. absurd (counted_more q (λ h. omega (arith, h, r)) x))
    by_cases false full false z l b fresh more =
        let r = ltb-false (count_in f es) largest_count b in
        let most : count_in f es ≡ largest_count = omega (arith, r, narrow) in
        (λ e. at_most (is ∙ ap (λ (k : ℕ). called 0 (k ∷ 0 ∷ []) []) most), λ x. refl)

    held_30 : (number_of (leaves buffer used (add (length buffer) f es)) ≡ 30) ↔ Full f buffer used
    unfolding add
    held_30 =
        by_cases (eqb (count_in f es) 0) (ltb (length buffer) (cost es + (8 + length f))) (ltb (count_in f es) largest_count) refl refl refl (es ++ (entry f 1 ∷ []))
        (recount f (count_in f es + 1) es)

  -- "30 when a new form would push the cost past the buffer or a count would pass 4,294,967,295": exactly then, of any buffer of bytes
  pub k10_30 : Small buffer → (number_of (register_add_call f buffer used) ≡ 30) ↔ Full f buffer used
  unfolding add_call count_call
  k10_30 small = go (text_check f) refl (form_numbers_lem f) (register buffer used) refl
    where
      go : (c : Answer) → text_check f ≡ c → By (λ (n : ℕ). (n ≢ 0) × (n ≢ 29) × (n ≢ 30)) c → (h : Held) → register buffer used ≡ h
          → (number_of (guarded c (lent buffer used) (leaves buffer used (of_held (add (length buffer) f) h))) ≡ 30) ↔ Full f buffer used
      go (Refused why first second) t k h r = (λ e. absurd (k.2 e), λ x. absurd (not_full {number = why} {words = first ∷ second ∷ []} k.0 (rw t refl) x))
      go (Done first second) t k (holds es) r =
          let sits = held_sits buffer used es r small in
          held_30 es (sits_cost buffer used es sits) (count_narrow f es sits.sound.narrow) (rw (t, r) refl)
      go (Done first second) t k damaged r =
          (λ e. absurd (omega (arith, e)), λ x. absurd (not_full {number = 28} {words = 0 ∷ 0 ∷ []} (λ z. omega (arith, z)) (rw (t, r) refl) x))

-- ---- demand 1, of these calls: they answer 0, or refuse by one of their numbers and leave what they were lent

module _ (numbers : List ℕ) where
  abbrev In : ℕ → Type 0
  In n = listed n numbers ≡ true

  abbrev RefusedBy : Change → Type 0
  RefusedBy (changed n es) = Unit {0}
  RefusedBy (refused number) = In number

  guarded_refuses : (entry : List (List ℕ)) (a : Answer) (rest : Called) → By In a → Refuses numbers entry rest → Refuses numbers entry (guarded a entry rest)
  guarded_refuses entry (Done first second) rest h k = k
  guarded_refuses entry (Refused number first second) rest h k = refusal number (first ∷ second ∷ []) h

  by_form : In 1 → In 5 → (f : List ℕ) → By In (text_check f)
  by_form h k f = by_then In (length_check f) (utf8_check f) (by_length In h f) (by_utf8 In k f)

  leaves_refuses : (buffer : List ℕ) (used : ℕ) (r : Change) → RefusedBy r → Refuses numbers (lent buffer used) (leaves buffer used r)
  leaves_refuses buffer used (changed n es) h = success (n ∷ cost es ∷ []) (lent (written used es buffer) (cost es))
  leaves_refuses buffer used (refused number) h = refusal number (0 ∷ 0 ∷ []) h

  held_refused : In 28 → (change : List Entry → Change) → ((es : List Entry) → RefusedBy (change es)) → (h : Held) → RefusedBy (of_held change h)
  held_refused k change by (holds es) = by es
  held_refused k change by damaged = k

  change_refuses : In 1 → In 5 → In 28 → (change : List Entry → Change) → ((es : List Entry) → RefusedBy (change es)) → (f buffer : List ℕ) (used : ℕ)
      → Refuses numbers (lent buffer used) (guarded (text_check f) (lent buffer used) (leaves buffer used (of_held change (register buffer used))))
  change_refuses one five k change by f buffer used =
      let r = of_held change (register buffer used) in
      guarded_refuses (lent buffer used) (text_check f) (leaves buffer used r) (by_form one five f)
      (leaves_refuses buffer used r (held_refused k change by (register buffer used)))

abbrev add_numbers : List ℕ
add_numbers = 1 ∷ 5 ∷ 28 ∷ 30 ∷ []

abbrev withdraw_numbers : List ℕ
withdraw_numbers = 1 ∷ 5 ∷ 28 ∷ 29 ∷ []

abbrev count_numbers : List ℕ
count_numbers = 1 ∷ 5 ∷ 28 ∷ []

pub k10_add_refuses : (f buffer : List ℕ) (used : ℕ) → Refuses add_numbers (lent buffer used) (register_add_call f buffer used)
unfolding add_call add
k10_add_refuses f buffer used = change_refuses add_numbers refl refl refl (add (length buffer) f) by f buffer used
  where
    by : (es : List Entry) → RefusedBy add_numbers (add (length buffer) f es)
    by es =
        let n = count_in f es in
        let fresh = changed 1 (es ++ (entry f 1 ∷ [])) in
        let more = changed (n + 1) (recount f (n + 1) es) in
        pick_both (RefusedBy add_numbers) (eqb n 0) {a = pick (ltb (length buffer) (cost es + (8 + length f))) (refused 30) fresh} {b = pick (ltb n largest_count) more (refused 30)}
        (pick_both (RefusedBy add_numbers) (ltb (length buffer) (cost es + (8 + length f))) {a = refused 30} {b = fresh} refl tt)
        (pick_both (RefusedBy add_numbers) (ltb n largest_count) {a = more} {b = refused 30} tt refl)

pub k10_withdraw_refuses : (f buffer : List ℕ) (used : ℕ) → Refuses withdraw_numbers (lent buffer used) (register_withdraw_call f buffer used)
unfolding withdraw_call withdraw
k10_withdraw_refuses f buffer used = change_refuses withdraw_numbers refl refl refl (withdraw f) by f buffer used
  where
    by : (es : List Entry) → RefusedBy withdraw_numbers (withdraw f es)
    by es =
        let n = count_in f es in
        pick_both (RefusedBy withdraw_numbers) (eqb n 0) {a = refused 29} {b = changed (n - 1) (recount f (n - 1) es)} refl tt

pub k10_count_refuses : (f buffer : List ℕ) (used : ℕ) → Refuses count_numbers [] (register_count_call f buffer used)
unfolding count_call
k10_count_refuses f buffer used =
    guarded_refuses count_numbers [] (text_check f) (counted f (register buffer used)) (by_form count_numbers refl refl f) (go (register buffer used))
  where
    go : (h : Held) → Refuses count_numbers [] (counted f h)
    go (holds es) = success (count_in f es ∷ 0 ∷ []) []
    go damaged = refusal 28 (0 ∷ 0 ∷ []) refl
