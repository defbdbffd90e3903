-- K10: over every list of calls from an empty register (`replayed`, `replayed_count`). Assumes nothing.
use mathlib.Core.Path.{◌≡◌, refl, ap, ◌∙◌, subst}
use Prim.Native.Nat.{ℕ, ◌+◌, ◌-◌, ◌≤◌, ◌<◌}
use native.Mathlib.Omega.{arith}
use mathlib.Core.Bool.{Bool, true, false, ◌&&◌}
use mathlib.Core.List.{List, [], ◌∷◌, ◌++◌, map-append}
use lib.Dec.{eqb, ltb}
use lib.ListN.{length}
use borrow.Author.Tests.{eqb-true, eqb-false, ne_eqb, ltb-true, ltb-false}
use Rattle.text.specs.Bytes.{pick, same_bytes}
use Rattle.text.specs.Utf8.{utf8_end, well_formed}
use Rattle.text.specs.Call.{Called, called, guarded, and_then, passed, length_check, utf8_check, text_check, longest_text}
use Rattle.text.specs.Answers.{Answer}
use Rattle.text.specs.Answers.{Done, Refused}
use Rattle.text.proofs.Bytes.{pick_both, pick_by, same_equal}
use Rattle.text.proofs.Longest.{end_whole}
use Rattle.text.proofs.Utf8.{testable}
use Rattle.register.specs.Entries.{Entry, entry, cost, count_in, recount, largest_count, Change, changed, refused, add, withdraw}
use Rattle.register.specs.Stored.{holds, bytes_of, register}
use Rattle.register.specs.RegisterCalls.{lent, leaves, of_held, add_call, withdraw_call, counted, count_call}
use Rattle.register.specs.CallLists.{Asked, adds, withdraws, counts, Store, empty, answered, left_by, number_of, after_calls, accepted_of, is_add, is_withdrawal, forms, without, becoming, became_by, None, Replayed}
use Rattle.register.specs.Places.{Narrow, Absent, Sound, Sits}
use Rattle.register.proofs.StoredLaws.{narrow_join, cost_join}
use Rattle.register.proofs.Counts.{zero_absent, true_absent, recount_same, recount_other, recount_good, recount_distinct, recount_narrow, recount_cost, end_same, end_other, end_good, end_distinct}
use Rattle.register.proofs.Order.{recount_forms, recount_without, becoming_refused}
use Rattle.register.proofs.Sits.{sits_cost, sits_register, written_length, written_sits}

-- ---- the checks of the form

-- what passes is UTF-8 and short, and no refusal is 0 or 28
abbrev pub Checked : List ℕ → Answer → Type 0
Checked f (Done first second) = (well_formed f ≡ true) × (length f ≤ longest_text)
Checked f (Refused number first second) = (number ≡ 0 → ⊥) × (number ≡ 28 → ⊥)

differ : (a b : ℕ) → eqb a b ≡ false → a ≡ b → ⊥
differ a b e = eqb-false a b e

pub form_checked : (f : List ℕ) → Checked f (text_check f)
unfolding length_check utf8_check
form_checked f = go (ltb longest_text (length f)) refl (eqb (utf8_end f) (length f)) refl
  where
    go : (t : Bool) → ltb longest_text (length f) ≡ t → (u : Bool) → eqb (utf8_end f) (length f) ≡ u
        → Checked f (and_then (pick t (Refused 1 (length f) 0) passed) (pick u passed (Refused 5 (utf8_end f) 0)))
    go true q u r = (differ 1 0 refl, differ 1 28 refl)
    go false q true r =
        (testable f (end_whole f (eqb-true (utf8_end f) (length f) r)), ltb-false longest_text (length f) q)
    go false q false r = (differ 5 0 refl, differ 5 28 refl)

count_narrow : (f : List ℕ) (es : List Entry) → Narrow es → count_in f es < 0x100000000
unfolding count_in
count_narrow f [] n = omega arith
count_narrow f (e ∷ es) n = pick_both (λ (k : ℕ). k < 0x100000000) (same_bytes e.form f) {a = e.count} {b = count_in f es} n.1 (count_narrow f es n.2)

-- ---- one call: what it leaves is a register, and each form's count moves by what was accepted of it

pub record Moves (c : Asked) (s : Store) (es : List Entry) (r : Called) : Type 0 where
  pub after : List Entry
  pub sits : Sits (left_by r s).buffer (left_by r s).used after
  pub moved : (g : List ℕ) → count_in g after + pick (is_withdrawal g c && eqb (number_of r) 0) 1 0 ≡ count_in g es + pick (is_add g c && eqb (number_of r) 0) 1 0
  pub order : forms after ≡ becoming c r (forms es)
  pub not28 : number_of r ≡ 28 → ⊥
  pub size : length (left_by r s).buffer ≡ length s.buffer

and_false : (a : Bool) → a && false ≡ false
and_false true = refl
and_false false = refl

module _ (s : Store) (es : List Entry) (h : Sits s.buffer s.used es) where
  -- a refusal
  still : (c : Asked) (number first second : ℕ) → (number ≡ 0 → ⊥) → (number ≡ 28 → ⊥)
      → Moves c s es (called number (first ∷ second ∷ []) (lent s.buffer s.used))
  still c number first second n m =
      record {
        after = es;
        sits = h;
        moved = λ g. rw (ne_eqb number 0 n, and_false (is_withdrawal g c), and_false (is_add g c)) refl;
        order = becoming_refused c number n (first ∷ second ∷ []) (lent s.buffer s.used) (forms es);
        not28 = m;
        size = refl;
      }

  -- an accepted change to entries that the buffer has room for
  changes : (c : Asked) (n : ℕ) (new : List Entry) → Sound new → cost new ≤ length s.buffer
      → ((g : List ℕ) → count_in g new + pick (is_withdrawal g c && true) 1 0 ≡ count_in g es + pick (is_add g c && true) 1 0)
      → forms new ≡ becoming c (leaves s.buffer s.used (changed n new)) (forms es)
      → Moves c s es (leaves s.buffer s.used (changed n new))
  changes c n new sound room moved order =
      record {
        after = new;
        sits = written_sits s.buffer s.used new h.within room sound;
        moved = moved;
        order = order;
        not28 = differ 0 28 refl;
        size = written_length s.buffer s.used new h.within room;
      }

  module _ (f : List ℕ) (w : well_formed f ≡ true) (short : length f ≤ longest_text) where
    end_sound : Absent f es → Sound (es ++ (entry f 1 ∷ []))
    end_sound a =
        record {
          narrow = narrow_join es (entry f 1 ∷ []) h.sound.narrow (omega arith, omega arith, tt);
          good = end_good f w es h.sound.good;
          distinct = end_distinct f es a h.sound.distinct;
        }

    recount_sound : (n : ℕ) → n < 0x100000000 → Sound (recount f n es)
    recount_sound n k =
        record {
          narrow = recount_narrow f n k es h.sound.narrow;
          good = recount_good f n es h.sound.good;
          distinct = recount_distinct f n es h.sound.distinct;
        }

    recount_room : (n : ℕ) → cost (recount f n es) ≤ length s.buffer
    recount_room n = omega (arith, recount_cost f n es, sits_cost s.buffer s.used es h, h.within)

    -- the form's own count, and those of others
    by_form : (P : List ℕ → Bool → Type 0) → P f true → ((g : List ℕ) → same_bytes f g ≡ false → P g false) → (g : List ℕ) → P g (same_bytes f g)
    by_form P own other g = go (same_bytes f g) refl
      where
        go : (t : Bool) → same_bytes f g ≡ t → P g t
        go true q = subst (λ (x : List ℕ). P x true) (same_equal f g q) own
        go false q = other g q

    abbrev n : ℕ
    n = count_in f es

    abbrev new : List Entry
    new = entry f 1 ∷ []

    -- what a change of entries means for each call
    abbrev Adding : Change → Type 0
    Adding r = Moves (adds f) s es (leaves s.buffer s.used r)

    abbrev Taking : Change → Type 0
    Taking r = Moves (withdraws f) s es (leaves s.buffer s.used r)

    add_full : Adding (refused 30)
    add_full = still (adds f) 30 0 0 (differ 30 0 refl) (differ 30 28 refl)

    new_cost : cost (es ++ new) ≡ cost es + (8 + length f)
    new_cost = let last : cost new ≡ 8 + length f = unfold cost in omega arith in omega (arith, cost_join es new, last)

    add_new : n ≡ 0 → cost es + (8 + length f) ≤ length s.buffer → Adding (changed 1 (es ++ new))
    add_new z room =
        let a = zero_absent f es h.sound.good z in
        changes (adds f) 1 (es ++ new) (end_sound a) (rw new_cost room)
        (by_form (λ (g : List ℕ) (t : Bool). count_in g (es ++ new) + 0 ≡ count_in g es + pick (t && true) 1 0)
        (omega (arith, end_same f es a, z)) (λ g q. omega (arith, end_other f g q es)))
        (unfold becoming in map-append (λ (e : Entry). e.form) es new)

    add_more : (n ≡ 0 → ⊥) → n < largest_count → Adding (changed (n + 1) (recount f (n + 1) es))
    add_more z y =
        changes (adds f) (n + 1) (recount f (n + 1) es) (recount_sound (n + 1) (omega arith)) (recount_room (n + 1))
        (by_form (λ (g : List ℕ) (t : Bool). count_in g (recount f (n + 1) es) + 0 ≡ count_in g es + pick (t && true) 1 0)
        (omega (arith, recount_same f (n + 1) es h.sound.distinct z)) (λ g q. omega (arith, recount_other f (n + 1) g q es)))
        (unfold becoming in rw (ne_eqb (n + 1) 1 (λ q. z (omega (arith, q)))) (recount_forms f (n + 1) (omega arith) es))

    add_moves : Adding (add (length s.buffer) f es)
    unfolding add
    add_moves =
        let size = length s.buffer in
        let last = changed 1 (es ++ new) in
        let more = changed (n + 1) (recount f (n + 1) es) in
        pick_by Adding (eqb n 0) {a = pick (ltb size (cost es + (8 + length f))) (refused 30) last} {b = pick (ltb n largest_count) more (refused 30)}
        (λ z. pick_by Adding (ltb size (cost es + (8 + length f))) {a = refused 30} {b = last} (λ y. add_full)
        (λ y. add_new (eqb-true n 0 z) (ltb-false size (cost es + (8 + length f)) y)))
        (λ z. pick_by Adding (ltb n largest_count) {a = more} {b = refused 30} (λ y. add_more (eqb-false n 0 z) (ltb-true n largest_count y)) (λ y. add_full))

    -- with the last of a form goes its place in the order
    take_order : (t : Bool) → eqb (n - 1) 0 ≡ t → forms (recount f (n - 1) es) ≡ pick t (without f (forms es)) (forms es)
    take_order true q = recount_without f (n - 1) q es
    take_order false q = let k = eqb-false (n - 1) 0 q in recount_forms f (n - 1) (omega (arith, k)) es

    take_less : (n ≡ 0 → ⊥) → n < 0x100000000 → Taking (changed (n - 1) (recount f (n - 1) es))
    take_less z y =
        changes (withdraws f) (n - 1) (recount f (n - 1) es) (recount_sound (n - 1) (omega arith)) (recount_room (n - 1))
        (by_form (λ (g : List ℕ) (t : Bool). count_in g (recount f (n - 1) es) + pick (t && true) 1 0 ≡ count_in g es + 0)
        (omega (arith, recount_same f (n - 1) es h.sound.distinct z, z)) (λ g q. omega (arith, recount_other f (n - 1) g q es)))
        (unfold becoming in take_order (eqb (n - 1) 0) refl)

    take_moves : Taking (withdraw f es)
    unfolding withdraw
    take_moves =
        pick_by Taking (eqb n 0) {a = refused 29} {b = changed (n - 1) (recount f (n - 1) es)}
        (λ z. still (withdraws f) 29 0 0 (differ 29 0 refl) (differ 29 28 refl))
        (λ z. take_less (eqb-false n 0 z) (count_narrow f es h.sound.narrow))

  -- the three calls
  holding : register s.buffer s.used ≡ holds es
  holding = sits_register s.buffer s.used es h

  changing : (c : Asked) (f : List ℕ) (change : List Entry → Change)
      → (well_formed f ≡ true → length f ≤ longest_text → Moves c s es (leaves s.buffer s.used (change es)))
      → (a : Answer) → Checked f a → Moves c s es (guarded a (lent s.buffer s.used) (leaves s.buffer s.used (of_held change (register s.buffer s.used))))
  changing c f change moves (Done first second) k = rw holding (moves k.0 k.1)
  changing c f change moves (Refused number first second) k = still c number first second k.0 k.1

  counting : (f : List ℕ) (a : Answer) → Checked f a → Moves (counts f) s es (guarded a [] (counted f (register s.buffer s.used)))
  counting f (Done first second) k =
      rw holding (record { after = es; sits = h; moved = λ g. refl; order = unfold becoming in refl; not28 = differ 0 28 refl; size = refl })
  counting f (Refused number first second) k =
      record { after = es; sits = h; moved = λ g. refl; order = unfold becoming in refl; not28 = k.1; size = refl }

  pub call_moves : (c : Asked) → Moves c s es (answered c s)
  unfolding answered add_call withdraw_call count_call
  call_moves (adds f) = changing (adds f) f (add (length s.buffer) f) (λ w short. add_moves f w short) (text_check f) (form_checked f)
  call_moves (withdraws f) = changing (withdraws f) f (withdraw f) (λ w short. take_moves f w short) (text_check f) (form_checked f)
  call_moves (counts f) = counting f (text_check f) (form_checked f)

-- ---- lists of calls

pub record Replaying (s : Store) (es : List Entry) (cs : List Asked) : Type 0 where
  pub after : List Entry
  pub sits : Sits (after_calls cs s).buffer (after_calls cs s).used after
  pub moved : (g : List ℕ) → count_in g after + accepted_of (is_withdrawal g) cs s ≡ count_in g es + accepted_of (is_add g) cs s
  pub order : forms after ≡ became_by cs s (forms es)
  pub none28 : None 28 cs s
  pub size : length (after_calls cs s).buffer ≡ length s.buffer

pub replaying : (cs : List Asked) (s : Store) (es : List Entry) → Sits s.buffer s.used es → Replaying s es cs
unfolding after_calls accepted_of None became_by
replaying [] s es h = record { after = es; sits = h; moved = λ g. refl; order = refl; none28 = tt; size = refl }
replaying (c ∷ cs) s es h =
    let m = call_moves s es h c in
    let r = replaying cs (left_by (answered c s) s) m.after m.sits in
    record {
      after = r.after;
      sits = r.sits;
      moved = λ g. omega (arith, m.moved g, r.moved g);
      order = r.order ∙ ap (became_by cs (left_by (answered c s) s)) m.order;
      none28 = (m.not28, r.none28);
      size = r.size ∙ m.size;
    }

empty_sits : (buffer : List ℕ) → Sits buffer 0 []
empty_sits buffer = record { within = omega arith; is = unfold bytes_of in refl; sound = record { narrow = tt; good = tt; distinct = tt } }

pub replayed : (buffer : List ℕ) (cs : List Asked) → Replayed buffer cs
replayed buffer cs =
    let r = replaying cs (empty buffer) [] (empty_sits buffer) in
    let z : (g : List ℕ) → count_in g [] ≡ 0 = λ g. unfold count_in in refl in
    record {
      present = r.after;
      is = sits_register _ _ _ r.sits;
      counted = λ g. omega (arith, r.moved g, z g);
      fewer = λ g. omega (arith, r.moved g, z g);
      gone = λ g e. true_absent g r.after (zero_absent g r.after r.sits.sound.good e);
      costs = sits_cost _ _ _ r.sits;
      bytes = r.sits.is;
      ordered = r.order;
      none28 = r.none28;
      size = r.size;
    }

-- K10: the call itself counts so
pub replayed_count : (buffer g : List ℕ) (cs : List Asked) {first second : ℕ} → text_check g ≡ Done first second
    → answered (counts g) (after_calls cs (empty buffer))
    ≡ called 0 ((accepted_of (is_add g) cs (empty buffer) - accepted_of (is_withdrawal g) cs (empty buffer)) ∷ 0 ∷ []) []
unfolding answered count_call
replayed_count buffer g cs e =
    let r = replayed buffer cs in
    rw (e, r.is) (ap (λ (n : ℕ). called 0 (n ∷ 0 ∷ []) []) (r.counted g))
