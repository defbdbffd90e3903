-- A register that sits in a buffer: what a call writes sits there again (`written_sits`), and what is intact or read sits (`intact_sits`,
-- `held_sits`). Assumes nothing.
use mathlib.Core.Path.{◌≡◌, refl, ap, ap₂, sym, ◌∙◌, subst}
use Prim.Native.Nat.{ℕ, ◌+◌, ◌-◌, ◌≤◌, ◌<◌}
use native.Mathlib.Omega.{arith}
use mathlib.Core.Bool.{Bool, true, false, ◌&&◌}
use mathlib.Core.List.{List, ◌++◌, append_assoc}
use lib.Dec.{leb, ltb}
use lib.ListN.{length, get_or, take, drop, replicate, length-append, length-take, length-drop, length-replicate, get_or-eq_default}
use lib.Seq.{take-append_seam, length-take-le, get_or-take}
use borrow.Author.Tests.{le-leb, leb-true, ltb-true, ltb-false}
use Rattle.text.proofs.Bytes.{and_left, and_right, contrary}
use Rattle.register.specs.Entries.{Entry, cost, good, distinct}
use Rattle.register.specs.Stored.{Held, holds, damaged, bytes_of, entries, sound, intact, register, written}
use Rattle.register.proofs.StoredLaws.{not_held, bytes_cost, entries_of_bytes, bytes_of_entries}
use Rattle.register.specs.Places.{Small, Sound, Sits, listed, entries_in}
use Rattle.register.proofs.Counts.{good_true, true_good, distinct_true, true_distinct}

-- the used length is the cost
pub sits_cost : (buffer : List ℕ) (used : ℕ) (es : List Entry) → Sits buffer used es → used ≡ cost es
sits_cost buffer used es s = sym (length-take-le used buffer s.within) ∙ ap length s.is ∙ bytes_cost es

pub sound_entries : (es : List Entry) → Sound es → sound (entries (bytes_of es)) ≡ true
sound_entries es s = ap sound (entries_of_bytes es s.narrow) ∙ unfold sound in rw (true_good es s.good) (true_distinct es s.distinct)

pub sits_register : (buffer : List ℕ) (used : ℕ) (es : List Entry) → Sits buffer used es → register buffer used ≡ holds es
unfolding register intact
sits_register buffer used es s =
    rw (s.is, le-leb used (length buffer) s.within, sound_entries es s.sound) (entries_of_bytes es s.sound.narrow)

-- ---- what is intact

sound_held : (h : Held) → sound h ≡ true → (h ≡ holds (listed h)) × (good (listed h) ≡ true) × (distinct (listed h) ≡ true)
unfolding sound
sound_held (holds es) e = (refl, and_left (good es) (distinct es) e, and_right (good es) (distinct es) e)
sound_held damaged e = contrary e refl

length_take_most : (n : ℕ) (l : List ℕ) → length (take n l) ≤ n
length_take_most n l = omega (arith, length-take n l)

small_take : (n : ℕ) (l : List ℕ) → Small l → Small (take n l)
small_take n l s k = go (ltb k n) refl
  where
    go : (t : Bool) → ltb k n ≡ t → get_or (take n l) k 0 < 0x100
    go true q = subst (λ (b : ℕ). b < 0x100) (sym (get_or-take n l k 0 (ltb-true k n q))) (s k)
    go false q =
        let g = ltb-false k n q in
        let z : get_or (take n l) k 0 ≡ 0 = get_or-eq_default (take n l) 0 (omega (arith, length_take_most n l)) in
        omega (arith, z)

pub intact_sits : (buffer : List ℕ) (used : ℕ) → Small buffer → intact buffer used ≡ true → Sits buffer used (entries_in (take used buffer))
unfolding intact
intact_sits buffer used s e =
    let bytes = take used buffer in
    let fits = leb used (length buffer) in
    let h = sound_held (entries bytes) (and_right fits (sound (entries bytes)) e) in
    let r = bytes_of_entries bytes (entries_in bytes) (small_take used buffer s) h.0 in
    record {
      within = leb-true used (length buffer) (and_left fits (sound (entries bytes)) e);
      is = r.is;
      sound = record { narrow = r.narrow; good = good_true (entries_in bytes) h.1; distinct = distinct_true (entries_in bytes) h.2 };
    }

pub intact_holds : (buffer : List ℕ) (used : ℕ) → intact buffer used ≡ true → register buffer used ≡ holds (entries_in (take used buffer))
unfolding register
intact_holds buffer used e =
    let bytes = take used buffer in
    let fits = leb used (length buffer) in
    let q : leb used (length buffer) && sound (entries bytes) ≡ true = unfold intact in e in
    rw e (sound_held (entries bytes) (and_right fits (sound (entries bytes)) q)).0

-- a register that is read: its entries are those of its bytes, and it sits in its buffer
module _ (buffer : List ℕ) (used : ℕ) (es : List Entry) (e : register buffer used ≡ holds es) where
  held_intact : intact buffer used ≡ true
  held_intact = go (intact buffer used) refl
    where
      go : (t : Bool) → intact buffer used ≡ t → intact buffer used ≡ true
      go true q = q
      go false q =
          let none : damaged ≡ register buffer used = unfold register in rw q refl in
          not_held (none ∙ e)

  pub held_entries : entries (take used buffer) ≡ holds es
  held_entries =
      let is : entries (take used buffer) ≡ register buffer used = unfold register in rw held_intact refl in
      is ∙ e

  pub held_sits : Small buffer → Sits buffer used es
  held_sits s = subst (Sits buffer used) (ap listed held_entries) (intact_sits buffer used s held_intact)

-- ---- what is written

module _ (buffer : List ℕ) (used : ℕ) (es : List Entry) where
  abbrev value : List ℕ
  value = bytes_of es ++ replicate (used - cost es) 0

  value_length : length value ≡ cost es + (used - cost es)
  value_length = length-append (bytes_of es) (replicate (used - cost es) 0) ∙ ap₂ ◌+◌ (bytes_cost es) (length-replicate (used - cost es) 0)

  pub written_length : used ≤ length buffer → cost es ≤ length buffer → length (written used es buffer) ≡ length buffer
  unfolding written
  written_length h g = length-append value (drop (length value) buffer) ∙ omega (arith, length-drop (length value) buffer, value_length)

  pub written_sits : used ≤ length buffer → cost es ≤ length buffer → Sound es → Sits (written used es buffer) (cost es) es
  written_sits h g s =
      record {
        within = rw (written_length h g) g;
        is = unfold written in (
            ap (take (cost es)) (append_assoc (bytes_of es) (replicate (used - cost es) 0) (drop (length value) buffer))
            ∙ ap (λ (n : ℕ). take n (bytes_of es ++ (replicate (used - cost es) 0 ++ drop (length value) buffer))) (sym (bytes_cost es))
            ∙ take-append_seam (bytes_of es) (replicate (used - cost es) 0 ++ drop (length value) buffer)
            );
        sound = s;
      }
