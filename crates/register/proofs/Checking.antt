-- The walk that checks entries: a place up to which they are good (`Checking`), a good one more (`checking_on`), and a fault (`checking_fault`).
-- Assumes nothing.
use mathlib.Core.Path.{◌≡◌, refl, ap, ap₂, sym, ◌∙◌, subst}
use Prim.Native.Nat.{ℕ, ◌+◌, ◌*◌, ◌≤◌, ◌<◌}
use native.Mathlib.Omega.{arith}
use mathlib.Core.Bool.{Bool, true, false}
use mathlib.Core.List.{List, [], ◌∷◌, ◌++◌, append-nil}
use lib.ListN.{length, get_or, take, drop, length-drop, drop_of_length-le}
use lib.Seq.{drop-drop, get_or-drop}
use Rattle.text.specs.Utf8.{well_formed}
use Rattle.text.proofs.Bytes.{and_left, contrary}
use Rattle.register.specs.Entries.{Entry, entry, good, distinct}
use Rattle.register.specs.Stored.{u32_at, Held, holds, damaged, also, entries_from, entries, sound}
use Rattle.register.specs.Places.{Small, Good, listed, Whole, GoodAt, Spoiled, Plausible}
use Rattle.register.proofs.StoredLaws.{entries_step, entries_cut, not_held}
use Rattle.register.proofs.Counts.{good_true}
use Rattle.register.proofs.Boundaries.{filled_held}

u32_drop : (n : ℕ) (l : List ℕ) (i : ℕ) → u32_at (drop n l) i ≡ u32_at l (n + i)
u32_drop n l i =
    let at : (k : ℕ) → get_or (drop n l) (i + k) 0 ≡ get_or l (n + i + k) 0
    = λ k. get_or-drop n l (i + k) 0 ∙ ap (λ (x : ℕ). get_or l x 0) (omega arith) in
    rw (get_or-drop n l i 0, at 1, at 2, at 3)

u32_here : (n : ℕ) (l : List ℕ) → u32_at (drop n l) 0 ≡ u32_at l n
u32_here n l = let q : n + 0 ≡ n = omega arith in u32_drop n l 0 ∙ ap (u32_at l) q

-- the entry at `at`, and what follows it
one_at : List ℕ → ℕ → Entry
one_at bytes at = entry (take (u32_at bytes at) (drop (at + 8) bytes)) (u32_at bytes (at + 4))

step_at : (bytes : List ℕ) (at : ℕ) → Whole bytes at
    → entries_from 0 (drop at bytes) ≡ also (one_at bytes at) (entries_from 0 (drop (at + 8 + u32_at bytes at) bytes))
unfolding one_at
step_at bytes at w =
    let l = drop at bytes in
    let size = u32_here at bytes in
    let fits : 8 + u32_at l 0 ≤ length l = omega (arith, w.fits, size, length-drop at bytes) in
    let to : at + (8 + u32_at l 0) ≡ at + 8 + u32_at bytes at = omega (arith, size) in
    let tail : drop (8 + u32_at l 0) l ≡ drop (at + 8 + u32_at bytes at) bytes
    = drop-drop (8 + u32_at l 0) at bytes ∙ ap (λ (n : ℕ). drop n bytes) to in
    entries_step l fits
    ∙ ap₂ also (ap₂ entry (ap₂ take size (drop-drop 8 at bytes)) (u32_drop at bytes 4)) (ap (entries_from 0) tail)

-- ---- faults

pub spoiled_cut : (bytes : List ℕ) (at : ℕ) → at < length bytes → length bytes < at + 8 + u32_at bytes at → Spoiled bytes at
spoiled_cut bytes at h k es e g =
    let l = drop at bytes in
    not_held (sym (entries_cut l (omega (arith, length-drop at bytes)) (omega (arith, length-drop at bytes, u32_here at bytes))) ∙ e)

spoiled_one : (e : Entry) (h : Held) (es : List Entry) → also e h ≡ holds es → (Good (e ∷ listed h) → ⊥) → Good es → ⊥
spoiled_one e damaged es q bad g = not_held q
spoiled_one e (holds more) es q bad g = bad (subst Good (let s : es ≡ e ∷ more = cc in s) g)

module _ (bytes : List ℕ) (at : ℕ) (w : Whole bytes at) where
  pub spoiled_count : u32_at bytes (at + 4) ≡ 0 → Spoiled bytes at
  unfolding one_at
  spoiled_count z es e g = spoiled_one (one_at bytes at) (entries_from 0 (drop (at + 8 + u32_at bytes at) bytes)) es (sym (step_at bytes at w) ∙ e) (λ k. k.0 z) g

  pub spoiled_utf8 : well_formed (take (u32_at bytes at) (drop (at + 8) bytes)) ≡ false → Spoiled bytes at
  unfolding one_at
  spoiled_utf8 z es e g = spoiled_one (one_at bytes at) (entries_from 0 (drop (at + 8 + u32_at bytes at) bytes)) es (sym (step_at bytes at w) ∙ e) (λ k. contrary k.1 z) g

-- ---- the walk

unfoldable pub front : List Entry → Held → Held
front [] h = h
front (e ∷ es) h = also e (front es h)

front_holds : (before es : List Entry) → front before (holds es) ≡ holds (before ++ es)
unfolding front
front_holds [] es = refl
front_holds (e ∷ before) es = ap (also e) (front_holds before es)

front_damaged : (before : List Entry) → front before damaged ≡ damaged
unfolding front
front_damaged [] = refl
front_damaged (e ∷ before) = ap (also e) (front_damaged before)

front_last : (before : List Entry) (e : Entry) (h : Held) → front (before ++ (e ∷ [])) h ≡ front before (also e h)
unfolding front
front_last [] e h = refl
front_last (d ∷ before) e h = ap (also d) (front_last before e h)

good_join : (a b : List Entry) → Good a → Good b → Good (a ++ b)
good_join [] b g k = k
good_join (e ∷ es) b g k = (g.0, g.1, good_join es b g.2 k)

good_rest : (a b : List Entry) → Good (a ++ b) → Good b
good_rest [] b g = g
good_rest (e ∷ es) b g = good_rest es b g.2

-- the entries before `at` are good, and what the bytes hold is these and what the rest holds
pub record Checking (bytes : List ℕ) (at number : ℕ) : Type 0 where
  pub before : List Entry
  pub good : Good before
  pub is : entries bytes ≡ front before (entries_from 0 (drop at bytes))
  pub to : at ≤ length bytes
  pub few : number * 8 ≤ at

pub checking_none : (bytes : List ℕ) → Checking bytes 0 0
checking_none bytes = record { before = []; good = tt; is = unfold entries front in refl; to = omega arith; few = omega arith }

module _ {bytes : List ℕ} {at number : ℕ} (c : Checking bytes at number) where
  pub checking_on : {end : ℕ} → GoodAt bytes at end → Checking bytes end (number + 1)
  unfolding one_at
  checking_on {end} g =
      let one = one_at bytes at in
      record {
        before = c.before ++ (one ∷ []);
        good = good_join c.before (one ∷ []) c.good (g.counts, g.utf8, tt);
        is =
            c.is
            ∙ ap (front c.before) (step_at bytes at g.whole ∙ ap (λ (n : ℕ). also one (entries_from 0 (drop n bytes))) (sym g.ends))
            ∙ sym (front_last c.before one (entries_from 0 (drop end bytes)));
        to = omega (arith, g.ends, g.whole.fits);
        few = omega (arith, g.ends, c.few);
      }

  unsound : (h : Held) → entries_from 0 (drop at bytes) ≡ h → Spoiled bytes at → sound (front c.before h) ≡ false
  unsound damaged q s = ap sound (front_damaged c.before) ∙ unfold sound in refl
  unsound (holds es) q s = ap sound (front_holds c.before es) ∙ go (sound (holds (c.before ++ es))) refl
    where
      go : (t : Bool) → sound (holds (c.before ++ es)) ≡ t → sound (holds (c.before ++ es)) ≡ false
      go false r = r
      go true r =
          absurd (s es q (good_rest c.before es (good_true (c.before ++ es)
          (and_left (good (c.before ++ es)) (distinct (c.before ++ es)) (unfold sound in r)))))

  pub checking_fault : Spoiled bytes at → sound (entries bytes) ≡ false
  checking_fault s = ap sound c.is ∙ unsound (entries_from 0 (drop at bytes)) refl s

  pub checking_all : Small bytes → length bytes ≤ at → Plausible bytes
  checking_all s h =
      let rest : entries_from 0 (drop at bytes) ≡ holds [] = ap (entries_from 0) (drop_of_length-le bytes h) ∙ unfold entries_from in refl in
      let held : entries bytes ≡ holds c.before
      = c.is ∙ ap (front c.before) rest ∙ front_holds c.before [] ∙ ap holds (append-nil c.before) in
      let f = filled_held bytes c.before s held in
      record { filled = f.1; is = held ∙ ap holds (sym f.0); good = subst Good (sym f.0) c.good }
