-- The checks of the calls on a register, one after the other: `check_refused`, `check_done`. Assumes nothing.
use mathlib.Core.Path.{◌≡◌, refl, ap, sym, ◌∙◌}
use Prim.Native.Nat.{ℕ, ◌≤◌, ◌<◌}
use native.Mathlib.Omega.{arith}
use mathlib.Core.Bool.{Bool, true, false, not}
use mathlib.Core.List.{List, [], ◌∷◌}
use lib.ListN.{length, take}
use borrow.Author.Tests.{le-leb, lt-leb}
use Rattle.text.specs.Call.{Called, called, and_then, guarded, text_check}
use Rattle.text.specs.Answers.{Answer}
use Rattle.text.specs.Answers.{Done, Refused}
use Rattle.register.specs.Entries.{distinct}
use Rattle.register.specs.Stored.{Held, holds, damaged, entries, sound, intact, register}
use Rattle.register.specs.Places.{Plausible, entries_in}
use Rattle.register.proofs.Counts.{true_good}
use Rattle.registers.specs.Guarding.{held_check, register_check}

-- ---- what is intact

-- entries without a fault are a register just where no form repeats
pub plausible_sound : (bytes : List ℕ) → Plausible bytes → not (not (distinct (entries_in bytes))) ≡ sound (entries bytes)
plausible_sound bytes p =
    let es = entries_in bytes in
    let is : sound (holds es) ≡ distinct es = unfold sound in rw (true_good es p.good) refl in
    twice (distinct es) ∙ sym is ∙ ap sound (sym p.is)
  where
    twice : (t : Bool) → not (not t) ≡ t
    twice true = refl
    twice false = refl

pub intact_past : (buffer : List ℕ) (used : ℕ) → length buffer < used → false ≡ intact buffer used
unfolding intact
intact_past buffer used h = rw (lt-leb used (length buffer) h) refl

pub intact_at : (buffer : List ℕ) (used : ℕ) {r : Bool} → used ≤ length buffer → r ≡ sound (entries (take used buffer)) → r ≡ intact buffer used
unfolding intact
intact_at buffer used h e = rw (le-leb used (length buffer) h) e

pub held_passes : (buffer : List ℕ) (used : ℕ) → intact buffer used ≡ true → Done 0 0 ≡ held_check buffer used
unfolding held_check
held_passes buffer used e = rw e refl

pub held_refuses : (buffer : List ℕ) (used : ℕ) → intact buffer used ≡ false → Refused 28 0 0 ≡ held_check buffer used
unfolding held_check
held_refuses buffer used e = rw e refl

-- ---- the checks

differ : {X : Type 0} {first second number first' second' : ℕ} → Done first second ≡ Refused number first' second' → X
differ e = let z : ◌≡◌ {A = ℕ} 0 1 = cc in absurd (omega (arith, z))

module _ (buffer : List ℕ) (used : ℕ) (buffers : List (List ℕ)) where
  damaged_is : intact buffer used ≡ false → register buffer used ≡ damaged
  unfolding register
  damaged_is e = rw e refl

  -- a call that refuses a damaged register by 28
  module _ (call : Held → Called) (is : call damaged ≡ called 28 (0 ∷ 0 ∷ []) buffers) {number first second : ℕ} where
    refused_by : (t : Answer) → and_then t (held_check buffer used) ≡ Refused number first second
        → called number (first ∷ second ∷ []) buffers ≡ guarded t buffers (call (register buffer used))
    refused_by (Refused n a b) e = cc
    refused_by (Done a b) e = go (intact buffer used) refl
      where
        go : (t : Bool) → intact buffer used ≡ t → called number (first ∷ second ∷ []) buffers ≡ call (register buffer used)
        go true q = differ (held_passes buffer used q ∙ e)
        go false q =
            let w : Refused 28 0 0 ≡ Refused number first second = held_refuses buffer used q ∙ e in
            let v : called number (first ∷ second ∷ []) buffers ≡ called 28 (0 ∷ 0 ∷ []) buffers = cc in
            v ∙ sym is ∙ ap call (sym (damaged_is q))

    pub check_refused : (form : List ℕ) → register_check form buffer used ≡ Refused number first second
        → called number (first ∷ second ∷ []) buffers ≡ guarded (text_check form) buffers (call (register buffer used))
    check_refused form e = refused_by (text_check form) e

  done_by : (rest : Called) {first second : ℕ} (t : Answer) → and_then t (held_check buffer used) ≡ Done first second
      → (intact buffer used ≡ true) × (rest ≡ guarded t buffers rest)
  done_by rest (Refused n a b) e = differ (sym e)
  done_by rest (Done a b) e = (go (intact buffer used) refl, refl)
    where
      go : (t : Bool) → intact buffer used ≡ t → intact buffer used ≡ true
      go true q = q
      go false q = differ (sym (held_refuses buffer used q ∙ e))

  pub check_done : (form : List ℕ) (rest : Called) {first second : ℕ} → register_check form buffer used ≡ Done first second
      → (intact buffer used ≡ true) × (rest ≡ guarded (text_check form) buffers rest)
  check_done form rest e = done_by rest (text_check form) e
