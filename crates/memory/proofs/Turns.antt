-- The cycle put together: the step over the walker (`step_walked`), and a turn of the walker over the part between two openings and the
-- step (`turn_came`, `turn_refused`); the walker's loop keeps `Came`. Assumes nothing.
use mathlib.Core.Path.{◌≡◌, sym, subst}
use mathlib.Core.List.{List, ◌++◌}
use Prim.Native.Nat.{ℕ, ◌+◌, ◌-◌, ◌*◌, ◌≤◌, ◌<◌, min}
use native.Mathlib.Omega.{arith}
use lib.ListN.{length}
use borrow.Rule.Slice.PartMut.{mid_of, put_mid}
use Rattle.text.specs.Answers.{Answer}
use Rattle.text.specs.Answers.{Done, Refused}
use Rattle.entity.specs.Commands.{Defines}
use Rattle.tokens.specs.Walking.{Next, Stopped}
use Rattle.attribute.specs.Walk.{Settings}
use Rattle.attribute.specs.Steps.{step_from}
use Rattle.memory.specs.Slots.{shaped, slot_of, Kept}
use Rattle.memory.specs.Levels.{Level, inner_level, Came, Refuses, Opens, Finishes, Whole, StepsKeep, StepKeeps}
use Rattle.memory.specs.declared.Place.{Place}
use Rattle.memory.proofs.Levels.{Sound, place_of, came_start, opens_place, opened_next, opened_counts, opened_stopped, finishes_end, finishes_refused, opened_walked}

-- ---- the step

-- what the walker answers over the text is what the step answers
pub step_walked : (s : Settings) (form : ℕ) (list pool : List ℕ) (depth command base : ℕ) (p : Place) {old seen new kept : List ℕ} {r : Answer} → p.openings < s.limit
    → Sound s list pool → Defines list pool command
    → StepsKeep (inner_level s form list pool depth command) (base + p.len) (place_of 0 0 (p.openings + 1)) old seen new kept r
    → StepKeeps s form list pool depth command base p old seen new kept (step_from p.at r)
step_walked s form list pool depth command base p {old} {seen} {new} {kept} room sound d k =
    record {
      buffer = k.buffer;
      words = k.words;
      opened = λ v e m.
          opened_walked s form list pool depth command p.at p.openings v old new kept
          (k.finishes v old (p.openings + 1) e (came_start (inner_level s form list pool depth command) v old (p.openings + 1) (sound.texts command d) m (omega (arith, room))));
    }

-- ---- the walker

module _ (l : Level) (base : ℕ) (sound : Sound l.settings l.list l.pool) {v whole out words : List ℕ} {begun at next command slot len made : ℕ} (at_base : length v ≡ base)
    (o : Opens l v whole begun out words at next command slot len made) {w : ℕ} {part after : List ℕ} (least : w ≡ min len (length out)) where
  -- an opening: the step, and what is kept of it
  pub turn_came : {a more now : ℕ} {last : List ℕ}
      → StepKeeps l.settings l.form l.list l.pool l.depth command base (place_of next len made) (mid_of w (length out - w) out) words part after (Next a more now)
      → Kept after slot command (slot_of l.depth (base + len) more (now - made)) last
      → Came l v whole begun (put_mid w (length out - w) out part) last a (len + more) now
  turn_came {a} {more} {now} {last} p kept =
      let q = opened_next l v whole begun o at_base {cut = w} {part = part} {after = after} least sound
      (p.opened (v ++ shaped l.form o.came.value) (opens_place l v whole begun o at_base) o.came.memory) kept in
      subst (λ (j : ℕ). Came l v whole begun (put_mid w (length out - w) out part) last j (len + more) now) (sym q.0) q.1

  -- the step goes on at the end of the reference
  pub turn_next : {a more now : ℕ}
      → StepKeeps l.settings l.form l.list l.pool l.depth command base (place_of next len made) (mid_of w (length out - w) out) words part after (Next a more now)
      → (a ≡ next) × (made < now) × (now ≤ l.settings.limit) × (more + 393210 * made ≤ 393210 * now)
  turn_next {a} {more} {now} p =
      opened_counts l v whole begun o at_base {cut = w} {part = part} {after = after} least sound.brief
      (p.opened (v ++ shaped l.form o.came.value) (opens_place l v whole begun o at_base) o.came.memory)

  -- the step is refused
  pub turn_refused : {number first second : ℕ}
      → StepKeeps l.settings l.form l.list l.pool l.depth command base (place_of next len made) (mid_of w (length out - w) out) words part after
      (Stopped number first second)
      → Refuses l begun number first second
  turn_refused p =
      opened_stopped l v whole begun o at_base {cut = w} {part = part} {after = after} least
      (p.opened (v ++ shaped l.form o.came.value) (opens_place l v whole begun o at_base) o.came.memory)

-- the walker's two returns
pub turn_end : (l : Level) {v whole out words : List ℕ} {begun len made : ℕ} → Whole l v whole begun out words len made
    → Finishes l v whole begun out words (Done len made)
turn_end l {v} {whole} {out} {words} {begun} e = finishes_end l v whole begun e

pub turn_stopped : (l : Level) {v whole out words : List ℕ} {begun number first second : ℕ} → Refuses l begun number first second
    → Finishes l v whole begun out words (Refused number first second)
turn_stopped l {v} {whole} {out} {words} {begun} e = finishes_refused l v whole begun e
