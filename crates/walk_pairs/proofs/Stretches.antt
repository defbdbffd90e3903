-- The walk of a text at a depth that is not 0, by the pairs of one depth less. It begins (`stretch_start`) and comes to the text's end
-- (`stretch_end`), a refusal (`stretch_refused`) or a reference (`stretch_stands`). There the pair tells what the text gives (`opening_placed`):
-- one that is sized is passed (`stretch_passes`), any other ends the walk (`stretch_ends`, `stretch_fails`) or lets it wait (`stretch_waits`).
-- Assumes nothing.
use mathlib.Core.Path.{◌≡◌, refl, ap, sym, ◌∙◌, subst}
use mathlib.Core.Logic.{◌≢◌}
use Prim.Native.Nat.{ℕ, zero, suc, ◌+◌, ◌-◌, ◌*◌, ◌≤◌, ◌<◌}
use native.Mathlib.Omega.{arith}
use native.Mathlib.Nat.{le_refl, zero-add}
use mathlib.Core.Bool.{false}
use mathlib.Core.List.{List, [], ◌∷◌, ◌++◌}
use lib.Dec.{eqb}
use lib.ListN.{length, replicate}
use Rattle.text.specs.Utf8.{WellFormed}
use Rattle.entity.specs.Commands.{command_text}
use Rattle.tokens.specs.Outcome.{Outcome, done, refused, prepend, followed}
use Rattle.attribute.specs.Walk.{Settings, walk}
use Rattle.memory.specs.Slots.{opening, shaped, slot_of, Stands, Kept, Memory}
use Rattle.memory.specs.Levels.{Level, at_depth, left, Came, Whole, Opens, FlatKeeps}
use Rattle.memory.specs.declared.Reached.TheVariants.{End, Opening}
use Rattle.memory.specs.declared.Stop.{Stop}
use Rattle.text.specs.Refusals.{number_of}
use Rattle.std.specs.Prelude.{Ok, Err}
use Rattle.memory.proofs.Slots.{opening_one, opening_within, opening_deeper, stands_opened}
use Rattle.memory.proofs.Levels.{place_of, Sound, opening_brief, opening_utf8, came_start, came_memory, came_on, opens_place, text_short}
use Rattle.memory.proofs.Keeping.{memory_none, memory_start, memory_more, memory_kept}
use Rattle.walk_depths.proofs.ByDepth.{refused_on}
use Rattle.walk_depths.proofs.Needs.{none_fitted, shaped_plainly}
use Rattle.walk_pairs.specs.Forecast.{Sum, sized, fails, summary, relimit, pair_at}
use Rattle.walk_pairs.specs.PairSums.{placed}
use Rattle.walk_pairs.specs.Stretches.{Stretch, AtReference, Waiting, Gives}
use Rattle.walk_pairs.proofs.LaterWalks.{pair_placed}

-- ---- outcomes by their sums

record SizedBy (o : Outcome) (len openings : ℕ) : Type 0 where
  value : List ℕ
  size : length value ≡ len
  is : o ≡ done value openings

record FailsBy (o : Outcome) (number openings : ℕ) : Type 0 where
  before : List ℕ
  first : ℕ
  second : ℕ
  is : o ≡ refused before openings number first second

sum_sized : (o : Outcome) (len openings : ℕ) → summary o ≡ sized len openings → SizedBy o len openings
unfolding summary
sum_sized (done value m) len openings e =
    let a : length value ≡ len = cc in
    let b : m ≡ openings = cc in
    record { value = value; size = a; is = ap (done value) b }
sum_sized (refused before m why first second) len openings e =
    let z : ◌≡◌ {A = ℕ} 0 1 = cc in
    absurd (omega (arith, z))

sum_fails : (o : Outcome) (number openings : ℕ) → summary o ≡ fails number openings → FailsBy o number openings
unfolding summary
sum_fails (done value m) number openings e =
    let z : ◌≡◌ {A = ℕ} 0 1 = cc in
    absurd (omega (arith, z))
sum_fails (refused before m why first second) number openings e =
    let a : why ≡ number = cc in
    let b : m ≡ openings = cc in
    record {
      before = before;
      first = first;
      second = second;
      is = ap (λ (x : ℕ). refused before x why first second) b ∙ ap (λ (x : ℕ). refused before openings x first second) a;
    }

sum_followed : (front : List ℕ) (o : Outcome) (k : ℕ → Outcome) (number openings : ℕ) → summary o ≡ fails number openings
    → summary (prepend front (followed o k)) ≡ fails number openings
unfolding summary
sum_followed front (done value m) k number openings e =
    let z : ◌≡◌ {A = ℕ} 0 1 = cc in
    absurd (omega (arith, z))
sum_followed front (refused before m why first second) k number openings e = e

empty : (x : List ℕ) → length x ≡ 0 → x ≡ []
empty [] e = refl
empty (b ∷ bs) e = absurd (omega (arith, e))

-- ---- the walk

module _ (l : Level) (plain : l.form ≡ 0) (e : ℕ) where
  abbrev S : Settings
  S = l.settings

  plainly : (value : List ℕ) → shaped l.form value ≡ value
  plainly value = ap (λ (x : ℕ). shaped x value) plain ∙ shaped_plainly value

  pub stretch_start : WellFormed l.text → Stretch l e [] 0 0 0
  stretch_start utf8 d le = came_start (at_depth d l) [] [] 0 utf8 (memory_none S l.form l.list l.pool [] [] refl) (omega arith)

  -- with a new memory
  pub stretch_fresh : {words : List ℕ} {i len made : ℕ} → Stretch l e words i len made → Stretch l e (replicate 84 0) i len made
  stretch_fresh n d le =
      let c = n d le in
      came_memory (at_depth d l) [] [] 0 c (memory_start S l.form l.list l.pool ([] ++ shaped l.form c.value))

  module _ {words : List ℕ} {i len made : ℕ} (n : Stretch l e words i len made) where
    -- the text's end
    pub stretch_end : {all now : ℕ} {new kept : List ℕ} → FlatKeeps (at_depth e l) 0 (place_of i len made) [] words new kept (Ok (End all now)) → Gives l e (sized all now)
    unfolding summary
    stretch_end {all} {now} {new} {kept} f d le =
        let here : Whole (at_depth d l) [] [] 0 new kept all now = f.reaches d le [] [] 0 refl (n d le) in
        ap summary here.outcome ∙ ap (λ (x : ℕ). sized x now) (sym (ap length (plainly here.value)) ∙ here.size)

    -- a refusal, and the openings made until then
    pub stretch_refused : {stop : Stop} {new kept : List ℕ}
        → FlatKeeps (at_depth e l) 0 (place_of i len made) [] words new kept (Err stop) → Gives l e (fails (number_of stop.refusal) stop.openings)
    unfolding summary
    stretch_refused f d le = ap summary (f.reaches d le [] [] 0 refl (n d le)).outcome

    pub stretch_stands : {at next command slot before now : ℕ} {new kept : List ℕ}
        → FlatKeeps (at_depth e l) 0 (place_of i len made) [] words new kept (Ok (Opening at next command slot before now))
        → AtReference l e kept at next command slot before now
    stretch_stands {at} {next} {command} {slot} {before} {now} {new} {kept} f d le =
        subst (λ (x : List ℕ). Opens (at_depth d l) [] [] 0 x kept at next command slot before now) (empty new f.buffer)
        (f.reaches d le [] [] 0 refl (n d le))

  -- ---- at a reference

  module _ {words : List ℕ} {at next command slot before now : ℕ} (o : AtReference l e words at next command slot before now) where
    abbrev t : List ℕ
    t = command_text l.list l.pool command

    -- what it gives, by the pair of one depth less
    pub opening_placed : S.limit ≤ 1000000 → placed S.limit (now + 1) (pair_at S (e - 1) t) ≡ summary (opening S e t now)
    unfolding pair_at
    opening_placed low = pair_placed S S.limit 1000000 low S.inner (e - 1) t (now + 1) (omega (arith, (o e (le_refl _)).room))

    -- it is sized: it is passed, and kept
    pub stretch_passes : Sound S l.list l.pool → {more made : ℕ} {last : List ℕ} → summary (opening S e t now) ≡ sized more made
        → Kept words slot command (slot_of e before more (made - now)) last → Stretch l e last next (before + more) made
    stretch_passes sound {more} {made} {last} q kept_in d le =
        came_on (at_depth d l) [] [] 0 here.came known.value
        (here.is ∙ ap (λ (y : Outcome). followed y (λ m. left (at_depth d l) next m)) given) size
        (opening_utf8 S sound here.defines d now made known.value given) here.rest
        (none_fitted _ [] [] refl refl)
        (memory_kept S l.form l.list l.pool (memory_more S l.form l.list l.pool here.came.memory (shaped l.form known.value))
        here.known here.defines st kept_in)
        here.inside (omega (arith, one)) (opening_within S t d now made known.value here.room given) (omega (arith, small, one, here.on))
      where
        known : SizedBy (opening S e t now) more made
        known = sum_sized (opening S e t now) more made q

        here : Opens (at_depth d l) [] [] 0 [] words at next command slot before now
        here = o d le

        given : opening S d t now ≡ done known.value made
        given = opening_deeper S t e d now made known.value le known.is

        size : length (shaped l.form known.value) ≡ more
        size = ap length (plainly known.value) ∙ known.size

        one : now + 1 ≤ made
        one = opening_one S t d now made known.value given

        small : length known.value + 65535 * now ≤ 65535 * made
        small = opening_brief S sound.brief d now made t known.value (text_short here.defines) given

        st : Stands S l.form t (([] ++ shaped l.form here.came.value) ++ shaped l.form known.value) (slot_of e before more (made - now))
        st =
            stands_opened S t l.form ([] ++ shaped l.form here.came.value) known.value known.is here.room
            (sym (opens_place (at_depth d l) [] [] 0 here refl ∙ zero-add before)) (sym size) refl

    ends_by : {number openings : ℕ} (d : ℕ) → e ≤ d → summary (opening S d t now) ≡ fails number openings → summary (left (at_depth d l) 0 0) ≡ fails number openings
    ends_by {number} {openings} d le q =
        let here = o d le in
        ap summary (here.came.outcome ∙ ap (prepend here.came.value) here.is)
        ∙ sum_followed here.came.value (opening S d t now) (λ m. left (at_depth d l) next m) number openings q

    -- it is refused: so is the walk, at this depth
    pub stretch_fails : {number openings : ℕ} → summary (opening S e t now) ≡ fails number openings → summary (left (at_depth e l) 0 0) ≡ fails number openings
    stretch_fails q = ends_by e (le_refl _) q

    -- by any number but 16 at every greater depth too
    pub stretch_ends : {number openings : ℕ} → summary (opening S e t now) ≡ fails number openings → eqb number 16 ≡ false → Gives l e (fails number openings)
    unfolding summary
    stretch_ends {number} {openings} q other d le =
        let f = sum_fails (opening S e t now) number openings q in
        ends_by d le (ap summary (refused_on S S.inner t (now + 1) {d = e - 1} {e = d - 1} f.is other (omega (arith, le))))

    -- and by 16 it waits here, for the next depth
    pub stretch_waits : Waiting l e next command before now
    stretch_waits =
        record {
          at = at;
          stands = λ d le.
              let here = o d le in
              record {
                came = came_memory (at_depth d l) [] [] 0 here.came (memory_none S l.form l.list l.pool _ [] refl);
                on = here.on;
                inside = here.inside;
                is = here.is;
                defines = here.defines;
                rest = here.rest;
                known = omega arith;
                room = here.room;
              };
        }

-- at a greater depth it stands where it stood
pub waiting_on : {l : Level} {e d next command len made : ℕ} → Waiting l e next command len made → e ≤ d → Waiting l d next command len made
waiting_on w h = record { at = w.at; stands = λ k le. w.stands k (omega (arith, h, le)) }

-- a memory of no words keeps nothing
pub kept_none : {slot command depth place count opened : ℕ} → Kept [] slot command (slot_of depth place count opened) []
kept_none = record { none = λ h. refl; enters = λ h. absurd (h refl) }
