-- What is kept of a text is good after any openings (`known_made`). The loop over a text: `Needs` is kept over a reference to a text that is known
-- or was just opened (`needs_reference`), and its ends are `needs_end` and `needs_refused`. What the walk between two openings came to holds at
-- every depth from its own on (`FlatKeeps`): that is all that is asked of it. Assumes nothing.
use mathlib.Core.Path.{◌≡◌, refl, ap, sym, ◌∙◌, subst}
use mathlib.Core.Logic.{◌≢◌}
use Prim.Native.Nat.{ℕ, zero, suc, ◌+◌, ◌-◌, ◌*◌, ◌≤◌, ◌<◌, max}
use native.Mathlib.Omega.{arith}
use native.Mathlib.Nat.{le_refl}
use mathlib.Core.Bool.{Bool, true, false, true≢false}
use mathlib.Core.List.{List, [], ◌∷◌, ◌++◌}
use lib.Dec.{eqb, leb}
use lib.ListN.{length}
use borrow.Author.Tests.{leb-true, leb-false}
use Rattle.text.specs.Call.{laid}
use Rattle.text.specs.Utf8.{WellFormed}
use Rattle.entity.specs.Commands.{command_text, Defines}
use Rattle.tokens.specs.Outcome.{Outcome, done, refused, prepend, followed}
use Rattle.attribute.specs.Walk.{Settings, walk}
use Rattle.memory.specs.Slots.{opening, shaped, Slot, slot_of, Stands, Memory, Kept}
use Rattle.memory.specs.Levels.{Level, at_depth, left, Fitted, Came, Whole, Opens, Refuses, Reaches, FlatKeeps}
use Rattle.memory.specs.declared.Reached.TheVariants.{End, Opening}
use Rattle.memory.specs.declared.Stop.{Stop}
use Rattle.text.specs.Refusals.{number_of, first_of, second_of}
use Rattle.std.specs.Prelude.{Ok, Err}
use Rattle.memory.proofs.Slots.{opening_one, opening_within, opening_moved, stands_opened}
use Rattle.memory.proofs.Levels.{place_of, Brief, Sound, opening_brief, opening_utf8, walk_left, came_on, came_past, came_refused, opens_place, text_short}
use Rattle.memory.proofs.Keeping.{memory_kept}
use Rattle.walk_depths.specs.LeastDepth.{used_up}
use Rattle.walk_depths.specs.Summary.{Enough, Refusal, Known}
use Rattle.walk_depths.proofs.ByDepth.{done_on, done_before}

-- ---- what is kept of a text

-- what the recursion says of the text, opened after `made` openings, holds after any
pub known_made : (s : Settings) (t : List ℕ) (a d now len made : ℕ) → made < s.limit → Enough a d now len (λ e. walk s s.inner e t (made + 1))
    → Known s t (d + 1) len (now - made)
known_made s t a d now len made room k =
    record { value = k.value; size = k.size; some = omega (arith, one); few = omega (arith, top, one); from = from_any; below = λ e m g l h. below_any e m g l h (used_up (opening s e t m)) refl }
  where
    here : (e : ℕ) → d + 1 ≤ e → opening s e t made ≡ done k.value now
    here e le = k.from (e - 1) (omega (arith, le))

    one : made + 1 ≤ now
    one = opening_one s t (d + 1) made now k.value (here (d + 1) (le_refl _))

    sum : now ≡ made + (now - made)
    sum = omega (arith, one)

    from_any : (e m : ℕ) → d + 1 ≤ e → m + (now - made) ≤ s.limit → opening s e t m ≡ done k.value (m + (now - made))
    from_any e m le h = opening_moved s t e made m (now - made) k.value (here e le ∙ ap (done k.value) sum) h

    top : now ≤ s.limit
    top = opening_within s t (d + 1) made now k.value room (here (d + 1) (le_refl _))

    below_any : (e m : ℕ) → 1 ≤ e → e < d + 1 → m + (now - made) ≤ s.limit → (x : Bool) → used_up (opening s e t m) ≡ x → used_up (opening s e t m) ≡ true
    below_any e m g l h true q = q
    below_any e m g l h false q =
        let deep : walk s s.inner d t (m + 1) ≡ done k.value (m + (now - made)) = ap (λ (x : ℕ). walk s s.inner x t (m + 1)) (omega arith) ∙ from_any (d + 1) m (le_refl _) h in
        let same = done_before s s.inner t (m + 1) {d = e - 1} deep (omega (arith, l)) q in
        let back = opening_moved s t e m made (now - made) k.value same (omega (arith, top, one)) in
        absurd (true≢false (sym (k.below (e - 1) (omega (arith, g, l))) ∙ ap used_up back))

-- ---- the loop

-- nothing is written to a buffer of no bytes
pub none_fitted : (value whole out : List ℕ) → length whole ≡ 0 → length out ≡ 0 → Fitted value whole out
none_fitted value [] [] h q = record { size = refl; holds = λ l. go value l }
  where
    go : (x : List ℕ) → length x ≤ 0 → [] ≡ laid x []
    go [] l = refl
    go (b ∷ bs) l = absurd (omega (arith, l))
none_fitted value [] (b ∷ out) h q = absurd (omega (arith, q))
none_fitted value (b ∷ whole) out h q = absurd (omega (arith, h))

prepend_used : (front : List ℕ) (o : Outcome) → used_up o ≡ true → used_up (prepend front o) ≡ true
prepend_used front (done value m) h = h
prepend_used front (refused before m why first second) h = h

followed_used : (o : Outcome) (k : ℕ → Outcome) → used_up o ≡ true → used_up (followed o k) ≡ true
followed_used (done value m) k h = absurd (true≢false (sym h))
followed_used (refused before m why first second) k h = h

pub shaped_plainly : (value : List ℕ) → shaped 0 value ≡ value
unfolding shaped
shaped_plainly value = refl

module _ (l : Level) (plain : l.form ≡ 0) (v whole : List ℕ) (none : length whole ≡ 0) (begun base : ℕ) (at_base : length v ≡ base) where
  abbrev S : Settings
  S = l.settings

  -- the outcome of the level by its depth
  abbrev by_depth : ℕ → Outcome
  by_depth d = left (at_depth d l) 0 begun

  -- the loop has come to `i`: so it has at every depth from `most` on, and at every smaller one the depth is used up
  pub record Needs (most : ℕ) (out words : List ℕ) (i len made : ℕ) : Type 0 where
    pub some : 1 ≤ most
    pub buffer : length out ≡ 0
    pub came : (d : ℕ) → most ≤ d → Came (at_depth d l) v whole begun out words i len made
    pub below : (d : ℕ) → d < most → used_up (by_depth d) ≡ true

  module _ {most : ℕ} {out words : List ℕ} {i len made : ℕ} (n : Needs most out words i len made) where
    -- the text's end
    pub needs_end : (a all now : ℕ) {new kept : List ℕ} → most ≤ a → FlatKeeps (at_depth most l) base (place_of i len made) out words new kept (Ok (End all now))
        → Enough a most now all by_depth
    needs_end a all now {new} {kept} le f =
        record {
          within = le;
          value = here.value;
          size = sym (ap length (ap (λ (x : ℕ). shaped x here.value) plain ∙ shaped_plainly here.value)) ∙ here.size;
          from = λ d h.
              sym (walk_left (at_depth d l) begun) ∙ done_on S l.at l.text begun (walk_left (at_depth most l) begun ∙ here.outcome) h;
          below = n.below;
        }
      where
        here : Whole (at_depth most l) v whole begun new kept all now
        here = f.reaches most (le_refl _) v whole begun at_base (n.came most (le_refl _))

    -- a refusal, which is the allowance's
    pub needs_refused : (a : ℕ) (stop : Stop) {new kept : List ℕ} → most ≤ a
        → FlatKeeps (at_depth most l) base (place_of i len made) out words new kept (Err stop)
        → Refusal (number_of stop.refusal) (first_of stop.refusal) (second_of stop.refusal) (by_depth a)
    needs_refused a stop {new} {kept} le f =
        let r = f.reaches a le v whole begun at_base (n.came a le) in
        record { before = r.before; made = stop.openings; is = r.outcome }

    -- a text to open, at every depth from `most` on
    module _ (sound : Sound S l.list l.pool) {new kept : List ℕ} {at next command slot before now : ℕ} (empty : length new ≡ 0)
        (f : FlatKeeps (at_depth most l) base (place_of i len made) out words new kept (Ok (Opening at next command slot before now))) where
      abbrev t : List ℕ
      t = command_text l.list l.pool command

      abbrev pub opens : (d : ℕ) → most ≤ d → Opens (at_depth d l) v whole begun new kept at next command slot before now
      opens d le = f.reaches d le v whole begun at_base (n.came d le)

      -- where its depth is used up, so is the level's
      below_opened : (least : ℕ) → ((e : ℕ) → 1 ≤ e → e < least → used_up (opening S e t now) ≡ true) → (d : ℕ) → d < max most least → used_up (by_depth d) ≡ true
      below_opened least used d h = split (leb most d) refl
        where
          split : (x : Bool) → leb most d ≡ x → used_up (by_depth d) ≡ true
          split false q = n.below d (leb-false most d q)
          split true q =
              let le = leb-true most d q in
              let o = opens d le in
              let u = used d (omega (arith, n.some, le)) (omega (arith, h, le)) in
              subst (λ (y : Outcome). used_up y ≡ true) (sym (o.came.outcome ∙ ap (prepend o.came.value) o.is))
              (prepend_used o.came.value (followed (opening S d t now) (λ m. left (at_depth d l) next m)) (followed_used (opening S d t now) (λ m. left (at_depth d l) next m) u))

      -- one that is known, however it came to be: the memory after it, at every depth, is given
      pub needs_reference : {least more opened : ℕ} → (k : Known S t least more opened) → now + opened ≤ S.limit → {last : List ℕ} {after : List ℕ} → new ≡ after
          → ((e : ℕ) (le : most ≤ e) → Memory S l.form l.list l.pool ((v ++ shaped l.form (opens e le).came.value) ++ shaped l.form k.value) last)
          → Needs (max most least) after last next (before + more) (now + opened)
      needs_reference {least} {more} {opened} k room {last} {after} is memory =
          subst (λ (y : List ℕ). Needs (max most least) y last next (before + more) (now + opened)) is
          (record {
            some = omega (arith, n.some);
            buffer = empty;
            came = came_after;
            below = below_opened least (λ e g h. k.below e now g h room);
          })
        where
          came_after : (d : ℕ) → max most least ≤ d → Came (at_depth d l) v whole begun new last next (before + more) (now + opened)
          came_after d h =
              let le : most ≤ d = omega (arith, h) in
              let o = opens d le in
              let given = k.from d now (omega (arith, h)) room in
              let one = opening_one S t d now (now + opened) k.value given in
              let small = opening_brief S sound.brief d now (now + opened) t k.value (text_short o.defines) given in
              came_on (at_depth d l) v whole begun o.came k.value
              (o.is ∙ ap (λ (y : Outcome). followed y (λ m. left (at_depth d l) next m)) given)
              (ap length (ap (λ (x : ℕ). shaped x k.value) plain ∙ shaped_plainly k.value) ∙ k.size)
              (opening_utf8 S sound o.defines d now (now + opened) k.value given) o.rest
              (none_fitted _ whole new none empty) (memory d le) o.inside (omega (arith, one)) room (omega (arith, small, one, o.on))
