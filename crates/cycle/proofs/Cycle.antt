-- The cycle's needs as laws over lists. The step that opens a text: what its walk is asked (`step_lent`), and its answer (`step_of`, at
-- depth 1 `step_bottom`). The walker: what its loop keeps (`Goes`), its turns (`at_opening`, `goes_open`), and its returns (`keeps_end`,
-- `keeps_stopped`, `keeps_refused`). Assumes nothing.
use mathlib.Core.Path.{◌≡◌, refl, sym, ap, subst, ◌∙◌}
use mathlib.Core.List.{List}
use Prim.Native.Nat.{ℕ, ◌+◌, ◌-◌, ◌*◌, ◌≤◌, ◌<◌, min}
use native.Mathlib.Omega.{arith}
use native.Mathlib.Nat.{le_refl}
use lib.ListN.{length, take, drop, length-append, length-drop}
use lib.Seq.{length-take-le}
use borrow.Rule.Slice.PartMut.{mid_of, put_mid}
use Rattle.text.specs.Answers.{Answer}
use Rattle.text.specs.Answers.{Done, Refused}
use Rattle.output.proofs.Laid.{rest_part, rest_put}
use Rattle.entity.specs.Table.{little_endian, part}
use Rattle.entity.specs.Commands.{command_text, Defines}
use Rattle.tokens.specs.Tokens.{Heads}
use Rattle.tokens.specs.Walking.{Step}
use Rattle.tokens.specs.Walking.{Next, Stopped}
use Rattle.attribute.specs.Walk.{Settings, walk}
use Rattle.attribute.specs.Steps.{read_by, step_from}
use Rattle.memory.specs.Slots.{slot_of, Kept}
use Rattle.memory.specs.Levels.{settings_of, Level, level_of, inner_level, Came, Opens, Reaches, Lent, Onward, FlatKeeps, StepsKeep, StepKeeps}
use Rattle.memory.specs.declared.Reading.{Reading}
use Rattle.memory.specs.declared.Place.{Place}
use Rattle.memory.specs.declared.Reached.{Reached}
use Rattle.memory.specs.declared.Reached.TheVariants.{End, Opening, Paused}
use Rattle.memory.specs.declared.Stop.{Stop}
use Rattle.std.specs.Prelude.{Result, Ok, Err}
use Rattle.text.specs.Call.{answered as told}
use Rattle.memory.proofs.Keeping.{kept_length}
use Rattle.memory.proofs.Levels.{refuses_some, Sound, place_of, opened_plain, came_room, opens_lent, lent_on}
use Rattle.memory.proofs.Readings.{by_inner, by_limit, inner_level_lem}
use Rattle.memory.proofs.Turns.{step_walked, turn_came, turn_next, turn_refused, turn_end, turn_stopped}
use Rattle.cycle.specs.Cycle.{Bottom, inner_start, LentInner}

-- ---- the step

-- what the walk of the text is set to that the step opens
abbrev pub below : Reading → Place → Reading
below r p = record { how = r.inner; inner = r.inner; guard = r.inguard; inguard = r.inguard; form = r.form; depth = r.depth - 1; limit = r.limit; base = r.base + p.len }

module _ (r : Reading) (p : Place) (list pool : List ℕ) (command : ℕ) where
  abbrev settings : Settings
  settings = settings_of r list pool

  -- the part of the pool that is walked
  pub text_is : {start size : ℕ} → start ≡ little_endian list (command + 6) 4 → size ≡ little_endian list (command + 10) 2
      → command_text list pool command ≡ take (start + size - start) (drop start pool)
  unfolding part
  text_is {start} {size} a b =
      let n : little_endian list (command + 10) 2 ≡ start + size - start = omega (arith, b) in
      ap (λ (k : ℕ). take k (drop (little_endian list (command + 6) 4) pool)) n ∙ ap (λ (k : ℕ). take (start + size - start) (drop k pool)) (sym a)

  module _ {t : List ℕ} (is : command_text list pool command ≡ t) where
    level_is : inner_level settings r.form list pool r.depth command ≡ level_of (below r p) list pool t
    level_is = inner_level_lem r list pool command (r.base + p.len) ∙ ap (level_of (below r p) list pool) is

    pub step_lent : {out words : List ℕ} → LentInner r p command list pool out words → Lent (level_of (below r p) list pool t) (r.base + p.len) out words (inner_start p)
    step_lent {out} {words} n = subst (λ (l : Level). Lent l (r.base + p.len) out words (inner_start p)) level_is n

    -- the walker's answer as the step's
    pub step_of : p.openings < r.limit → Sound settings list pool → Defines list pool command → {old seen new kept : List ℕ} {a b : Answer} → a ≡ b
        → StepsKeep (level_of (below r p) list pool t) (r.base + p.len) (inner_start p) old seen new kept a
        → StepKeeps settings r.form list pool r.depth command r.base p old seen new kept (step_from p.at b)
    step_of room sound d {old} {seen} {new} {kept} {a} {b} q k =
        let few : p.openings < settings.limit = subst (λ (n : ℕ). p.openings < n) (sym (by_limit r.inner r.inguard list pool r.limit)) room in
        step_walked settings r.form list pool r.depth command r.base p few sound d
        (subst (λ (l : Level). StepsKeep l (r.base + p.len) (inner_start p) old seen new kept b) (sym level_is)
        (subst (StepsKeep (level_of (below r p) list pool t) (r.base + p.len) (inner_start p) old seen new kept) q k))

    -- at depth 1
    pub step_bottom : r.depth ≡ 1 → {old seen new : List ℕ} {a : Step}
        → ((s : Settings) → Bottom r.form (walk s (read_by r.inner r.inguard) 0 t (p.openings + 1)) p.at old new a)
        → StepKeeps settings r.form list pool r.depth command r.base p old seen new seen a
    step_bottom one {old} {seen} {new} {a} any =
        let heads = read_by r.inner r.inguard in
        let b = any settings in
        let z : r.depth - 1 ≡ 0 = omega (arith, one) in
        let e : walk settings settings.inner (r.depth - 1) (command_text list pool command) (p.openings + 1) ≡ walk settings heads 0 t (p.openings + 1) =
        ap (λ (h : Heads). walk settings h (r.depth - 1) (command_text list pool command) (p.openings + 1)) (by_inner r.inner r.inguard list pool r.limit)
        ∙ ap (λ (d : ℕ). walk settings heads d (command_text list pool command) (p.openings + 1)) z
        ∙ ap (λ (x : List ℕ). walk settings heads 0 x (p.openings + 1)) is in
        record {
          buffer = b.buffer;
          words = refl;
          opened = λ v n m. opened_plain settings r.form list pool r.depth command p.at p.openings v old new seen _ e b.answers b.fitted m;
        }

-- ---- the walker

-- what its loop keeps, from the place `p` on: the lengths, and whatever came to that place came on to this one
pub record Goes (l : Level) (base : ℕ) (p : Place) (old seen out words : List ℕ) (at len made : ℕ) : Type 0 where
  pub buffer : length out ≡ length old
  pub kept : length words ≡ length seen
  pub came : (v whole : List ℕ) (begun : ℕ) → length v ≡ base → Came l v whole begun old seen p.at p.len p.openings
      → Came l v whole begun out words at len made

pub goes_start : (l : Level) (base at len made : ℕ) (old seen : List ℕ) → Goes l base (place_of at len made) old seen old seen at len made
goes_start l base at len made old seen = record { buffer = refl; kept = refl; came = λ v whole begun e c. c }

-- at the reference to a text that is to be opened: what the step and what is kept of it ask
pub record AtOpening (r : Reading) (list pool text : List ℕ) (at next command slot before made : ℕ) (words : List ℕ) : Type 0 where
  pub on : at < next
  pub inside : next ≤ length text
  pub few : made < r.limit
  pub room : r.base + before ≤ 402653184 + 1572840 * made
  pub defines : Defines list pool command
  pub known : slot < 16
  pub lent : (out : List ℕ) → LentInner r (place_of next before made) command list pool out words

-- the step's contract where the walker calls it with the rest of its buffer
abbrev pub StepIn : Reading → List ℕ → List ℕ → ℕ → ℕ → ℕ → ℕ → ℕ → List ℕ → List ℕ → List ℕ → List ℕ → Step → Type 0
StepIn r list pool command next before made w out words part after q =
    StepKeeps (settings_of r list pool) r.form list pool r.depth command r.base (place_of next before made) (mid_of w (length out - w) out) words part after q

-- the rest of a buffer that was lent on is put back
put_length : (out part : List ℕ) {w : ℕ} → w ≤ length out → length part ≡ length (mid_of w (length out - w) out)
    → length (put_mid w (length out - w) out part) ≡ length out
put_length out part {w} h n =
    let m : length part ≡ length out - w = n ∙ ap length (rest_part w out) ∙ length-drop w out in
    ap length (rest_put w out part)
    ∙ length-append (take w out) part
    ∙ omega (arith, length-take-le w out h, m, h)

module _ (r : Reading) (list pool text : List ℕ) (p : Place) {old seen out words : List ℕ} {at len made : ℕ}
    (g : Goes (level_of r list pool text) r.base (place_of p.at p.len p.openings) old seen out words at len made) where
  abbrev level : Level
  level = level_of r list pool text

  limit_is : (settings_of r list pool).limit ≡ r.limit
  limit_is = by_limit r.inner r.inguard list pool r.limit

  -- the part between two openings is asked what the walker was
  pub goes_lent : Lent level r.base old seen p → Lent level r.base out words (place_of at len made)
  goes_lent n = lent_on level n.v n.whole n.begun r.base n.room n.size (g.came n.v n.whole n.begun n.size n.came)

  -- and came on to where it says
  module _ {new kept : List ℕ} {x : Result Reached Stop} (f : FlatKeeps level r.base (place_of at len made) out words new kept x) where
    reached : {y : Result Reached Stop} → x ≡ y → (v whole : List ℕ) (begun : ℕ) → length v ≡ r.base
        → Came level v whole begun old seen p.at p.len p.openings → Reaches level v whole begun new kept y
    reached is v whole begun e c = subst (Reaches level v whole begun new kept) is (f.reaches r.depth (le_refl _) v whole begun e (g.came v whole begun e c))

    pub keeps_end : {all now : ℕ} → x ≡ Ok (End all now) → StepsKeep level r.base p old seen new kept (Done all now)
    keeps_end is =
        record {
          buffer = f.buffer ∙ g.buffer;
          words = f.words ∙ g.kept;
          finishes = λ v whole begun e c. turn_end level (reached is v whole begun e c);
        }

    pub keeps_stopped : {stop : Stop} → x ≡ Err stop
        → StepsKeep level r.base p old seen new kept (told (Err stop.refusal))
    keeps_stopped is =
        record {
          buffer = f.buffer ∙ g.buffer;
          words = f.words ∙ g.kept;
          finishes = λ v whole begun e c. turn_stopped level (refuses_some (reached is v whole begun e c));
        }

    -- with a memory nothing is paused at
    pub never_paused : {here : Place} → x ≡ Ok (Paused here) → 84 ≤ length seen → ⊥
    never_paused is full =
        let o = subst (Onward (length text) at words) is f.onward in
        omega (arith, full, g.kept, o.2)

    -- ---- an opening

    module _ (n : Lent level r.base old seen p) {i next command slot before now : ℕ} (is : x ≡ Ok (Opening i next command slot before now))
        (sound : Sound (settings_of r list pool) list pool) where
      opens : Opens level n.v n.whole n.begun new kept i next command slot before now
      opens = reached is n.v n.whole n.begun n.size n.came

      pub at_opening : AtOpening r list pool text at next command slot before now kept
      at_opening =
          let o = subst (Onward (length text) at words) is f.onward in
          record {
            on = o.0;
            inside = o.1;
            few = subst (λ (k : ℕ). now < k) limit_is opens.room;
            room = came_room level n.v n.whole n.begun r.base n.room opens.came;
            defines = opens.defines;
            known = opens.known;
            lent = λ lent. opens_lent level n.v n.whole n.begun r.base n.room opens n.size sound lent;
          }

      module _ {w : ℕ} {part after : List ℕ} (least : w ≡ min before (length new)) {q : Step}
          (k : StepIn r list pool command next before now w new kept part after q) where
        answered : {y : Step} → q ≡ y → StepIn r list pool command next before now w new kept part after y
        answered to = subst (StepIn r list pool command next before now w new kept part after) to k

        buffer_kept : length (put_mid w (length new - w) new part) ≡ length old
        buffer_kept = put_length new part (omega (arith, least)) k.buffer ∙ f.buffer ∙ g.buffer

        -- the step made the text, and that was kept
        pub open_counts : {a more later : ℕ} → q ≡ Next a more later
            → (a ≡ next) × (now < later) × (later ≤ r.limit) × (more + 393210 * now ≤ 393210 * later)
        open_counts {a} {more} {later} to =
            let m = turn_next level r.base sound n.size opens {w = w} {part = part} {after = after} least (answered to) in
            (m.0, m.1, subst (λ (x : ℕ). later ≤ x) limit_is m.2, m.3)

        pub goes_open : {a more later opened : ℕ} {last : List ℕ} → q ≡ Next a more later
            → Kept after slot command (slot_of r.depth (r.base + before) more opened) last → opened ≡ later - now
            → Goes level r.base (place_of p.at p.len p.openings) old seen (put_mid w (length new - w) new part) last a (before + more) later
        goes_open {more = more} {last = last} to k₀ own =
            let e = subst (λ (n : ℕ). Kept after slot command (slot_of r.depth (r.base + before) more n) last) own k₀ in
            record {
              buffer = buffer_kept;
              kept = kept_length e ∙ k.words ∙ f.words ∙ g.kept;
              came = λ v whole begun s c.
                  turn_came level r.base sound s (reached is v whole begun s c) {w = w} {part = part} {after = after} least (answered to) e;
            }

        -- or refused it
        pub keeps_refused : {number first second : ℕ} → q ≡ Stopped number first second
            → StepsKeep level r.base p old seen (put_mid w (length new - w) new part) after (Refused number first second)
        keeps_refused to =
            record {
              buffer = buffer_kept;
              words = k.words ∙ f.words ∙ g.kept;
              finishes = λ v whole begun s c.
                  turn_stopped level {v = v} {whole = whole} {begun = begun}
                  (turn_refused level r.base sound s (reached is v whole begun s c) {w = w} {part = part} {after = after} least (answered to));
            }
