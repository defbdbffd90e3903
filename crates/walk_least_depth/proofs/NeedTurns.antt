-- The recursion's loop as laws over lists. What is said of a text without halts (`said_keeps`); what the loop keeps (`Turns`), from its start
-- (`turns_start`) over texts that are known (`turn_known`) or opened (`turn_opened`) to its returns (`turn_end`, `turn_stopped`,
-- `turn_refused`); what the walk between two openings and the recursion are asked (`turns_lent`, `AtOpening`). Assumes nothing.
use mathlib.Core.Path.{◌≡◌, refl, sym, ap, subst, ◌∙◌}
use mathlib.Core.Logic.{◌≢◌}
use mathlib.Core.Bool.{true}
use mathlib.Core.List.{List, [], ◌∷◌, ◌++◌}
use Prim.Native.Nat.{ℕ, ◌+◌, ◌-◌, ◌*◌, ◌≤◌, ◌<◌, max}
use native.Mathlib.Omega.{arith}
use native.Mathlib.Nat.{le_refl}
use lib.Dec.{eqb}
use lib.ListN.{length, get_or, take, drop}
use lib.Seq.{length-take-le}
use Rattle.halts.specs.Halts.{HaltAt, any_stop, stop_byte}
use Rattle.entity.specs.Commands.{command_text, Defines}
use Rattle.tokens.specs.Tokens.{Heads}
use Rattle.tokens.specs.Outcome.{Outcome, done, followed}
use Rattle.attribute.specs.Walk.{Settings, walk}
use Rattle.attribute.specs.Steps.{read_by}
use Rattle.memory.specs.Slots.{opening, shaped, slot_of, Stands, Memory}
use Rattle.memory.specs.Levels.{Level, level_of, at_depth, left, Whole, Opens, Lent, FlatKeeps}
use Rattle.memory.specs.declared.Reading.{Reading}
use Rattle.memory.specs.declared.Reached.{Reached}
use Rattle.memory.specs.declared.Reached.TheVariants.{End, Opening, Paused}
use Rattle.memory.specs.declared.Stop.{Stop}
use Rattle.text.specs.Refusals.{number_of, first_of, second_of}
use Rattle.std.specs.Prelude.{Result, Ok, Err}
use Rattle.memory.proofs.Slots.{opening_one, opening_within, stands_opened}
use Rattle.memory.proofs.Levels.{place_of, Sound, opening_brief, text_short, walk_left, came_start, came_refused, came_room, opens_place, inner_room}
use Rattle.memory.proofs.Readings.{by_inner, by_limit}
use Rattle.walk_depths.specs.LeastDepth.{used_up}
use Rattle.walk_depths.specs.Summary.{Enough, Refusal, Known}
use Rattle.walk_depths.proofs.Needs.{Needs, known_made, needs_end, needs_refused, needs_reference, shaped_plainly}
use Rattle.walk_least_depth.specs.Allowance.{plain_at, inner_at, settings_for, outcomes, Knows, Room, Remembers, IsKnown, Asks, Begins, Small, Counts, Tells, NeedKeeps, Says}
use Rattle.walk_least_depth.specs.Allowance.{Need, Found, Cannot}
use Rattle.walk_least_depth.proofs.NeedRooms.{front_length, knows_front, room_front, room_more}

-- ---- outcomes by depth

enough_same : {a d m len : ℕ} (o p : ℕ → Outcome) → ((e : ℕ) → o e ≡ p e) → Enough a d m len o → Enough a d m len p
enough_same o p q k =
    record { within = k.within; value = k.value; size = k.size; from = λ e h. sym (q e) ∙ k.from e h; below = λ e h. ap used_up (sym (q e)) ∙ k.below e h }

refusal_same : {number first second : ℕ} {o p : Outcome} → o ≡ p → Refusal number first second o → Refusal number first second p
refusal_same q k = record { before = k.before; made = k.made; is = sym q ∙ k.is }

-- what is said of a text leaves any room
pub said_keeps : (s : Settings) (list pool : List ℕ) (base a : ℕ) (o : ℕ → Outcome) (words : List ℕ) (r : Need) → Says a o r → NeedKeeps s list pool base a o words words r
said_keeps s list pool base a o words (Found depth openings len) k =
    record { words = refl; tells = record { enough = k; room = λ v b r. room_more s list pool r k.value } }
said_keeps s list pool base a o words (Cannot number first second) k = record { words = refl; tells = k }

-- ---- the loop

-- what is known at the reference to a text, where the room has these words
pub record AtOpening (r : Reading) (list pool text : List ℕ) (at next command slot before now : ℕ) (words : List ℕ) : Type 0 where
  pub on : at < next
  pub inside : next ≤ length text
  pub few : now < r.limit
  pub defines : Defines list pool command
  pub slots : slot < 16
  pub sum : r.base + before ≤ 402653184 + 1572840 * now
  pub size : length words ≡ 148
  -- the recursion and the look among what is known are asked
  pub begins : Begins (settings_for r list pool) list pool (command_text list pool command) words (r.base + before) (now + 1)
  pub asks : r.limit ≤ 1000000 → command < 49153 → Asks command slot now r words

module _ (r : Reading) (list pool text : List ℕ) (openings : ℕ) where
  abbrev S : Settings
  S = settings_for r list pool

  abbrev level : Level
  level = level_of (plain_at r r.depth) list pool text

  abbrev all : ℕ → Outcome
  all e = outcomes r list pool text openings e

  all_left : (e : ℕ) → left (at_depth e level) 0 openings ≡ all e
  all_left e = sym (walk_left (at_depth e level) openings)

  limit_is : S.limit ≡ r.limit
  limit_is = by_limit r.inner 0 list pool r.limit

  -- what the loop keeps: whatever v the room was good for before it
  pub record Turns (old words : List ℕ) (first at len made most : ℕ) : Type 0 where
    pub kept : length words ≡ length old
    pub allowed : most ≤ r.depth
    pub halt : HaltAt (eqb r.how 1) text at first
    pub needs : (v : List ℕ) (b : length v ≡ r.base) → Room S list pool v old
        → Needs level refl v [] refl openings r.base b most [] (take 84 words) at len made
    pub known : Knows S list pool old → Knows S list pool words

  module _ {old : List ℕ} (g : Begins S list pool text old r.base openings) where
    pub turns_start : {first : ℕ} → HaltAt (eqb r.how 1) text 0 first → any_stop (stop_byte (eqb r.how 1)) text ≡ true → r.depth ≢ 0
        → used_up (walk S (read_by r.how 0) 0 text openings) ≡ true → Turns old old first 0 0 openings 1
    turns_start h e deep used =
        record {
          kept = refl;
          allowed = omega (arith, deep);
          halt = h;
          needs = λ v b room.
              record {
                some = le_refl _;
                buffer = refl;
                came = λ d l. came_start (at_depth d level) v [] openings g.utf8 room.memory g.few;
                below = λ d l. ap used_up (ap (λ (k : ℕ). left (at_depth k level) 0 openings) (omega (arith, l)) ∙ all_left 0) ∙ used;
              };
          known = λ k. k;
        }

    module _ {words : List ℕ} {first at len made most : ℕ} (t : Turns old words first at len made most) where
      abbrev mine : Needs level refl g.v [] refl openings r.base g.at_base most [] (take 84 words) at len made
      mine = t.needs g.v g.at_base g.room

      words_size : length words ≡ 148
      words_size = t.kept ∙ g.room.size

      pub front_size : length (take 84 words) ≡ 84
      front_size = length-take-le 84 words (omega (arith, words_size))

      pub some_depth : 1 ≤ most
      some_depth = mine.some

      pub turns_lent : Lent (level_of (plain_at r most) list pool text) r.base [] (take 84 words) (place_of at len made)
      turns_lent =
          record { v = g.v; whole = []; begun = openings; size = g.at_base; came = mine.came most (le_refl _); room = g.sum }

      -- the walk between two openings came on
      module _ {new kept : List ℕ} {x : Result Reached Stop}
          (f : FlatKeeps (level_of (plain_at r most) list pool text) r.base (place_of at len made) [] (take 84 words) new kept x) where
        pub back_size : length kept ≡ 84
        back_size = f.words ∙ front_size

        back_length : length (kept ++ drop 84 words) ≡ length old
        back_length = front_length kept words back_size words_size ∙ sym g.room.size

        back_knows : Knows S list pool old → Knows S list pool (kept ++ drop 84 words)
        back_knows k = knows_front S list pool kept words back_size (t.known k)

        abbrev told : {y : Result Reached Stop} → x ≡ y → FlatKeeps (level_of (plain_at r most) list pool text) r.base (place_of at len made) [] (take 84 words) new kept y
        told q = subst (λ (y : Result Reached Stop). FlatKeeps (level_of (plain_at r most) list pool text) r.base (place_of at len made) [] (take 84 words) new kept y) q f

        pub turn_end : {len-all now : ℕ} → x ≡ Ok (End len-all now)
            → NeedKeeps S list pool r.base r.depth all old (kept ++ drop 84 words) (Found most now len-all)
        unfolding enough_same
        turn_end {len-all} {now} q =
            record {
              words = back_length;
              tells =
                  record {
                    enough = enough_same (λ e. left (at_depth e level) 0 openings) all all_left mine_is;
                    room = λ v b room.
                        let w : Whole (at_depth most level) v [] openings new kept len-all now =
                        (told q).reaches most (le_refl _) v [] openings b ((t.needs v b room).came most (le_refl _)) in
                        let same : w.value ≡ mine_is.value = done_value (sym w.outcome ∙ mine_is.from most (le_refl _)) in
                        let m : Memory S 0 list pool (v ++ mine_is.value) kept =
                        subst (λ (y : List ℕ). Memory S 0 list pool (v ++ y) kept) (shaped_plainly w.value ∙ same) w.memory in
                        room_front S list pool kept words back_size words_size (t.known room.known) m;
                  };
            }
          where
            mine_is : Enough r.depth most now len-all (λ e. left (at_depth e level) 0 openings)
            mine_is = needs_end level refl g.v [] refl openings r.base g.at_base mine r.depth len-all now t.allowed (told q)

            done_value : {u w : List ℕ} {m n : ℕ} → done u m ≡ done w n → u ≡ w
            done_value {u} {w} {m} {n} z = cc

        pub turn_stopped : {stop : Stop} {handed : Need} → x ≡ Err stop
            → handed ≡ Cannot (number_of stop.refusal) (first_of stop.refusal) (second_of stop.refusal)
            → NeedKeeps S list pool r.base r.depth all old (kept ++ drop 84 words) handed
        turn_stopped {stop} q h =
            subst (λ (y : Need). NeedKeeps S list pool r.base r.depth all old (kept ++ drop 84 words) y) (sym h)
            (record {
              words = back_length;
              tells =
                  refusal_same (all_left r.depth)
                  (needs_refused level refl g.v [] refl openings r.base g.at_base mine r.depth stop t.allowed (told q));
            })

        -- with a memory nothing is paused at
        pub never_paused : {i before now : ℕ} → x ≡ Ok (Paused (place_of i before now)) → ⊥
        never_paused q =
            let o = (told q).onward in
            omega (arith, front_size, o.2)

        -- ---- an opening

        module _ (sound : Sound S list pool) {i next command slot before now : ℕ} (q : x ≡ Ok (Opening i next command slot before now)) where
          abbrev txt : List ℕ
          txt = command_text list pool command

          empty : length new ≡ 0
          empty = f.buffer

          new_is : new ≡ []
          new_is = none_left new empty
            where
              none_left : (y : List ℕ) → length y ≡ 0 → y ≡ []
              none_left [] e = refl
              none_left (b ∷ bs) e = absurd (omega (arith, e))

          abbrev opens_for : (v : List ℕ) (b : length v ≡ r.base) → Room S list pool v old → (d : ℕ) → most ≤ d
              → Opens (at_depth d level) v [] openings new kept i next command slot before now
          opens_for v b room d le = (told q).reaches d le v [] openings b ((t.needs v b room).came d le)

          abbrev opens : Opens (at_depth most level) g.v [] openings new kept i next command slot before now
          opens = opens_for g.v g.at_base g.room most (le_refl _)

          on : at < next
          on = (told q).onward.0

          inside : next ≤ length text
          inside = (told q).onward.1

          few : now < r.limit
          few = subst (λ (k : ℕ). now < k) limit_is opens.room

          defines : Defines list pool command
          defines = opens.defines

          slots : slot < 16
          slots = opens.known

          sum : r.base + before ≤ 402653184 + 1572840 * now
          sum = came_room (at_depth most level) g.v [] openings r.base g.sum opens.came

          -- the room as it is lent to the recursion, for whatever came before
          room_for : (v : List ℕ) (b : length v ≡ r.base) (room : Room S list pool v old) (d : ℕ) (le : most ≤ d)
              → Room S list pool (v ++ (opens_for v b room d le).came.value) (kept ++ drop 84 words)
          room_for v b room d le =
              let o = opens_for v b room d le in
              room_front S list pool kept words back_size words_size (t.known room.known)
              (subst (λ (y : List ℕ). Memory S 0 list pool (v ++ y) kept) (shaped_plainly o.came.value) o.came.memory)

          place_for : (v : List ℕ) (b : length v ≡ r.base) (room : Room S list pool v old) (d : ℕ) (le : most ≤ d)
              → length (v ++ (opens_for v b room d le).came.value) ≡ r.base + before
          place_for v b room d le =
              let o = opens_for v b room d le in
              ap (λ (y : List ℕ). length (v ++ y)) (sym (shaped_plainly o.came.value)) ∙ opens_place (at_depth d level) v [] openings o b

          inner_begins : Begins S list pool txt (kept ++ drop 84 words) (r.base + before) (now + 1)
          inner_begins =
              record {
                v = g.v ++ opens.came.value;
                at_base = place_for g.v g.at_base g.room most (le_refl _);
                room = room_for g.v g.at_base g.room most (le_refl _);
                utf8 = sound.texts command defines;
                few = omega (arith, opens.room);
                sum = inner_room (at_depth most level) g.v [] openings r.base g.sum opens;
              }

          -- what is asked before the words are looked at
          asks : r.limit ≤ 1000000 → command < 49153 → Asks command slot now r (kept ++ drop 84 words)
          asks most-limit small =
              record {
                size = front_length kept words back_size words_size;
                named = small;
                slots = slots;
                few = omega (arith, few);
                most = most-limit;
                opened = λ e. subst (λ (k : ℕ). get_or (kept ++ drop 84 words) (slot + 132) 0 ≤ k) limit_is (back_knows g.room.known slot command slots e).few;
              }

          pub at_opening : AtOpening r list pool text at next command slot before now (kept ++ drop 84 words)
          at_opening =
              record {
                on = on;
                inside = inside;
                few = few;
                defines = defines;
                slots = slots;
                sum = sum;
                size = front_length kept words back_size words_size;
                begins = inner_begins;
                asks = asks;
              }

          -- the text is known
          module _ (k : IsKnown command slot now r (kept ++ drop 84 words)) where
            abbrev word : ℕ → ℕ
            word j = get_or (kept ++ drop 84 words) (slot + j) 0

            pub known_here : Known S txt (word 100) (word 116) (word 132)
            known_here = back_knows g.room.known slot command slots k.is

            within : now + word 132 ≤ S.limit
            within = subst (λ (y : ℕ). now + word 132 ≤ y) (sym limit_is) k.within

            -- no sum overflows
            pub known_small : word 116 ≤ 65535 * word 132
            known_small =
                let o = known_here.from (word 100) 0 (le_refl _) (omega (arith, known_here.few)) in
                let b = opening_brief S sound.brief (word 100) 0 (0 + word 132) txt known_here.value (text_short defines) o in
                omega (arith, b, known_here.size)

            pub turn_known : {then : ℕ} → HaltAt (eqb r.how 1) text next then → {top : ℕ} → top ≡ max most (word 100)
                → Turns old (kept ++ drop 84 words) then next (before + word 116) (now + word 132) top
            turn_known {then} h {top} z =
                subst (λ (y : ℕ). Turns old (kept ++ drop 84 words) then next (before + word 116) (now + word 132) y) (sym z)
                (record {
                  kept = back_length;
                  allowed = omega (arith, t.allowed, k.allowed);
                  halt = h;
                  needs = λ v b room.
                      needs_reference level refl v [] refl openings r.base b (t.needs v b room) sound empty (told q) known_here within
                      new_is (λ e le. known_memory v b room e le);
                  known = back_knows;
                })
              where
                known_memory : (v : List ℕ) (b : length v ≡ r.base) (room : Room S list pool v old) (e : ℕ) (le : most ≤ e)
                    → Memory S 0 list pool ((v ++ shaped 0 (opens_for v b room e le).came.value) ++ shaped 0 known_here.value) (take 84 (kept ++ drop 84 words))
                known_memory v b room e le =
                    subst (λ (y : List ℕ). Memory S 0 list pool ((v ++ y) ++ shaped 0 known_here.value) (take 84 (kept ++ drop 84 words)))
                    (sym (shaped_plainly (opens_for v b room e le).came.value))
                    (room_more S list pool (room_for v b room e le) (shaped 0 known_here.value)).memory

          -- the text was opened
          module _ {after : List ℕ} {y : Need}
              (k : NeedKeeps S list pool (r.base + before) (r.depth - 1) (λ e. walk S S.inner e txt (now + 1)) (kept ++ drop 84 words) after y) where
            pub opened_words : length after ≡ length old
            opened_words = k.words ∙ back_length

            tells_of : {z : Need} → y ≡ z → Tells S list pool (r.base + before) (r.depth - 1) (λ e. walk S S.inner e txt (now + 1)) (kept ++ drop 84 words) after z
            tells_of to = subst (λ (z : Need). Tells S list pool (r.base + before) (r.depth - 1) (λ e. walk S S.inner e txt (now + 1)) (kept ++ drop 84 words) after z) to k.tells

            -- and refused
            pub turn_refused : {number a b : ℕ} {handed : Need} → y ≡ Cannot number a b → handed ≡ Cannot number a b
                → NeedKeeps S list pool r.base r.depth all old after handed
            turn_refused {number} {a} {b} to h =
                let o = opens_for g.v g.at_base g.room r.depth t.allowed in
                let x = tells_of to in
                let c = came_refused (at_depth r.depth level) g.v [] openings o.came x.before x.made
                (o.is ∙ ap (λ (w : Outcome). followed w (λ n. left (at_depth r.depth level) next n)) x.is) in
                subst (λ (z : Need). NeedKeeps S list pool r.base r.depth all old after z) (sym h)
                (record {
                  words = opened_words;
                  tells = record { before = c.before; made = x.made; is = sym (all_left r.depth) ∙ c.outcome };
                })

            -- it has a least depth
            module _ {depth now-made more : ℕ} (to : y ≡ Found depth now-made more) where
              counts : Counts S list pool (r.base + before) (r.depth - 1) (λ e. walk S S.inner e txt (now + 1)) (kept ++ drop 84 words) after depth now-made more
              counts = tells_of to

              abbrev found : Enough (r.depth - 1) depth now-made more (λ e. walk S S.inner e txt (now + 1))
              found = counts.enough

              given : opening S (depth + 1) txt now ≡ done found.value now-made
              given = found.from ((depth + 1) - 1) (omega arith)

              pub opened_counts : (depth ≤ r.depth - 1) × (now < now-made) × (now-made ≤ r.limit) × (more + 65535 * now ≤ 65535 * now-made)
              opened_counts =
                  let one = opening_one S txt (depth + 1) now now-made found.value given in
                  let top = opening_within S txt (depth + 1) now now-made found.value opens.room given in
                  let small = opening_brief S sound.brief (depth + 1) now now-made txt found.value (text_short defines) given in
                  (found.within, omega (arith, one), subst (λ (x : ℕ). now-made ≤ x) limit_is top, omega (arith, small, found.size))

              known_now : Known S txt (depth + 1) more (now-made - now)
              known_now = known_made S txt (r.depth - 1) depth now-made more now opens.room found

              known_value : found.value ≡ known_now.value
              known_value =
                  let top : now + (now-made - now) ≤ S.limit = subst (λ (x : ℕ). now + (now-made - now) ≤ x) (sym limit_is) (omega (arith, opened_counts)) in
                  let z : done found.value now-made ≡ done known_now.value (now + (now-made - now)) = sym given ∙ known_now.from (depth + 1) now (le_refl _) top in
                  cc

              -- it is kept, with a depth of its own: one more than what it opens
              module _ {place opened own : ℕ} (place_is : place ≡ r.base + before) (opened_is : opened ≡ now-made - now) {last : List ℕ}
                  (kept-own : Remembers after slot command own place more opened last) (own_is : own ≡ depth + 1) where
                m : Remembers after slot command (depth + 1) place more opened last
                m = subst (λ (x : ℕ). Remembers after slot command x place more opened last) own_is kept-own

                room_last : (v : List ℕ) (b : length v ≡ r.base) (room : Room S list pool v old) (e : ℕ) (le : most ≤ e)
                    → Room S list pool ((v ++ (opens_for v b room e le).came.value) ++ found.value) last
                room_last v b room e le =
                    let w = v ++ (opens_for v b room e le).came.value in
                    let was = counts.room w (place_for v b room e le) (room_for v b room e le) in
                    let st : Stands S 0 txt (w ++ shaped 0 found.value) (slot_of (depth + 1) place more opened) =
                    stands_opened S txt 0 w found.value given opens.room (place_is ∙ sym (place_for v b room e le))
                    (sym found.size ∙ ap length (sym (shaped_plainly found.value))) opened_is in
                    m.keeps S list pool (w ++ found.value) was defines
                    (subst (λ (x : List ℕ). Stands S 0 txt (w ++ x) (slot_of (depth + 1) place more opened)) (shaped_plainly found.value) st)
                    (subst (λ (x : ℕ). Known S txt (depth + 1) more x) (sym opened_is) known_now)

                pub turn_opened : {then : ℕ} → HaltAt (eqb r.how 1) text next then → {top : ℕ} → top ≡ max most (depth + 1)
                    → r.depth ≢ 0 → Turns old last then next (before + more) now-made top
                turn_opened {then} h {top} z deep =
                    let n : now + (now-made - now) ≡ now-made = omega (arith, opened_counts) in
                    subst (λ (x : ℕ). Turns old last then next (before + more) now-made x) (sym z)
                    (record {
                      kept = m.words ∙ opened_words;
                      allowed = omega (arith, t.allowed, opened_counts, deep);
                      halt = h;
                      needs = λ v b room.
                          subst (λ (x : ℕ). Needs level refl v [] refl openings r.base b (max most (depth + 1)) [] (take 84 last) next (before + more) x) n
                          (needs_reference level refl v [] refl openings r.base b (t.needs v b room) sound empty (told q) known_now
                          (subst (λ (x : ℕ). now + (now-made - now) ≤ x) (sym limit_is) (omega (arith, opened_counts)))
                          new_is (λ e le. memory_last v b room e le));
                      known = λ x. room_knows x;
                    })
                  where
                    memory_last : (v : List ℕ) (b : length v ≡ r.base) (room : Room S list pool v old) (e : ℕ) (le : most ≤ e)
                        → Memory S 0 list pool ((v ++ shaped 0 (opens_for v b room e le).came.value) ++ shaped 0 known_now.value) (take 84 last)
                    memory_last v b room e le =
                        let o = opens_for v b room e le in
                        subst (λ (x : List ℕ). Memory S 0 list pool ((v ++ x) ++ shaped 0 known_now.value) (take 84 last)) (sym (shaped_plainly o.came.value))
                        (subst (λ (x : List ℕ). Memory S 0 list pool ((v ++ o.came.value) ++ x) (take 84 last)) (known_value ∙ sym (shaped_plainly known_now.value))
                        (room_last v b room e le).memory)

                    room_knows : Knows S list pool old → Knows S list pool last
                    room_knows x = (room_last g.v g.at_base g.room most (le_refl _)).known

-- ---- the recursion's own contract, as the loop hands it on and reads it

module _ (r : Reading) (list pool : List ℕ) (before command n : ℕ) {q : Reading} {u : List ℕ} (q-is : q ≡ inner_at r before) (u-is : command_text list pool command ≡ u) where
  pub inner_asked : {words : List ℕ} → Begins (settings_for r list pool) list pool (command_text list pool command) words (r.base + before) n
      → Begins (settings_for q list pool) list pool u words q.base n
  inner_asked {words} g =
      subst (λ (x : Reading). Begins (settings_for x list pool) list pool u words x.base n) (sym q-is)
      (subst (λ (y : List ℕ). Begins (settings_for r list pool) list pool y words (r.base + before) n) u-is g)

  pub inner_small : Small r u → (r.depth - 1 ≤ 128) → Small q u
  inner_small m h =
      subst (λ (x : Reading). Small x u) (sym q-is) (record { most = m.most; short = m.short; deep = h })

  pub inner_depth : q.depth ≡ r.depth - 1
  inner_depth = ap (λ (x : Reading). x.depth) q-is

  pub inner_keeps : {old new : List ℕ} {y : Need} → NeedKeeps (settings_for q list pool) list pool q.base q.depth (outcomes q list pool u n) old new y
      → NeedKeeps (settings_for r list pool) list pool (r.base + before) (r.depth - 1)
      (λ e. walk (settings_for r list pool) (settings_for r list pool).inner e (command_text list pool command) n) old new y
  inner_keeps {old} {new} {y} k =
      let s = settings_for r list pool in
      subst (λ (h : Heads). NeedKeeps s list pool (r.base + before) (r.depth - 1) (λ e. walk s h e (command_text list pool command) n) old new y)
      (sym (by_inner r.inner 0 list pool r.limit))
      (subst (λ (z : List ℕ). NeedKeeps s list pool (r.base + before) (r.depth - 1) (λ e. walk s (read_by r.inner 0) e z n) old new y) (sym u-is)
      (subst (λ (x : Reading). NeedKeeps (settings_for x list pool) list pool x.base x.depth (outcomes x list pool u n) old new y) q-is k))
