-- What becomes of a halt, return by return: a text of the table (`halt_limit`, `halt_again`, `halt_leaf`, `halt_opens`), other names
-- (`halt_external`, `halt_predefined`, `halt_unknown`), all of them after a lookup (`halt_indexed`), characters and refusals (`halt_char`, `halt_refused`), line ends (`halt_blank`). Assumes nothing.
use mathlib.Core.Path.{◌≡◌, refl, sym, ap, subst, ◌∙◌}
use mathlib.Core.Logic.{◌≢◌}
use mathlib.Core.Bool.{Bool, true, false}
use mathlib.Core.List.{List, [], ◌∷◌}
use Prim.Native.Nat.{ℕ, ◌+◌, ◌-◌, ◌≤◌, ◌<◌}
use native.Mathlib.Omega.{arith}
use native.Mathlib.Nat.{le_refl}
use lib.Dec.{eqb, ltb}
use lib.ListN.{length, get_or, set, take, drop, length-take}
use lib.Seq.{take_all}
use borrow.Author.Tests.{eq-eqb, ltb-true, ltb-false}
use Rattle.charref.specs.CharRef.{encode}
use Rattle.legal.specs.FirstFault.{Clean}
use Rattle.charref.proofs.Encoding.{encode_at_most}
use Rattle.halts.specs.Halts.{halts, Smooth, blanks_spaced}
use Rattle.text.specs.Utf8.{WellFormed}
use Rattle.text.proofs.Utf8.{ascii_well_formed}
use Rattle.text.specs.Answers.{Done, Refused}
use Rattle.entity.specs.Table.{little_endian, part, declarations, ValidTable}
use Rattle.entity.proofs.Commands.{long_list}
use Rattle.entity.specs.Binding.{text, external, predefined, unknown, predefined_of, binding, bound_to}
use Rattle.entity.specs.Commands.{command_text, RefersTo}
use Rattle.entity.proofs.Referents.{defines_binding, predefined_binding}
use Rattle.tokens.specs.Tokens.{named, stop, Token, Heads, token_of}
use Rattle.tokens.specs.Outcome.{done, refused}
use Rattle.tokens.specs.Walking.{head_at, next_at, outcome_of}
use Rattle.attribute.specs.Walk.{Settings, answer, opened, walk}
use Rattle.attribute.specs.Steps.{heads_by, fault_by, read_by, legal_by, Refers, stop_answer, Blank}
use Rattle.attribute.proofs.Single.{one_of_four, stop_deeper, at_external, at_unknown, at_predefined}
use Rattle.attribute.proofs.Guards.{read_refers, guard_blank, halt_clean, read_predefined}
use Rattle.memory.specs.Slots.{shaped, slot_of, Kept, Noted, Memory, Indexed}
use Rattle.memory.specs.Levels.{settings_of, Level, level_of, at_depth, Adds, Came, RefusesAt, Opens, Taken}
use Rattle.memory.specs.declared.Reading.{Reading}
use Rattle.memory.specs.declared.Place.{Place}
use Rattle.memory.proofs.Fitted.{adds_byte}
use Rattle.memory.proofs.Characters.{token_rest}
use Rattle.memory.proofs.Levels.{left_done, came_on, came_indexed, came_stop, came_token}
use Rattle.memory.proofs.Keeping.{memory_more, kept_length, noted_length, memory_noted}
use Rattle.memory.proofs.Readings.{read_at, by_bind, by_inner, by_limit, by_legal, token_named, next_named, read_opens, read_taken, came_leaf, came_blank}
use Rattle.flat.specs.Between.{Writes, Leaf, ForChar, ForName, ForPlain, name_of, Answers, Past, HaltKeeps, Referred}
use Rattle.flat.specs.declared.Halted.{Halted}
use Rattle.flat.specs.declared.Halted.TheVariants.{Next, Opening, Paused}
use Rattle.std.specs.Prelude.{Result, Ok, Err}
use Rattle.text.specs.Refusals.{number_of, first_of, second_of}
use Rattle.text.specs.declared.refusals.Refusal.{Refusal}
use Rattle.text.specs.declared.refusals.Refusal.TheVariants.{TooManyOpenings, UnrecognizedEntity, ExternalEntity}

-- ---- a reference to the text of a command

module _ (r : Reading) (t list pool : List ℕ) (p : Place) {command next : ℕ} {value : List ℕ} (k : Referred r t list pool p command next value) where
  abbrev l : Level
  l = level_of r list pool t

  abbrev S : Settings
  S = settings_of r list pool

  limit_is : S.limit ≡ r.limit
  limit_is = by_limit r.inner r.inguard list pool r.limit

  bound : S.bind k.name ≡ text (command_text list pool command)
  bound = by_bind r.inner r.inguard list pool r.limit k.name ∙ defines_binding k.defines k.name k.same

  at_limit : p.openings ≡ r.limit → outcome_of (stop_answer S r.depth) (token_of (head_at (read_by r.how r.guard) t p.at)) p.openings ≡ refused [] p.openings 17 p.at 0
  unfolding answer opened
  at_limit q =
      ap (λ (x : Token). outcome_of (stop_answer S r.depth) x p.openings) k.is
      ∙ stop_deeper S r.depth k.deep (stop (named p.at k.name)) p.openings
      ∙ rw (k.no_amp, bound, eq-eqb p.openings S.limit (q ∙ sym limit_is))

  module _ {slot : ℕ} (known : slot < 16) (old seen : List ℕ) where
    limit_goes : p.openings ≡ r.limit → (v whole : List ℕ) (begun : ℕ) → length v ≡ r.base → Came l v whole begun old seen p.at p.len p.openings
        → RefusesAt l begun 17 p.at 0 p.openings
    limit_goes q v whole begun e c = came_stop l v whole begun c [] p.openings k.inside (at_limit q)

    again_goes : {new : List ℕ} {count made : ℕ} → Taken command slot r p seen old new count made → (v whole : List ℕ) (begun : ℕ) → length v ≡ r.base
        → Came l v whole begun old seen p.at p.len p.openings → Came l v whole begun new seen next (p.len + count) made
    again_goes x v whole begun e c =
        read_taken r list pool t k.deep v whole begun c k.bytes k.valid e k.name k.inside k.on k.to k.next_is k.is k.no_amp k.defines k.same
        p known refl refl x

    module _ (room : p.openings ≢ r.limit) where
      opens_goes : (v whole : List ℕ) (begun : ℕ) → length v ≡ r.base → Came l v whole begun old seen p.at p.len p.openings
          → Opens l v whole begun old seen p.at next command slot p.len p.openings
      opens_goes v whole begun e c =
          read_opens r list pool t k.deep v whole begun c k.bytes k.valid e k.name k.inside k.on k.to k.next_is k.is k.no_amp k.defines k.same
          known room

      leaf_goes : r.depth ≢ 1 → Leaf (eqb r.inner 1) r.inguard value → {new after : List ℕ} {size : ℕ}
          → Writes (shaped r.form (blanks_spaced (take (length value - 0) (drop 0 value)))) p.len old new size
          → Kept seen slot command (slot_of 2 (r.base + p.len) size 1) after
          → (v whole : List ℕ) (begun : ℕ) → length v ≡ r.base → Came l v whole begun old seen p.at p.len p.openings
          → Came l v whole begun new after next (p.len + size) (p.openings + 1)
      leaf_goes two leaf {new} {after} {size} written kept v whole begun b c =
          let all : take (length value - 0) (drop 0 value) ≡ value = take_all (length value - 0) value (omega arith) in
          let e = k.text_is in
          let x = command_text list pool command in
          let w : Writes (shaped r.form (blanks_spaced x)) p.len old new size =
          subst (λ (y : List ℕ). Writes (shaped r.form (blanks_spaced y)) p.len old new size) (all ∙ e) written in
          subst (λ (n : ℕ). Came l v whole begun new after next (p.len + n) (p.openings + 1)) (sym w.0)
          (came_leaf r list pool t k.deep v whole begun c k.bytes k.valid b k.name k.inside k.on k.to k.next_is k.is k.no_amp
          k.defines k.same two (omega (arith, room, limit_is, c.within))
          (subst (λ (y : List ℕ). Smooth (eqb r.inner 1) y 0 (length y)) e leaf.smooth)
          (subst (λ (y : List ℕ). Clean (fault_by r.inguard) y 0 (length y)) e leaf.clean) known w.1
          (subst (λ (n : ℕ). Kept seen slot command (slot_of 2 (r.base + p.len) n 1) after) w.0 kept))

-- ---- and at every greater depth

-- a greater depth is not used up either
deep_at : (r : Reading) → r.depth ≢ 0 → (d : ℕ) → r.depth ≤ d → d ≢ 0
deep_at r deep d le q = deep (omega (arith, le, q))

module _ (r : Reading) (t list pool : List ℕ) (p : Place) {command next : ℕ} {value : List ℕ} (k : Referred r t list pool p command next value) where
  -- what is known of the reference at a greater depth
  referred_at : (d : ℕ) → r.depth ≤ d → Referred (read_at d r) t list pool p command next value
  referred_at d le =
      record {
        name = k.name;
        deep = deep_at r k.deep d le;
        bytes = k.bytes;
        valid = k.valid;
        inside = k.inside;
        on = k.on;
        to = k.to;
        next_is = k.next_is;
        is = k.is;
        no_amp = k.no_amp;
        defines = k.defines;
        same = k.same;
        text_is = k.text_is;
      }

  module _ {slot : ℕ} (known : slot < 16) (old seen : List ℕ) where
    -- refusal 17
    pub halt_limit : p.openings ≡ r.limit → HaltKeeps (level_of r list pool t) r.base p old seen old seen (Err (TooManyOpenings p.at))
    halt_limit q =
        record {
          past = tt;
          buffer = refl;
          words = refl;
          goes = λ d le v whole begun e c. limit_goes (read_at d r) t list pool p (referred_at d le) known old seen q v whole begun e c;
        }

    -- what is kept of it
    pub halt_again : {new : List ℕ} {count made : ℕ} → Taken command slot r p seen old new count made
        → HaltKeeps (level_of r list pool t) r.base p old seen new seen (Ok (Next next count made))
    halt_again {new} {count} {made} x =
        record {
          past = (k.on, k.to);
          buffer = x.buffer;
          words = refl;
          goes = λ d le v whole begun e c.
              again_goes (read_at d r) t list pool p (referred_at d le) known old seen
              (record { is = x.is; enough = omega (arith, x.enough, le); size = x.size; opens = x.opens; within = x.within; buffer = x.buffer; writes = x.writes })
              v whole begun e c;
        }

    module _ (room : p.openings ≢ r.limit) where
      pub halt_opens : HaltKeeps (level_of r list pool t) r.base p old seen old seen (Ok (Opening next command slot))
      halt_opens =
          record {
            past = (k.on, k.to);
            buffer = refl;
            words = refl;
            goes = λ d le v whole begun e c. opens_goes (read_at d r) t list pool p (referred_at d le) known old seen room v whole begun e c;
          }

      -- a text without halts is copied, and kept
      pub halt_leaf : r.depth ≢ 1 → Leaf (eqb r.inner 1) r.inguard value → {new after : List ℕ} {size : ℕ}
          → Writes (shaped r.form (blanks_spaced (take (length value - 0) (drop 0 value)))) p.len old new size
          → Kept seen slot command (slot_of 2 (r.base + p.len) size 1) after
          → HaltKeeps (level_of r list pool t) r.base p old seen new after (Ok (Next next size (p.openings + 1)))
      halt_leaf two leaf {new} {after} {size} written kept =
          record {
            past = (k.on, k.to);
            buffer = written.1.buffer;
            words = kept_length kept;
            goes = λ d le v whole begun e c.
                leaf_goes (read_at d r) t list pool p (referred_at d le) known old seen room (λ q. omega (arith, k.deep, two, le, q)) leaf written kept
                v whole begun e c;
          }

-- ---- the memory after a name was looked up

past_indexed : (size at : ℕ) (words seen : List ℕ) → length seen ≡ length words → (x : Result Halted Refusal) → Past size at seen x → Past size at words x
past_indexed size at words seen e (Ok (Next next len made)) q = q
past_indexed size at words seen e (Ok (Opening next command slot)) q = q
past_indexed size at words seen e (Ok Paused) q = sym e ∙ q
past_indexed size at words seen e (Err r) q = q

-- what is kept from there on is kept from before the lookup on
pub halt_indexed : (l : Level) {base : ℕ} {p : Place} {old words seen new kept : List ℕ} (x : Result Halted Refusal) → Indexed l.list l.pool words seen
    → HaltKeeps l base p old seen new kept x → HaltKeeps l base p old words new kept x
halt_indexed l {base} {p} {old} {words} {seen} x i h =
    record {
      past = past_indexed (length l.text) p.at words seen i.words x h.past;
      buffer = h.buffer;
      words = h.words ∙ i.words;
      goes = λ d le v whole begun e c. h.goes d le v whole begun e (came_indexed (at_depth d l) v whole begun c i);
    }

-- ---- other references

-- what a lookup found, as what is known of the reference
pub referred : (r : Reading) (t list pool : List ℕ) (p : Place) {end command start last : ℕ} → r.depth ≢ 0 → ((k : ℕ) → get_or list k 0 < 0x100)
    → ValidTable list pool → ForName t p.at end → RefersTo list pool (name_of t p.at end) command start last
    → Referred r t list pool p command (end + 1) (take (last - start) (drop start pool))
unfolding part
referred r t list pool p {end} {command} {start} {last} deep bytes valid f k =
    let n : little_endian list (command + 10) 2 ≡ last - start = omega (arith, k.ends) in
    record {
      name = name_of t p.at end;
      deep = deep;
      bytes = bytes;
      valid = valid;
      inside = omega (arith, f.ends.from, f.inside);
      on = omega (arith, f.ends.from);
      to = omega (arith, f.inside);
      next_is = next_named r.how r.guard t p.at end f.amp f.ends f.inside f.no_number;
      is = token_named r.how r.guard t p.at end f.amp f.ends f.inside f.no_number;
      no_amp = f.no_amp;
      defines = k.defines;
      same = k.same;
      text_is = sym (ap (λ (m : ℕ). take m (drop (little_endian list (command + 6) 4) pool)) n ∙ ap (λ (m : ℕ). take (last - start) (drop m pool)) (sym k.starts));
    }

module _ (r : Reading) (t list pool : List ℕ) (p : Place) (deep : r.depth ≢ 0) (old seen : List ℕ) where
  abbrev level : Level
  level = level_of r list pool t

  abbrev reads : Settings
  reads = settings_of r list pool

  legal : reads.legal ≡ legal_by r.inguard
  legal = by_legal r.inner r.inguard list pool r.limit

  abbrev heads : Heads
  heads = read_by r.how r.guard

  refers : Refers (read_by r.how r.guard)
  refers = read_refers r.how r.guard

  -- a reference that stands for a character
  pub halt_char : {c next more : ℕ} → ForChar r.inguard t p.at c next → {new : List ℕ} → Writes (shaped r.form (encode c)) p.len old new more
      → HaltKeeps level r.base p old seen new seen (Ok (Next next more p.openings))
  halt_char {c} {next} {more} f {new} w =
      record {
        past = (omega (arith, f.on), f.to);
        buffer = w.1.buffer;
        words = refl;
        goes = λ d le v whole begun e k.
            let inside : p.at < length t = omega (arith, f.on, f.to) in
            let given = f.given heads refers reads legal d (deep_at r deep d le) p.openings in
            subst (λ (m : ℕ). Came (at_depth d level) v whole begun new seen next (p.len + m) p.openings) (sym w.0)
            (came_token (at_depth d level) v whole begun k (encode c) inside (f.next_is heads refers) f.to given f.utf8
            (token_rest r.how r.guard t p.at inside k.rest reads d p.openings (encode c) given f.utf8 (f.next_is heads refers))
            (omega (arith, encode_at_most c, f.on)) w.1);
      }

  -- one that is refused
  pub halt_refused : {why : Refusal} → p.at < length t
      → Answers r.inguard t p.at (λ n. refused [] n (number_of why) (first_of why) (second_of why))
      → HaltKeeps level r.base p old seen old seen (Err why)
  halt_refused inside f =
      record {
        past = tt;
        buffer = refl;
        words = refl;
        goes = λ d le v whole begun e k. came_stop (at_depth d level) v whole begun k [] p.openings inside (f heads refers reads legal d (deep_at r deep d le) p.openings);
      }

  module _ {end : ℕ} (f : ForName t p.at end) where
    abbrev name : List ℕ
    name = name_of t p.at end

    inside : p.at < length t
    inside = omega (arith, f.ends.from, f.inside)

    bind : reads.bind name ≡ binding list pool name
    bind = by_bind r.inner r.inguard list pool r.limit name

    -- refusal 27, whatever the openings so far
    pub halt_external : binding list pool name ≡ external → HaltKeeps level r.base p old seen old seen (Err (ExternalEntity p.at))
    unfolding bound_to
    halt_external e =
        record {
          past = tt;
          buffer = refl;
          words = refl;
          goes = λ d le v whole begun b k.
              came_stop (at_depth d level) v whole begun k [] p.openings inside
              (at_external heads refers reads d (deep_at r deep d le) t p.at p.openings end f.amp f.ends f.inside f.no_number (binding list pool name) bind pool
              (rw (f.no_amp, e)));
        }

    -- refusal 11
    pub halt_unknown : binding list pool name ≡ unknown → HaltKeeps level r.base p old seen old seen (Err (UnrecognizedEntity (p.at + 1) end))
    unfolding bound_to
    halt_unknown e =
        record {
          past = tt;
          buffer = refl;
          words = refl;
          goes = λ d le v whole begun b k.
              came_stop (at_depth d level) v whole begun k [] p.openings inside
              (at_unknown heads refers reads d (deep_at r deep d le) t p.at p.openings end f.amp f.ends f.inside f.no_number (binding list pool name) bind pool
              (rw (f.no_amp, e)));
        }

    -- a predefined name is its byte, where the memory that is left is one still
    halt_byte : {b : ℕ} → binding list pool name ≡ predefined (b ∷ []) → {new after : List ℕ} {size : ℕ} → Writes (shaped r.form (b ∷ [])) p.len old new size
        → length after ≡ length seen → ((v : List ℕ) → Memory reads r.form list pool v seen → Memory reads r.form list pool v after)
        → HaltKeeps level r.base p old seen new after (Ok (Next (end + 1) size p.openings))
    unfolding bound_to
    halt_byte {b} e {new} {after} {size} w words keeps =
        record {
          past = (omega (arith, f.ends.from), omega (arith, f.inside));
          buffer = w.1.buffer;
          words = words;
          goes = λ d le v whole begun x k.
              came_on (at_depth d level) v whole begun k (b ∷ [])
              (left_done (at_depth d level) p.at p.openings (end + 1) p.openings (b ∷ []) inside next_is (given d le p.openings)) (sym w.0) one
              (token_rest r.how r.guard t p.at inside k.rest reads d p.openings (b ∷ []) (given d le p.openings) one next_is)
              (w.1.fits (shaped r.form k.value) whole k.size k.fitted)
              (keeps _ (memory_more reads r.form list pool k.memory (shaped r.form (b ∷ []))))
              (omega (arith, f.inside)) (le_refl _) k.within (omega (arith, f.ends.from));
        }
      where
        next_is : next_at (read_by r.how r.guard) t p.at ≡ end + 1
        next_is = next_named r.how r.guard t p.at end f.amp f.ends f.inside f.no_number

        one : WellFormed (b ∷ [])
        one =
            one_of_four (λ c. WellFormed (c ∷ [])) (ascii_well_formed (60 ∷ []) refl) (ascii_well_formed (62 ∷ []) refl) (ascii_well_formed (39 ∷ []) refl)
            (ascii_well_formed (34 ∷ []) refl) name b f.no_amp (predefined_binding list pool name (b ∷ []) e)

        itself : (d n : ℕ) → walk reads reads.inner (d - 1) (b ∷ []) n ≡ done (b ∷ []) n
        itself d n =
            ap (λ (h : Heads). walk reads h (d - 1) (b ∷ []) n) (by_inner r.inner r.inguard list pool r.limit)
            ∙ read_predefined reads r.inner r.inguard list pool name (d - 1) b n f.no_amp e

        given : (d : ℕ) → r.depth ≤ d → (n : ℕ) → outcome_of (stop_answer reads d) (token_of (head_at (read_by r.how r.guard) t p.at)) n ≡ done (b ∷ []) n
        given d le n =
            at_predefined heads refers reads d (deep_at r deep d le) t p.at n end f.amp f.ends f.inside f.no_number (binding list pool name) bind pool b
            (rw (f.no_amp, e)) (λ x y. itself d n)

    -- that the table does not define it is kept, or was known
    pub halt_predefined : {b : ℕ} → predefined_of name ≡ predefined (b ∷ []) → binding list pool name ≡ predefined (b ∷ []) → {new after : List ℕ} {size : ℕ}
        → Writes (shaped r.form (b ∷ [])) p.len old new size → Noted seen b after → HaltKeeps level r.base p old seen new after (Ok (Next (end + 1) size p.openings))
    halt_predefined plain e w noted = halt_byte e w (noted_length noted) (λ v m. memory_noted reads r.form list pool m name f.no_amp plain e noted)

    pub halt_plain : {b : ℕ} → binding list pool name ≡ predefined (b ∷ []) → {new : List ℕ} {size : ℕ} → Writes (shaped r.form (b ∷ [])) p.len old new size
        → HaltKeeps level r.base p old seen new seen (Ok (Next (end + 1) size p.openings))
    halt_plain e w = halt_byte e w refl (λ v m. m)

-- the byte of a predefined name is ASCII
pub plain_ascii : (t list pool : List ℕ) (at b : ℕ) → ForPlain t list pool at b → b < 128
plain_ascii t list pool at b f =
    one_of_four (λ c. c < 128) (omega arith) (omega arith) (omega arith) (omega arith) (name_of t at (at + 3)) b f.name.no_amp f.is

-- ---- a space, for a line end or a blank

pub halt_blank : (r : Reading) (t list pool : List ℕ) (p : Place) → r.depth ≢ 0 → (old seen : List ℕ) → p.at < length t → {w : ℕ}
    → halts (eqb r.how 1) (drop p.at t) ≡ true → Blank (heads_by r.how) t p.at (record { byte = 32; width = w }) → {new : List ℕ} → new ≡ set old p.len 32
    → HaltKeeps (level_of r list pool t) r.base p old seen new seen (Ok (Next (p.at + w) 1 p.openings))
halt_blank r t list pool p deep old seen inside {w} halt blank {new} q =
    let read = guard_blank t p.at inside r.guard (heads_by r.how) (halt_clean r.guard (eqb r.how 1) (drop p.at t) halt) blank in
    let adds = subst (Adds (32 ∷ []) p.len old) (sym q) (adds_byte 32 p.len old) in
    record {
      past = (omega (arith, blank.some), blank.inside);
      buffer = adds.buffer;
      words = refl;
      goes = λ d le v whole begun b c. came_blank (read_at d r) list pool t (deep_at r deep d le) v whole begun c w inside read adds;
    }

-- ---- a table

-- a text of the table is short
pub refers_part : {list pool name : List ℕ} {command start last : ℕ} → RefersTo list pool name command start last → length (take (last - start) (drop start pool)) ≤ 65535
refers_part {list} {pool} {name} {command} {start} {last} k = omega (arith, length-take (last - start) (drop start pool), k.ends, k.defines.short)

pub valid_short : (list pool : List ℕ) → ValidTable list pool → length list ≤ 49154
valid_short list pool e = go (ltb 49154 (length list)) refl
  where
    go : (x : Bool) → ltb 49154 (length list) ≡ x → length list ≤ 49154
    go true q =
        let z : Refused 6 0 0 ≡ Done (length (declarations list)) 0 = long_list list pool (ltb-true 49154 (length list) q) ∙ e in
        let k : ◌≡◌ {A = ℕ} 0 1 = cc in
        absurd (omega (arith, k))
    go false q = ltb-false 49154 (length list) q
