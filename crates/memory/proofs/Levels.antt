-- One level of a walk with the memory of all levels: from the level's start (`came_start`) by tokens (`came_token`, `came_stop`), texts that
-- are had again (`came_taken`) or kept (`came_kept`) and openings (`came_opens`, `opened_next`) to its end (`came_end`, `finishes_end`); the
-- step over the walk of the text that it opens (`opened_walked`, `opened_plain`); and that no sum overflows (`came_room`, `opens_lent`).
-- Assumes nothing.
use mathlib.Core.Path.{◌≡◌, refl, sym, ap, subst, ◌∙◌}
use mathlib.Core.Logic.{◌≢◌}
use mathlib.Core.Bool.{true, false}
use mathlib.Core.List.{List, [], ◌∷◌, ◌++◌, append-nil, append_assoc}
use Prim.Native.Nat.{ℕ, ◌+◌, ◌-◌, ◌*◌, ◌≤◌, ◌<◌, min}
use native.Mathlib.Omega.{arith}
use native.Mathlib.Nat.{le_refl}
use lib.ListN.{length, get_or, take, drop, length-append, length-take}
use borrow.Rule.Slice.PartMut.{mid_of, put_mid}
use Rattle.text.specs.Bytes.{same_bytes}
use Rattle.text.specs.Utf8.{WellFormed}
use Rattle.text.specs.Answers.{Answer}
use Rattle.text.specs.Answers.{Done, Refused}
use Rattle.entity.specs.Table.{little_endian, part}
use Rattle.entity.specs.Binding.{text, predefined, predefined_of, binding}
use Rattle.entity.specs.Commands.{command_name, command_text, Defines}
use Rattle.entity.proofs.Referents.{defines_binding}
use Rattle.output.specs.Over.{over}
use Rattle.text.proofs.Utf8.{append_well_formed, ascii_well_formed}
use Rattle.tokens.specs.Tokens.{named, Token, stop, token_of}
use Rattle.tokens.specs.Outcome.{Outcome, done, refused, prepend, followed, produced, answer_of}
use Rattle.tokens.specs.Walking.{head_at, next_at, outcome_of, step_of}
use Rattle.tokens.specs.Walking.{Step}
use Rattle.tokens.specs.Walking.{Next, Stopped}
use Rattle.tokens.proofs.Openings.{openings_of}
use Rattle.tokens.proofs.Progress.{run_at, run_over, prepend_none, prepend_prepend}
use Rattle.attribute.specs.Walk.{Settings, walk}
use Rattle.attribute.specs.Steps.{stop_answer, step_from}
use Rattle.attribute.proofs.Single.{walk_run}
use Rattle.table_index.specs.Index.{Ready}
use Rattle.memory.specs.Slots.{opening, shaped, shaped_in, Slot, Stands, slot_at, Memory, Kept, Noted, Indexed}
use Rattle.memory.specs.Levels.{Level, inner_level, left, Fitted, Adds, Came, Whole, Refuses, RefusesAt, Opens, Finishes, Opened, Taken, Lent}
use Rattle.memory.specs.declared.Reading.{Reading}
use Rattle.memory.specs.declared.Place.{Place}
use Rattle.memory.proofs.Shaped.{shaped_none, shaped_most, shaped_append, shaped_went, shaped_halted}
use Rattle.memory.proofs.Slots.{opening_one, opening_within, opening_stop, stands_opened, stands_size, again_stop, part_of_level}
use Rattle.memory.proofs.Keeping.{memory_zeros, memory_more, memory_kept, memory_noted, memory_indexed}
use Rattle.memory.proofs.Fitted.{fitted_start, fitted_level, fitted_full, fitted_again}

-- ---- how long values are

-- what is made of a replacement text has at most its bytes and 65,535 for each opening
abbrev pub Brief : Settings → Type 0
Brief s = (depth n : ℕ) (t : List ℕ) → length (produced (walk s s.inner depth t n)) + 65535 * n ≤ length t + 65535 * openings_of (walk s s.inner depth t n)

pub text_short : {list pool : List ℕ} {c : ℕ} → Defines list pool c → length (command_text list pool c) ≤ 65535
unfolding part
text_short {list} {pool} {c} d =
    let n = length-take (little_endian list (c + 10) 2) (drop (little_endian list (c + 6) 4) pool) in
    omega (arith, n, d.short)

-- so an opening gives at most 65,535 bytes for each that it makes
pub opening_brief : (s : Settings) → Brief s → (depth m made : ℕ) (t value : List ℕ) → length t ≤ 65535 → opening s depth t m ≡ done value made
    → length value + 65535 * m ≤ 65535 * made
opening_brief s brief depth m made t value h e =
    let b : length value + 65535 * (m + 1) ≤ length t + 65535 * made =
    subst (λ (o : Outcome). length (produced o) + 65535 * (m + 1) ≤ length t + 65535 * openings_of o) e (brief (depth - 1) (m + 1) t) in
    omega (arith, b, h)

pub stands_brief : (s : Settings) → Brief s → {form : ℕ} {t v : List ℕ} {x : Slot} → length t ≤ 65535 → x.opened ≤ s.limit → (k : Stands s form t v x) → length k.value ≤ 65535 * x.opened
stands_brief s brief {form} {t} {v} {x} h few k =
    omega (arith, opening_brief s brief x.depth 0 (0 + x.opened) t k.value h (k.again x.depth 0 (le_refl _) (omega (arith, few))))

-- ---- what a level needs to know of its settings and its table

-- how long values are, that the texts of the table are whole characters, and that what is made of such a text is
pub record Sound (s : Settings) (list pool : List ℕ) : Type 0 where
  pub brief : Brief s
  pub texts : (c : ℕ) → Defines list pool c → WellFormed (command_text list pool c)
  pub values : (depth n made : ℕ) (t value : List ℕ) → WellFormed t → walk s s.inner depth t n ≡ done value made → WellFormed value

pub opening_utf8 : (s : Settings) {list pool : List ℕ} → Sound s list pool → {c : ℕ} → Defines list pool c → (depth m made : ℕ) (value : List ℕ)
    → opening s depth (command_text list pool c) m ≡ done value made → WellFormed value
opening_utf8 s {list} {pool} sound {c} d depth m made value e = sound.values (depth - 1) (m + 1) made (command_text list pool c) value (sound.texts c d) e

pub stands_utf8 : (s : Settings) {list pool : List ℕ} → Sound s list pool → {c : ℕ} → Defines list pool c → {form : ℕ} {v : List ℕ} {x : Slot}
    → x.opened ≤ s.limit → (k : Stands s form (command_text list pool c) v x) → WellFormed k.value
stands_utf8 s sound d {form} {v} {x} few k =
    opening_utf8 s sound d x.depth 0 (0 + x.opened) k.value (k.again x.depth 0 (le_refl _) (omega (arith, few)))

-- ---- the contract of `again`, by the code's cases

-- `writes`, where the buffer is full
pub taken_full : (place count len base : ℕ) {old : List ℕ} → length old ≤ len
    → (v value whole : List ℕ) → length v ≡ base → length value ≡ len → place + count ≤ base + len → Fitted value whole old
    → Fitted (value ++ take count (drop place (v ++ value))) whole old
taken_full place count len base h v value whole b n inside f = fitted_full f (take count (drop place (v ++ value))) (omega (arith, n, h))

-- where the part is the level's own, and fits
pub taken_again : (place count len base : ℕ) {old new : List ℕ} → base ≤ place → len + count ≤ length old → length new ≡ length old
    → ((x w : List ℕ) → old ≡ over x w → length x ≡ len → new ≡ over (x ++ take count (drop (place - base) x)) w)
    → (v value whole : List ℕ) → length v ≡ base → length value ≡ len → place + count ≤ base + len → Fitted value whole old
    → Fitted (value ++ take count (drop place (v ++ value))) whole new
taken_again place count len base {old} {new} h room size says v value whole b n inside f =
    subst (λ (x : List ℕ). Fitted (value ++ x) whole new) (part_of_level v value base place count b h)
    (fitted_again f (place - base) count n (omega (arith, h, inside)) room size says)

-- ---- a level

pub walk_left : (l : Level) (n : ℕ) → walk l.settings l.at l.depth l.text n ≡ left l 0 n
walk_left l n = walk_run l.settings l.at l.depth l.text n

pub refuses_some : {l : Level} {begun number first second made : ℕ} → RefusesAt l begun number first second made → Refuses l begun number first second
refuses_some {l} {begun} {number} {first} {second} {made} r = record { before = r.before; made = made; outcome = r.outcome }

-- a place, by its numbers
abbrev pub place_of : ℕ → ℕ → ℕ → Place
place_of at len openings = record { at = at; len = len; openings = openings }

module _ (l : Level) where
  abbrev S : Settings
  S = l.settings

  -- what is written of a value
  abbrev w : List ℕ → List ℕ
  w value = shaped l.form value

  abbrev given : ℕ → ℕ → Outcome
  given i n = outcome_of (stop_answer S l.depth) (token_of (head_at l.at l.text i)) n

  -- the token at an offset, and then the rest
  pub left_at : (i n : ℕ) {j : ℕ} → i < length l.text → next_at l.at l.text i ≡ j → left l i n ≡ followed (given i n) (λ m. left l j m)
  left_at i n h q = run_at l.at (stop_answer S l.depth) l.text i n h ∙ ap (λ (k : ℕ). followed (given i n) (λ m. left l k m)) q

  pub left_done : (i n j now : ℕ) (more : List ℕ) → i < length l.text → next_at l.at l.text i ≡ j → given i n ≡ done more now
      → left l i n ≡ prepend more (left l j now)
  left_done i n j now more h q e = left_at i n h q ∙ ap (λ (o : Outcome). followed o (λ m. left l j m)) e

  pub left_refused : (i n made number first second : ℕ) (before : List ℕ) → i < length l.text → given i n ≡ refused before made number first second
      → left l i n ≡ refused before made number first second
  left_refused i n made number first second before h e = left_at i n h refl ∙ ap (λ (o : Outcome). followed o (λ m. left l (next_at l.at l.text i) m)) e

  module _ (v whole : List ℕ) (begun : ℕ) where
    -- at the level's start
    pub came_start : {words : List ℕ} → WellFormed l.text → Memory S l.form l.list l.pool v words → begun ≤ S.limit → Came l v whole begun whole words 0 0 begun
    came_start {words} u m h =
        let none = shaped_none l.form in
        record {
          value = [];
          size = ap length none;
          outcome = sym (prepend_none (left l 0 begun));
          fitted = subst (λ (x : List ℕ). Fitted x whole whole) (sym none) (fitted_start whole);
          memory = subst (λ (x : List ℕ). Memory S l.form l.list l.pool x words) (sym (ap (λ (x : List ℕ). v ++ x) none ∙ append-nil v)) m;
          utf8 = ascii_well_formed [] refl;
          rest = u;
          inside = omega arith;
          more = le_refl _;
          within = h;
          counted = omega arith;
        }

    module _ {out words : List ℕ} {i len made : ℕ} (c : Came l v whole begun out words i len made) where
      -- on to a later offset, with more of the value
      pub came_on : (more : List ℕ) {new after : List ℕ} {j size now : ℕ} → left l i made ≡ prepend more (left l j now) → length (w more) ≡ size
          → WellFormed more → WellFormed (drop j l.text)
          → Fitted (w c.value ++ w more) whole new → Memory S l.form l.list l.pool ((v ++ w c.value) ++ w more) after
          → j ≤ length l.text → made ≤ now → now ≤ S.limit → length more + 4 * i + 262140 * made ≤ 4 * j + 262140 * now
          → Came l v whole begun new after j (len + size) now
      came_on more {new} {after} {j} {size} {now} e n u rest f m h g top b =
          let joined : w c.value ++ w more ≡ w (c.value ++ more) = sym (shaped_append l.form c.value more u) in
          record {
            value = c.value ++ more;
            size = ap length (sym joined) ∙ length-append (w c.value) (w more) ∙ omega (arith, c.size, n);
            outcome = c.outcome ∙ ap (prepend c.value) e ∙ prepend_prepend c.value more (left l j now);
            fitted = subst (λ (x : List ℕ). Fitted x whole new) joined f;
            memory = subst (λ (x : List ℕ). Memory S l.form l.list l.pool x after) (append_assoc v (w c.value) (w more) ∙ ap (λ (x : List ℕ). v ++ x) joined) m;
            utf8 = append_well_formed c.value more c.utf8 u;
            rest = rest;
            inside = h;
            more = omega (arith, c.more, g);
            within = top;
            counted = omega (arith, c.counted, b, n, shaped_most l.form more);
          }

      -- the same where nothing is kept
      pub came_past : (more : List ℕ) {new : List ℕ} {j size now : ℕ} → left l i made ≡ prepend more (left l j now) → length (w more) ≡ size
          → WellFormed more → WellFormed (drop j l.text) → Fitted (w c.value ++ w more) whole new
          → j ≤ length l.text → made ≤ now → now ≤ S.limit → length more + 4 * i + 262140 * made ≤ 4 * j + 262140 * now
          → Came l v whole begun new words j (len + size) now
      came_past more e n u rest f h g top b = came_on more e n u rest f (memory_more S l.form l.list l.pool c.memory (w more)) h g top b

      -- the same place with another memory
      pub came_memory : {after : List ℕ} → Memory S l.form l.list l.pool (v ++ w c.value) after → Came l v whole begun out after i len made
      came_memory {after} m =
          record {
            value = c.value;
            size = c.size;
            outcome = c.outcome;
            fitted = c.fitted;
            memory = m;
            utf8 = c.utf8;
            rest = c.rest;
            inside = c.inside;
            more = c.more;
            within = c.within;
            counted = c.counted;
          }

      -- after it was noted that the table does not define a predefined name
      pub came_noted : (name : List ℕ) {b : ℕ} {after : List ℕ} → same_bytes name (97 ∷ 109 ∷ 112 ∷ []) ≡ false → predefined_of name ≡ predefined (b ∷ [])
          → binding l.list l.pool name ≡ predefined (b ∷ []) → Noted words b after → Came l v whole begun out after i len made
      came_noted name amp p found k = came_memory (memory_noted S l.form l.list l.pool c.memory name amp p found k)

      -- with the first memory of a walk that had none
      pub came_zeros : (after : List ℕ) → (length after ≢ 0 → 84 ≤ length after) → ((k : ℕ) → get_or after k 0 ≡ 0) → Ready l.list l.pool (drop 84 after)
          → Came l v whole begun out after i len made
      came_zeros after size zeros index = came_memory (memory_zeros S l.form l.list l.pool (v ++ w c.value) after size zeros index)

      -- after a name was looked up
      pub came_indexed : {after : List ℕ} → Indexed l.list l.pool words after → Came l v whole begun out after i len made
      came_indexed x = came_memory (memory_indexed S l.form l.list l.pool c.memory x)

      pub came_end : length l.text ≤ i → Whole l v whole begun out words len made
      came_end h =
          record {
            value = c.value;
            size = c.size;
            outcome =
                c.outcome
                ∙ ap (prepend c.value) (run_over l.at (stop_answer S l.depth) l.text i made h)
                ∙ ap (λ (x : List ℕ). done x made) (append-nil c.value);
            fitted = c.fitted;
            memory = c.memory;
            more = c.more;
            within = c.within;
            counted = omega (arith, c.counted, c.inside);
          }

      pub came_refused : {number first second : ℕ} (before : List ℕ) (m : ℕ) → left l i made ≡ refused before m number first second → RefusesAt l begun number first second m
      came_refused before m e = record { before = c.value ++ before; outcome = c.outcome ∙ ap (prepend c.value) e }

      -- one token that makes no opening, or is refused
      pub came_token : (more : List ℕ) {new : List ℕ} {j : ℕ} → i < length l.text → next_at l.at l.text i ≡ j → j ≤ length l.text
          → given i made ≡ done more made → WellFormed more → WellFormed (drop j l.text) → length more + 4 * i ≤ 4 * j → Adds (w more) len out new
          → Came l v whole begun new words j (len + length (w more)) made
      came_token more {new} {j} h q to e u rest b f =
          came_past more (left_done i made j made more h q e) refl u rest (f.fits (w c.value) whole c.size c.fitted) to (le_refl _) c.within (omega (arith, b))

      pub came_stop : {number first second : ℕ} (before : List ℕ) (m : ℕ) → i < length l.text → given i made ≡ refused before m number first second
          → RefusesAt l begun number first second m
      came_stop {number} {first} {second} before m h e = came_refused before m (left_refused i made m number first second before h e)

      -- ---- a reference to a command

      module _ (deep : l.depth ≢ 0) {command : ℕ} (name : List ℕ) {j : ℕ} (inside : i < length l.text) (on : i < j) (to : j ≤ length l.text)
          (next : next_at l.at l.text i ≡ j) (is : token_of (head_at l.at l.text i) ≡ stop (named i name))
          (amp : same_bytes name (97 ∷ 109 ∷ 112 ∷ []) ≡ false) (bind : S.bind name ≡ binding l.list l.pool name)
          (d : Defines l.list l.pool command) (same : same_bytes (command_name l.list l.pool command) name ≡ true)
          (rest : WellFormed (drop j l.text)) where
        abbrev t : List ℕ
        t = command_text l.list l.pool command

        bound : S.bind name ≡ text t
        bound = bind ∙ defines_binding d name same

        -- refusal 17 aside it is opened
        pub came_opens : {slot : ℕ} → slot < 16 → made ≢ S.limit → Opens l v whole begun out words i j command slot len made
        came_opens k room =
            record {
              came = c;
              on = on;
              inside = to;
              is =
                  left_at i made inside next
                  ∙ ap (λ (x : Token). followed (outcome_of (stop_answer S l.depth) x made) (λ m. left l j m)) is
                  ∙ ap (λ (o : Outcome). followed o (λ m. left l j m)) (opening_stop S t l.depth made deep room i name amp bound);
              defines = d;
              rest = rest;
              known = k;
              room = omega (arith, room, c.within);
            }

        -- what a slot says is its value; its bytes are in what the whole call has written
        pub came_again : Sound S l.list l.pool → {new : List ℕ} (slot : ℕ) → slot < 16 → get_or words slot 0 ≡ command + 1 → (slot_at words slot).depth ≤ l.depth
            → made + (slot_at words slot).opened ≤ S.limit
            → Fitted (w c.value ++ take (slot_at words slot).count (drop (slot_at words slot).place (v ++ w c.value))) whole new
            → Came l v whole begun new words j (len + (slot_at words slot).count) (made + (slot_at words slot).opened)
        came_again sound {new} slot k e enough few f =
            let x = slot_at words slot in
            let st = c.memory.stands slot command k e in
            let small = stands_brief S sound.brief (text_short d) (omega (arith, few)) st in
            came_past st.value
            (left_done i made j (made + x.opened) st.value inside next
            (ap (λ (y : Token). outcome_of (stop_answer S l.depth) y made) is ∙ again_stop S t st l.depth made deep enough few i name amp bound))
            (stands_size S t st) (stands_utf8 S sound d (omega (arith, few)) st) rest (subst (λ (y : List ℕ). Fitted (w c.value ++ y) whole new) (sym st.is) f)
            to (omega arith) few (omega (arith, small, on))

        -- so by the contract of `again`, whose reading and place are those of the level
        pub came_taken : Sound S l.list l.pool → {new : List ℕ} {slot count now : ℕ} (r : Reading) (p : Place) → slot < 16 → length v ≡ r.base → r.depth ≡ l.depth
            → r.limit ≡ S.limit → p.len ≡ len → p.openings ≡ made → Taken command slot r p words out new count now
            → Came l v whole begun new words j (len + count) now
        came_taken sound {new} {slot} {count} {now} r p k at_base deep_is limit_is len_is made-is x =
            let st = c.memory.stands slot command k x.is in
            let e = x.size in
            let o : now ≡ made + (slot_at words slot).opened = omega (arith, x.opens, made-is) in
            let size : length (w c.value) ≡ p.len = omega (arith, c.size, len_is) in
            let room : (slot_at words slot).place + count ≤ r.base + p.len =
            omega (arith, st.inside, e, length-append v (w c.value), at_base, size) in
            let f = x.writes v (w c.value) whole at_base size room c.fitted in
            subst (λ (n : ℕ). Came l v whole begun new words j (len + n) now) (sym e)
            (subst (λ (n : ℕ). Came l v whole begun new words j (len + (slot_at words slot).count) n) (sym o)
            (came_again sound slot k x.is (omega (arith, x.enough, deep_is)) (omega (arith, o, x.within, limit_is))
            (subst (λ (n : ℕ). Fitted (w c.value ++ take n (drop (slot_at words slot).place (v ++ w c.value))) whole new) e f)))

        -- a text whose opening is known is its value, and may be kept with a depth at which that holds
        pub came_kept : Sound S l.list l.pool → {new after : List ℕ} (value : List ℕ) (now : ℕ) → made < S.limit → opening S l.depth t made ≡ done value now
            → Fitted (w c.value ++ w value) whole new → Memory S l.form l.list l.pool ((v ++ w c.value) ++ w value) after
            → Came l v whole begun new after j (len + length (w value)) now
        came_kept sound value now room e f m =
            let small = opening_brief S sound.brief l.depth made now t value (text_short d) e in
            let one = opening_one S t l.depth made now value e in
            came_on value
            (left_done i made j now value inside next
            (ap (λ (y : Token). outcome_of (stop_answer S l.depth) y made) is
            ∙ opening_stop S t l.depth made deep (λ q. omega (arith, q, room)) i name amp bound ∙ e))
            refl (opening_utf8 S sound d l.depth made now value e) rest f m to (omega (arith, one))
            (opening_within S t l.depth made now value room e) (omega (arith, small, one, on))

    -- ---- an opening, and what is kept of it

    module _ {out words : List ℕ} {at next command slot len made base : ℕ}
        (o : Opens l v whole begun out words at next command slot len made) (at_base : length v ≡ base) where
      abbrev sofar : List ℕ
      sofar = w o.came.value

      -- the step is called with these
      pub opens_memory : Memory S l.form l.list l.pool (v ++ sofar) words
      opens_memory = o.came.memory

      pub opens_place : length (v ++ sofar) ≡ base + len
      opens_place = rw (length-append, at_base, o.came.size)

      module _ {cut : ℕ} {part after : List ℕ} (least : cut ≡ min len (length out)) where
        pub opened_next : Sound S l.list l.pool → {a more now : ℕ} {last : List ℕ}
            → Opened S l.form l.list l.pool l.depth command next made (v ++ sofar) (mid_of cut (length out - cut) out) part after (Next a more now)
            → Kept after slot command (record { depth = l.depth; place = base + len; count = more; opened = now - made }) last
            → (a ≡ next) × Came l v whole begun (put_mid cut (length out - cut) out part) last next (len + more) now
        opened_next sound {a} {more} {now} {last} p kept =
            let t = command_text l.list l.pool command in
            let g = shaped_went l.form next (opening S l.depth t made) p.answers in
            let one = opening_one S t l.depth made now g.value g.whole in
            let top = opening_within S t l.depth made now g.value o.room g.whole in
            let small = opening_brief S sound.brief l.depth made now t g.value (text_short o.defines) g.whole in
            let x : Slot = record { depth = l.depth; place = base + len; count = more; opened = now - made } in
            let st : Stands S l.form t ((v ++ sofar) ++ w g.value) x =
            stands_opened S t l.form (v ++ sofar) g.value g.whole o.room (sym opens_place) (sym g.size) refl in (
              g.to,
              came_on o.came g.value
                  (o.is ∙ ap (λ (y : Outcome). followed y (λ n. left l next n)) g.whole)
                  g.size
                  (opening_utf8 S sound o.defines l.depth made now g.value g.whole) o.rest
                  (fitted_level o.came.fitted (w g.value) o.came.size least (p.fitted g.value now g.whole))
                  (memory_kept S l.form l.list l.pool (p.keeps g.value now g.whole) o.known o.defines st kept)
                  o.inside (omega (arith, one)) top (omega (arith, small, one, o.on)),
            )

        -- where the step goes on, and how much it made
        pub opened_counts : Brief S → {a more now : ℕ}
            → Opened S l.form l.list l.pool l.depth command next made (v ++ sofar) (mid_of cut (length out - cut) out) part after (Next a more now)
            → (a ≡ next) × (made < now) × (now ≤ S.limit) × (more + 393210 * made ≤ 393210 * now)
        opened_counts brief {a} {more} {now} p =
            let t = command_text l.list l.pool command in
            let g = shaped_went l.form next (opening S l.depth t made) p.answers in
            let one = opening_one S t l.depth made now g.value g.whole in
            let top = opening_within S t l.depth made now g.value o.room g.whole in
            let small = opening_brief S brief l.depth made now t g.value (text_short o.defines) g.whole in
            (g.to, omega (arith, one), top, omega (arith, small, g.size, shaped_most l.form g.value))

        pub opened_stopped : {number first second : ℕ}
            → Opened S l.form l.list l.pool l.depth command next made (v ++ sofar) (mid_of cut (length out - cut) out) part after (Stopped number first second)
            → Refuses l begun number first second
        opened_stopped {number} {first} {second} p =
            let g = shaped_halted l.form next (opening S l.depth (command_text l.list l.pool command) made) p.answers in
            refuses_some (came_refused o.came g.before g.openings (o.is ∙ ap (λ (y : Outcome). followed y (λ n. left l next n)) g.whole))

    -- ---- the level's answer

    pub finishes_end : {out words : List ℕ} {len made : ℕ} → Whole l v whole begun out words len made → Finishes l v whole begun out words (Done len made)
    finishes_end {out} {words} {len} {made} e =
        record {
          answers = sym (ap (λ (o : Outcome). answer_of (shaped_in l.form o)) e.outcome ∙ ap (λ (n : ℕ). Done n made) e.size);
          made = λ value openings q. same value openings q;
        }
      where
        same : (value : List ℕ) (openings : ℕ) → left l 0 begun ≡ done value openings → Whole l v whole begun out words (length (w value)) openings
        same value openings q =
            let z : done e.value made ≡ done value openings = sym e.outcome ∙ q in
            let a : e.value ≡ value = cc in
            let b : made ≡ openings = cc in
            let n : len ≡ length (w value) = sym e.size ∙ ap (λ (x : List ℕ). length (w x)) a in
            subst (λ (k : ℕ). Whole l v whole begun out words k openings) n (subst (Whole l v whole begun out words len) b e)

    pub finishes_refused : {out words : List ℕ} {number first second : ℕ} → Refuses l begun number first second
        → Finishes l v whole begun out words (Refused number first second)
    finishes_refused {out} {words} {number} {first} {second} e =
        record {
          answers = sym (ap (λ (o : Outcome). answer_of (shaped_in l.form o)) e.outcome);
          made = λ value openings q. absurd (no value openings q);
        }
      where
        no : (value : List ℕ) (openings : ℕ) → left l 0 begun ≡ done value openings → ⊥
        no value openings q =
            let z : refused e.before e.made number first second ≡ done value openings = sym e.outcome ∙ q in
            let k : ◌≡◌ {A = ℕ} 0 1 = cc in
            omega (arith, k)

-- ---- the step over the walk of the text that it opens

module _ (s : Settings) (form : ℕ) (list pool : List ℕ) (depth command next openings : ℕ) (v old new words : List ℕ) where
  abbrev inner : Level
  inner = inner_level s form list pool depth command

  pub opening_left : opening s depth (command_text list pool command) openings ≡ left inner 0 (openings + 1)
  opening_left = walk_left inner (openings + 1)

  pub opened_walked : {r : Answer} → Finishes inner v old (openings + 1) new words r → Opened s form list pool depth command next openings v old new words (step_from next r)
  opened_walked {r} f =
      record {
        answers = ap (step_from next) f.answers ∙ told (left inner 0 (openings + 1)) ∙ ap (λ (o : Outcome). step_of next (shaped_in form o)) (sym opening_left);
        fitted = λ value made e. (same value made e).0;
        keeps = λ value made e. (same value made e).1;
      }
    where
      told : (o : Outcome) → step_from next (answer_of (shaped_in form o)) ≡ step_of next (shaped_in form o)
      told (done value made) = refl
      told (refused before made number first second) = refl

      same : (value : List ℕ) (made : ℕ) → opening s depth (command_text list pool command) openings ≡ done value made
          → Fitted (shaped form value) old new × Memory s form list pool (v ++ shaped form value) words
      same value made e =
          let q = sym opening_left ∙ e in
          let x = f.made value made q in
          let z : done x.value made ≡ done value made = sym x.outcome ∙ q in
          let a : x.value ≡ value = cc in
          (subst (λ (y : List ℕ). Fitted (shaped form y) old new) a x.fitted, subst (λ (y : List ℕ). Memory s form list pool (v ++ shaped form y) words) a x.memory)

  -- a text whose walk keeps nothing, as at depth 1
  pub opened_plain : {r : Step} (o : Outcome) → opening s depth (command_text list pool command) openings ≡ o → r ≡ step_of next (shaped_in form o)
      → ((value : List ℕ) (made : ℕ) → o ≡ done value made → Fitted (shaped form value) old new) → Memory s form list pool v words
      → Opened s form list pool depth command next openings v old new words r
  opened_plain o e a f m =
      record {
        answers = a ∙ ap (λ (x : Outcome). step_of next (shaped_in form x)) (sym e);
        fitted = λ value made q. f value made (sym e ∙ q);
        keeps = λ value made q. memory_more s form list pool m (shaped form value);
      }

-- ---- no sum overflows

module _ (l : Level) (v whole : List ℕ) (begun base : ℕ) (room : base + 24 * length l.text ≤ 402653184 + 1572840 * begun) where
  pub came_room : {out words : List ℕ} {i len made : ℕ} → Came l v whole begun out words i len made → base + len ≤ 402653184 + 1572840 * made
  came_room c = omega (arith, room, c.counted, c.inside)

  -- the level of an opened text has its room
  pub inner_room : {out words : List ℕ} {at next command slot len made : ℕ} → Opens l v whole begun out words at next command slot len made
      → base + len + 24 * length (command_text l.list l.pool command) ≤ 402653184 + 1572840 * (made + 1)
  inner_room o = omega (arith, came_room o.came, text_short o.defines)

  -- so the step, and the walk of its text, are asked what they need
  pub opens_lent : {out words : List ℕ} {at next command slot len made : ℕ} → Opens l v whole begun out words at next command slot len made → length v ≡ base
      → Sound l.settings l.list l.pool → (lent : List ℕ)
      → Lent (inner_level l.settings l.form l.list l.pool l.depth command) (base + len) lent words (place_of 0 0 (made + 1))
  opens_lent {out} {words} {at} {next} {command} {slot} {len} {made} o at_base sound lent =
      let inner = inner_level l.settings l.form l.list l.pool l.depth command in
      let x = v ++ shaped l.form o.came.value in
      record {
        v = x;
        whole = lent;
        begun = made + 1;
        size = opens_place l v whole begun o at_base;
        came = came_start inner x lent (made + 1) (sound.texts command o.defines) o.came.memory (omega (arith, o.room));
        room = inner_room o;
      }

  -- what is asked at a later place of the level
  pub lent_on : {out words : List ℕ} {i len made : ℕ} → length v ≡ base → Came l v whole begun out words i len made → Lent l base out words (place_of i len made)
  lent_on at_base c = record { v = v; whole = whole; begun = begun; size = at_base; came = c; room = room }
