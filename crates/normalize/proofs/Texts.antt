-- The walk over the text of a call: its first pass, without a memory (`start_lent`, `text_end`, `text_stopped`), and on from a text to open or
-- a pause (`text_opens`, `text_pauses`, `opened_walks`), or with a memory and its index from the start (`long_lent`, `long_walks`, `long_lasts`); how a call ends that walks twice (`walks_refused`, `walks_short`, `walks_held`,
-- `walks_written`), for want of a scratch too (`lacks_refused`, `lacks_counted`) and where its count was of the value alone (`sized_written`); and
-- which walk a call asks for (`walk_for`, `call_bottom`, `call_spaced`, `call_barred`, `call_read`, `call_utf8`). Assumes nothing.
use mathlib.Core.Path.{◌≡◌, refl, sym, ap, subst, ◌∙◌}
use mathlib.Core.Logic.{◌≢◌}
use mathlib.Core.Bool.{Bool, true, false, not}
use mathlib.Core.List.{List, []}
use Prim.Native.Nat.{ℕ, zero, suc, ◌+◌, ◌-◌, ◌*◌, ◌≤◌, ◌<◌}
use native.Mathlib.Omega.{arith}
use native.Mathlib.Nat.{le_refl}
use lib.Dec.{eqb, ltb}
use lib.ListN.{length, take, drop, replicate}
use Rattle.text.specs.Bytes.{pick}
use Rattle.text.specs.Call.{laid}
use Rattle.text.specs.Version.{Rule}
use Rattle.text.specs.Answers.{Answer}
use Rattle.text.specs.Answers.{Done, Refused}
use Rattle.output.specs.Over.{over}
use Rattle.output.proofs.Clip.{over_fits}
use Rattle.eols.specs.Stops.{rule_for}
use Rattle.text.specs.Simple.{Simple}
use Rattle.text.specs.Utf8.{WellFormed}
use Rattle.eols.proofs.LineEnds.{version_rule}
use Rattle.legal.specs.Legal.{in_value, may_stand}
use Rattle.legal.specs.FirstFault.{may_by, Clean, FirstFault}
use Rattle.legal.proofs.Clean.{simple_clean}
use Rattle.halts.proofs.Smooth.{simple_plain}
use Rattle.attribute.proofs.Single.{walk_run, walk_plain}
use Rattle.attribute.proofs.Guards.{walk_clear, clear_of, read_barred}
use Rattle.canonical.specs.Canonical.{canonical}
use Rattle.halts.specs.Halts.{Smooth, HaltAt, blanks_spaced}
use Rattle.entity.specs.Table.{marked, ValidTable}
use Rattle.tokens.specs.Tokens.{Head, Heads, token_of, skip_of}
use Rattle.tokens.specs.Outcome.{Outcome, done, refused, prepend, followed, produced, answer_of, answer_in, left_in}
use Rattle.tokens.specs.Walking.{outcome_of, Walked, Ended}
use Rattle.tokens.proofs.Progress.{from_on, run_at}
use Rattle.tokens.proofs.Finished.{ended_refused, ended_short, ended_written, ended_held, whole_short, whole_written}
use Rattle.attribute.specs.Heads.{attribute_head}
use Rattle.attribute.specs.Walk.{Settings, walk, normalize, inner_head, reading, reading_of}
use Rattle.attribute.specs.Strict.{barring, strictly, reading_by}
use Rattle.attribute.specs.Steps.{heads_by, fault_by, read_by, stop_answer}
use Rattle.attribute.proofs.Outer.{with_outer, walk_outer}
use Rattle.memory.specs.Slots.{shaped, shaped_in, Trusts, Memory, Forgot}
use Rattle.memory.specs.Levels.{settings_by, settings_of, Level, level_of, left, Fitted, Came, Reaches, Finishes, Lent, FlatKeeps, StepsKeep}
use Rattle.memory.specs.declared.Reading.{Reading}
use Rattle.memory.specs.declared.Place.{Place}
use Rattle.memory.specs.declared.Reached.{Reached}
use Rattle.memory.specs.declared.Reached.TheVariants.{End, Opening, Paused}
use Rattle.memory.specs.declared.Stop.{Stop}
use Rattle.std.specs.Prelude.{Result, Ok, Err}
use Rattle.text.specs.Call.{answered as told}
use Rattle.memory.proofs.Shaped.{shaped_plain, shaped_form, shaped_most}
use Rattle.memory.proofs.Fitted.{fitted_start}
use Rattle.flat.specs.Between.{Writes}
use Rattle.memory.proofs.Keeping.{memory_start, memory_none, memory_forgot, memory_trusts}
use Rattle.halts.proofs.Spaces.{spaced_length}
use Rattle.memory.proofs.Stretches.{smooth_part, smooth_run, smooth_whole}
use Rattle.memory.proofs.Readings.{by_utf8}
use Rattle.memory.proofs.Levels.{refuses_some, place_of, walk_left, came_start, came_memory}
use Rattle.memory.proofs.Turns.{turn_end, turn_stopped}
use Rattle.cycle.specs.Cycle.{Walkable}
use Rattle.normalize.specs.declared.Wanted.{Wanted}
use Rattle.normalize.specs.Calls.{reading_for, outcome_for, walk_of, form_of, plainly, written_in, Walks, WalksOn, Lasts}

-- ---- the walk

module _ (r : Reading) (list pool text : List ℕ) (outer : r.base ≡ 0) where
  abbrev level : Level
  level = level_of r list pool text

  walk_is : walk_of r list pool text ≡ left level 0 0
  walk_is = walk_left level 0

  finished : {whole new kept : List ℕ} {a : Answer} → Finishes level [] whole 0 new kept a → length new ≡ length whole
      → Walks (shaped_in r.form (left level 0 0)) whole new a
  finished {whole} {new} f n =
      record { answers = f.answers; buffer = n; fitted = λ value made q. go (left level 0 0) refl q }
    where
      go : {value : List ℕ} {made : ℕ} (o : Outcome) → left level 0 0 ≡ o → shaped_in r.form o ≡ done value made → Fitted value whole new
      go {value} {made} (done x m) e q =
          let w = f.made x m e in
          let z : done w.value m ≡ done x m = sym w.outcome ∙ e in
          let k : w.value ≡ x = cc in
          let shown : shaped r.form x ≡ value = cc in
          subst (λ (y : List ℕ). Fitted y whole new) (ap (shaped r.form) k ∙ shown) w.fitted
      go (refused before m number first second) e q =
          let z : ◌≡◌ {A = ℕ} 0 1 = cc in
          absurd (omega (arith, z))

  walks_whole : {out new : List ℕ} {a : Answer} → Walks (shaped_in r.form (left level 0 0)) out new a → Walks (form_of r list pool text) out new a
  walks_whole {out} {new} {a} w = subst (λ (o : Outcome). Walks (shaped_in r.form o) out new a) (sym walk_is) w

  -- ---- from the start, with a memory that another walk may have used

  lent_came : WellFormed text → (out : List ℕ) {words : List ℕ} → Memory (settings_of r list pool) r.form list pool [] words → Came level [] out 0 out words 0 0 0
  lent_came utf8 out m = came_start level [] out 0 utf8 m (omega arith)

  module _ (utf8 : WellFormed text) (out : List ℕ) {old words : List ℕ} (t : Trusts list pool old) (f : Forgot old words) where
    forgot_came : Came level [] out 0 out words 0 0 0
    forgot_came = lent_came utf8 out (memory_forgot (settings_of r list pool) r.form [] t f)

    pub long_lent : length text ≤ 16777216 → Lent level r.base out words (place_of 0 0 0)
    long_lent short =
        record { v = []; whole = out; begun = 0; size = sym outer; came = forgot_came; room = omega (arith, outer, short) }

    module _ {new kept : List ℕ} {a : Answer} (k : StepsKeep level r.base (place_of 0 0 0) out words new kept a) where
      long_ends : Finishes level [] out 0 new kept a
      long_ends = k.finishes [] out 0 (sym outer) forgot_came

      pub long_walks : Walks (form_of r list pool text) out new a
      long_walks = walks_whole (finished long_ends k.buffer)

      pub long_lasts : Lasts list pool old kept a
      long_lasts = record { words = k.words ∙ f.words; trusts = λ len made e. go (left level 0 0) refl (sym e ∙ long_ends.answers) }
        where
          go : {len made : ℕ} (o : Outcome) → left level 0 0 ≡ o → Done len made ≡ answer_of (shaped_in r.form o) → Trusts list pool kept
          go (done value m) e q = memory_trusts (long_ends.made value m e).memory
          go (refused before m number first second) e q =
              let z : ◌≡◌ {A = ℕ} 0 1 = cc in
              absurd (omega (arith, z))

  -- ---- from a place on, with a new memory

  module _ (p : Place) {old : List ℕ} where
    renewed : {v whole : List ℕ} {begun : ℕ} → Came level v whole begun old [] p.at p.len p.openings
        → Came level v whole begun old (replicate 84 0) p.at p.len p.openings
    renewed {v} {whole} {begun} c = came_memory level v whole begun c (memory_start (settings_of r list pool) r.form list pool _)

    pub opened_lent : Lent level 0 old [] p → Lent level r.base old (replicate 84 0) p
    opened_lent n =
        record {
          v = n.v;
          whole = n.whole;
          begun = n.begun;
          size = n.size ∙ sym outer;
          came = renewed n.came;
          room = omega (arith, n.room, outer);
        }

    pub opened_walks : {new kept : List ℕ} {a : Answer} → StepsKeep level r.base p old (replicate 84 0) new kept a → WalksOn level p [] old new a
    opened_walks k = λ whole c. finished (k.finishes [] whole 0 (sym outer) (renewed c)) (k.buffer ∙ c.fitted.size)

  -- ---- the first pass

  start_came : WellFormed text → (out : List ℕ) → Came level [] out 0 out [] 0 0 0
  start_came utf8 out = lent_came utf8 out (memory_none (settings_of r list pool) r.form list pool [] [] refl)

  pub start_lent : WellFormed text → length text ≤ 16777216 → (out : List ℕ) → Lent level r.base out [] (place_of 0 0 0)
  start_lent utf8 short out =
      record { v = []; whole = out; begun = 0; size = sym outer; came = start_came utf8 out; room = omega (arith, outer, short) }

  module _ (utf8 : WellFormed text) {out new kept : List ℕ} {x : Result Reached Stop} (f : FlatKeeps level r.base (place_of 0 0 0) out [] new kept x) where
    reached : {y : Result Reached Stop} → x ≡ y → Reaches level [] out 0 new kept y
    reached is = subst (Reaches level [] out 0 new kept) is (f.reaches r.depth (le_refl _) [] out 0 (sym outer) (start_came utf8 out))

    pub text_end : {len made : ℕ} → x ≡ Ok (End len made) → Walks (form_of r list pool text) out new (Done len made)
    text_end is = walks_whole (finished (turn_end level (reached is)) f.buffer)

    pub text_stopped : {stop : Stop} → x ≡ Err stop → Walks (form_of r list pool text) out new (told (Err stop.refusal))
    text_stopped is = walks_whole (finished (turn_stopped level {out = new} {words = kept} (refuses_some (reached is))) f.buffer)

    bare : {i len made : ℕ} → Came level [] out 0 new kept i len made → Came level [] out 0 new [] i len made
    bare c = came_memory level [] out 0 c (memory_none (settings_of r list pool) r.form list pool _ [] refl)

    -- on from a text to open, or from a pause
    pub text_opens : {i next command slot len made : ℕ} → x ≡ Ok (Opening i next command slot len made) → Came level [] out 0 new [] i len made
    text_opens is = bare (reached is).came

    pub text_pauses : {here : Place} → x ≡ Ok (Paused here) → Came level [] out 0 new [] here.at here.len here.openings
    text_pauses is = bare (reached is)

    module _ {i len made : ℕ} (c : Came level [] out 0 new [] i len made) where
      pub on_lent : length text ≤ 16777216 → Lent level 0 new [] (place_of i len made)
      on_lent short = record { v = []; whole = out; begun = 0; size = refl; came = c; room = omega (arith, short) }

      pub on_walks : {last : List ℕ} {a : Answer} → WalksOn level (place_of i len made) [] new last a → Walks (form_of r list pool text) out last a
      on_walks w = walks_whole (w out c)

-- ---- a call that walks twice, the count first

walks_bare : {o : Outcome} {old new : List ℕ} {a : Answer} → Walks o old new a → Walked o [] (over (produced o) []) a
walks_bare w = record { answers = w.answers; writes = refl }

-- a value that fits was written
walks_fits : (o : Outcome) {old new : List ℕ} {a : Answer} {len made : ℕ} → Walks o old new a → a ≡ Done len made → len ≤ length old → Walked o old new a
walks_fits (done value m) {old} {new} {a} {len} {made} w e h =
    let z : Done len made ≡ Done (length value) m = sym e ∙ w.answers in
    let n : len ≡ length value = cc in
    let fits : length value ≤ length old = omega (arith, n, h) in
    record { answers = w.answers; writes = (w.fitted value m refl).holds fits ∙ sym (over_fits value old fits) }
walks_fits (refused before m number first second) {old} {new} {a} {len} {made} w e h =
    let z : Done len made ≡ Refused number first second = sym e ∙ w.answers in
    let k : ◌≡◌ {A = ℕ} 0 1 = cc in
    absurd (omega (arith, k))

module _ (short : ℕ) (o : Outcome) (out : List ℕ) {old new : List ℕ} {a : Answer} (w : Walks o old new a) where
  pub walks_refused : {number first second : ℕ} → a ≡ Refused number first second → Ended short o out out a
  walks_refused e = ended_refused short o out e (walks_bare w)

  module _ {len made : ℕ} (e : a ≡ Done len made) where
    pub walks_short : length out < len → Ended short o out out (Refused short len 0)
    walks_short h = ended_short short o out e (walks_bare w) h

    pub walks_held : {last : List ℕ} → len ≤ length old → len ≤ length out → last ≡ laid (take len new) out → Ended short o out last (Done len made)
    walks_held {last} g h q = subst (λ (b : Answer). Ended short o out last b) e (ended_held short o out e (walks_fits o w e g) g h q)

    pub walks_written : {last : List ℕ} {b : Answer} → len ≤ length out → Walks o out last b → Ended short o out last b
    walks_written h v = ended_written short o out e (walks_bare w) h (walks_fits o v (v.answers ∙ sym w.answers ∙ e) h)

-- ---- what a call answers where its walk has success

pub ended_same : (short : ℕ) (out : List ℕ) {o p : Outcome} {last : List ℕ} {a : Answer} → o ≡ p → Ended short p out last a → Ended short o out last a
ended_same short out {o} {p} {last} {a} e k = subst (λ (x : Outcome). Ended short x out last a) (sym e) k

module _ (short : ℕ) (out : List ℕ) where
  -- a refusal is answered as it is
  pub ended_stopped : {o : Outcome} {before : List ℕ} {n number first second : ℕ} → o ≡ refused before n number first second
      → Ended short o out out (Refused number first second)
  unfolding answer_in left_in
  ended_stopped e = ended_same short out e (refl, refl)

  module _ (form : ℕ) (lacks : Bool) where
    -- 18, for want of a scratch
    pub lacks_done : lacks ≡ true → (value : List ℕ) (made : ℕ) {b : Answer} → b ≡ Refused 18 4 0 → Ended short (written_in form lacks (done value made)) out out b
    unfolding answer_in left_in
    lacks_done e value made q = rw e (q, refl)

    -- else what is written
    pub lacks_none : lacks ≡ false → (o : Outcome) {last : List ℕ} {a : Answer} → Ended short (shaped_in form o) out last a → Ended short (written_in form lacks o) out last a
    lacks_none e (done value made) {last} {a} k =
        subst (λ (t : Bool). Ended short (pick t (refused [] made 18 4 0) (done (shaped form value) made)) out last a) (sym e) k
    lacks_none e (refused before made number first second) k = k

    -- the walk that counted, the value in whatever form
    module _ (counted : ℕ) (o : Outcome) {old new : List ℕ} {a : Answer} (w : Walks (shaped_in counted o) old new a) where
      pub lacks_refused : {number first second : ℕ} → a ≡ Refused number first second → Ended short (written_in form lacks o) out out a
      unfolding answer_in left_in
      lacks_refused {number} {first} {second} e = go o w.answers
        where
          go : (p : Outcome) → a ≡ answer_of (shaped_in counted p) → Ended short (written_in form lacks p) out out a
          go (done value made) q =
              let z : ◌≡◌ {A = ℕ} 0 1 = cc in
              absurd (omega (arith, z))
          go (refused before made n f s) q = (q, refl)

      pub lacks_counted : lacks ≡ true → {len made : ℕ} → a ≡ Done len made → {b : Answer} → b ≡ Refused 18 4 0 → Ended short (written_in form lacks o) out out b
      lacks_counted t {len} {made} e {b} x = go o (sym e ∙ w.answers)
        where
          go : (p : Outcome) → Done len made ≡ answer_of (shaped_in counted p) → Ended short (written_in form lacks p) out out b
          go (done value m) q = lacks_done t value m x
          go (refused before m n f s) q =
              let z : ◌≡◌ {A = ℕ} 0 1 = cc in
              absurd (omega (arith, z))

-- the walk over the value itself, asked and answered
module _ (r : Reading) {p : Reading} (is : p ≡ plainly r) where
  pub plainly_asked : {t : List ℕ} {first : ℕ} → (r.base ≡ 0) × Walkable r t → HaltAt (eqb r.how 1) t 0 first → WellFormed t
      → ((p.base ≡ 0) × Walkable p t) × (HaltAt (eqb p.how 1) t 0 first × WellFormed t)
  plainly_asked {t} {first} w h utf8 =
      let asked = w.1 in
      subst (λ (x : Reading). ((x.base ≡ 0) × Walkable x t) × (HaltAt (eqb x.how 1) t 0 first × WellFormed t)) (sym is)
      ((w.0, record { deep = asked.deep; most = asked.most; short = asked.short }), (h, utf8))

  pub plainly_walked : (list pool t : List ℕ) {old new : List ℕ} {a : Answer} → Walks (form_of p list pool t) old new a → Walks (shaped_in 0 (walk_of r list pool t)) old new a
  plainly_walked list pool t {old} {new} {a} w = subst (λ (x : Reading). Walks (form_of x list pool t) old new a) is w

-- a form has at most six times the bytes of its value, so that there is room for it where there is so much
pub sized_written : (short form : ℕ) (o : Outcome) (out : List ℕ) {old new last : List ℕ} {a b : Answer} {len made : ℕ} → Walks (shaped_in 0 o) old new a → a ≡ Done len made
    → 6 * len ≤ length out → Walks (shaped_in form o) out last b → Ended short (shaped_in form o) out last b
sized_written short form (done value m) out {old} {new} {last} {a} {b} {len} {made} w e h v =
    let z : Done len made ≡ Done (length (shaped 0 value)) m = sym e ∙ w.answers in
    let n : len ≡ length (shaped 0 value) = cc in
    let most = shaped_most form value in
    walks_written short (shaped_in form (done value m)) out v v.answers (omega (arith, n, ap length (shaped_plain refl value), most, h)) v
sized_written short form (refused before m number first second) out {old} {new} {last} {a} {b} {len} {made} w e h v =
    let z : Done len made ≡ Refused number first second = sym e ∙ w.answers in
    let k : ◌≡◌ {A = ℕ} 0 1 = cc in
    absurd (omega (arith, k))

-- ---- a text without halts

module _ (short : ℕ) (t out : List ℕ) where
  pub spaced_short : length out < length t → Ended short (done (blanks_spaced t) 0) out out (Refused short (length t) 0)
  spaced_short h =
      let n = spaced_length t in
      subst (λ (k : ℕ). Ended short (done (blanks_spaced t) 0) out out (Refused short k 0)) n (whole_short short (blanks_spaced t) out (omega (arith, n, h)))

  pub spaced_written : {last : List ℕ} → length t ≤ length out → last ≡ laid (blanks_spaced t) out → Ended short (done (blanks_spaced t) 0) out last (Done (length t) 0)
  spaced_written {last} h e =
      let n = spaced_length t in
      subst (λ (k : ℕ). Ended short (done (blanks_spaced t) 0) out last (Done k 0)) n (whole_written short (blanks_spaced t) out (omega (arith, n, h)) e)

-- it is written as it is, or in its canonical form
module _ (short : ℕ) (out : List ℕ) {form : ℕ} {last : List ℕ} {a : Answer} (x : List ℕ) where
  pub plain_ended : form ≡ 0 → Ended short (done x 0) out last a → Ended short (done (shaped form x) 0) out last a
  plain_ended e k = subst (λ (y : List ℕ). Ended short (done y 0) out last a) (sym (shaped_plain e x)) k

  pub form_ended : form ≢ 0 → Ended short (done (canonical (rule_for (eqb form 2)) x) 0) out last a → Ended short (done (shaped form x) 0) out last a
  form_ended n k = subst (λ (y : List ℕ). Ended short (done y 0) out last a) (sym (shaped_form n x)) k

pub form_short : (short : ℕ) (more out : List ℕ) {n : ℕ} → n ≡ length more → length out < n → Ended short (done more 0) out out (Refused short n 0)
form_short short more out e h =
    subst (λ (k : ℕ). Ended short (done more 0) out out (Refused short k 0)) (sym e) (whole_short short more out (omega (arith, e, h)))

pub form_written : (short : ℕ) (more out : List ℕ) {n : ℕ} {last : List ℕ} → n ≡ length more → length more ≤ length out → last ≡ laid more out
    → Ended short (done more 0) out last (Done n 0)
form_written short more out {n} {last} e h q =
    subst (λ (k : ℕ). Ended short (done more 0) out last (Done k 0)) (sym e) (whole_written short more out h q)

-- by a writer that leaves the buffer where it does not fit
pub form_left_lem : (short : ℕ) (more out : List ℕ) {n : ℕ} {last : List ℕ} → Writes more 0 out last n → (length out < 0 + n → last ≡ out) → length out < n
    → Ended short (done more 0) out last (Refused short n 0)
form_left_lem short more out {n} {last} w k h =
    subst (λ (l : List ℕ). Ended short (done more 0) out l (Refused short n 0)) (sym (k (omega (arith, h)))) (form_short short more out w.0 h)

pub form_laid : (short : ℕ) (more out : List ℕ) {n : ℕ} {last : List ℕ} → Writes more 0 out last n → n ≤ length out → Ended short (done more 0) out last (Done n 0)
form_laid short more out w h =
    let fits : length more ≤ length out = omega (arith, w.0, h) in
    form_written short more out w.0 fits ((w.1.fits [] out refl (fitted_start out)).holds fits)

-- ---- the walk that a call asks for

pub not_true : (x : Bool) → not x ≡ true → x ≡ false
not_true true e = sym e
not_true false e = refl

pub not_false : (x : Bool) → not x ≡ false → x ≡ true
not_false true e = refl
not_false false e = sym e

-- the value itself is written
pub shown_plain : (o : Outcome) → written_in 0 false o ≡ o
shown_plain (done value made) = ap (λ (x : List ℕ). done x made) (shaped_plain refl value)
shown_plain (refused before made number first second) = refl

-- the heads of the value itself, and those of the texts of the table
abbrev outer_heads : Bool → Bool → Heads
outer_heads false newer = attribute_head (rule_for newer)
outer_heads true newer = barring (may_stand in_value (rule_for newer)) (attribute_head (rule_for newer))

outer_is : (strict newer : Bool) → read_by (pick newer 1 0) (pick strict (pick newer 2 1) 0) ≡ outer_heads strict newer
unfolding barring may_by may_stand
outer_is false true = refl
outer_is false false = refl
outer_is true true = refl
outer_is true false = refl

normalize_walk : (strict newer : Bool) (list pool : List ℕ) (limit depth : ℕ) (t : List ℕ)
    → normalize (reading_by strict (rule_for newer) list pool limit) depth t ≡ walk (reading_by strict (rule_for newer) list pool limit) (outer_heads strict newer) depth t 0
unfolding normalize reading_by strictly reading_of reading
normalize_walk false newer list pool limit depth t = refl
normalize_walk true newer list pool limit depth t = refl

-- the settings of the walk are those of the reading, the outer heads aside
settings_for_lem : (strict newer : Bool) (list pool : List ℕ) (limit : ℕ) (past : Bool) → marked list ≡ past
    → settings_by (pick past 2 (pick newer 1 0)) (pick strict (pick newer 3 1) 0) list pool limit
    ≡ with_outer (read_by (pick past 2 (pick newer 1 0)) (pick strict (pick newer 3 1) 0)) (reading_by strict (rule_for newer) list pool limit)
unfolding settings_by reading_by strictly reading_of reading inner_head barring may_by may_stand
settings_for_lem false true list pool limit true e = rw e
settings_for_lem false false list pool limit true e = rw e
settings_for_lem false true list pool limit false e = rw e
settings_for_lem false false list pool limit false e = rw e
settings_for_lem true true list pool limit true e = rw e
settings_for_lem true false list pool limit true e = rw e
settings_for_lem true true list pool limit false e = rw e
settings_for_lem true false list pool limit false e = rw e

simple_faults : (t : List ℕ) → Simple t → (guard k : ℕ) → k < length t → fault_by guard (drop k t) ≡ false
simple_faults t x zero k h = refl
simple_faults t x (suc rule) k h = (simple_clean t x rule).none k (omega arith) h

module _ (w : Wanted) (list pool t : List ℕ) where
  abbrev newer : Bool
  newer = ltb 1 w.version

  abbrev strict : Bool
  strict = w.strict

  abbrev asked : Outcome
  asked = outcome_for w list pool t

  -- how the value itself is read
  abbrev how : ℕ
  how = pick newer 1 0

  abbrev guard : ℕ
  guard = pick w.strict (pick newer 2 1) 0

  abbrev s : Settings
  s = reading_by w.strict (rule_for newer) list pool w.limit

  asked_is : walk s (read_by how guard) w.depth t 0 ≡ asked
  asked_is =
      ap (λ (h : Heads). walk s h w.depth t 0) (outer_is w.strict newer)
      ∙ sym (normalize_walk w.strict newer list pool w.limit w.depth t)
      ∙ ap (λ (rule : Rule). normalize (reading_by w.strict rule list pool w.limit) w.depth t) (version_rule w.version newer refl)

  walk_for : (form : ℕ) → walk_of (reading_for w (marked list) form) list pool t ≡ asked
  walk_for form =
      let inner : ℕ = pick (marked list) 2 (pick newer 1 0) in
      let inguard : ℕ = pick w.strict (pick newer 3 1) 0 in
      ap (λ (x : Settings). walk x (read_by how guard) w.depth t 0) (settings_for_lem w.strict newer list pool w.limit (marked list) refl)
      ∙ walk_outer (read_by inner inguard) s (read_by how guard) w.depth t 0
      ∙ asked_is

  flag : (x : Bool) → eqb (pick x 1 0) 1 ≡ x
  flag true = refl
  flag false = refl

  by_how : {first : ℕ} → HaltAt newer t 0 first → HaltAt (eqb how 1) t 0 first
  by_how {first} h = subst (λ (x : Bool). HaltAt x t 0 first) (sym (flag newer)) h

  module _ (form : ℕ) (lacks : Bool) {r : Reading} (is : r ≡ reading_for w (marked list) form) where
    -- what the walk over the text is asked
    pub read_asked : w.depth ≢ 0 → w.limit ≤ 1000000 → length t ≤ 16777216 → WellFormed t → {first : ℕ} → HaltAt newer t 0 first
        → ((r.base ≡ 0) × Walkable r t) × (HaltAt (eqb r.how 1) t 0 first × WellFormed t)
    read_asked deep most short utf8 {first} h =
        subst (λ (x : Reading). ((x.base ≡ 0) × Walkable x t) × (HaltAt (eqb x.how 1) t 0 first × WellFormed t)) (sym is)
        ((refl, record { deep = deep; most = most; short = short }), (by_how h, utf8))

    module _ (short : ℕ) (out : List ℕ) where
      pub call_bottom : {last : List ℕ} {a : Answer} → w.depth ≡ 0 → ((s : Settings) → Ended short (written_in form lacks (walk s (read_by r.how r.guard) 0 t 0)) out last a)
          → Ended short (written_in form lacks asked) out last a
      call_bottom {last} {a} z e =
          let bottom = subst (λ (x : Reading). (s : Settings) → Ended short (written_in form lacks (walk s (read_by x.how x.guard) 0 t 0)) out last a) is e in
          ended_same short out (ap (written_in form lacks) (sym asked_is ∙ ap (λ (d : ℕ). walk s (read_by how guard) d t 0) z)) (bottom s)

      pub call_read : {last : List ℕ} {a : Answer} → Ended short (written_in r.form lacks (walk_of r list pool t)) out last a → Ended short (written_in form lacks asked) out last a
      call_read e = ended_same short out (sym (ap (λ (x : Reading). written_in x.form lacks (walk_of x list pool t)) is ∙ ap (written_in form lacks) (walk_for form))) e

  -- a text without halts
  module _ (form : ℕ) (lacks : Bool) (deep : w.depth ≢ 0) {first : ℕ} (h : HaltAt newer t 0 first) (z : first ≡ length t) {g : ℕ} (is : g ≡ guard) {fault : ℕ}
      (found : FirstFault (fault_by g) t 0 first fault) (short : ℕ) (out : List ℕ) where
    abbrev halt : HaltAt (eqb how 1) t 0 first
    halt = by_how h

    abbrev f : FirstFault (fault_by guard) t 0 first fault
    f = subst (λ (x : ℕ). FirstFault (fault_by x) t 0 first fault) is found

    -- every character of it may stand
    pub call_spaced : {last : List ℕ} {a : Answer} → fault ≡ first → Ended short (written_in form lacks (done (blanks_spaced t) 0)) out last a → Ended short (written_in form lacks asked) out last a
    call_spaced q e =
        let clean = subst (λ (k : ℕ). Clean (fault_by guard) t 0 k) (q ∙ z) f.clean in
        let smooth = subst (Smooth (eqb how 1) t 0) z halt.smooth in
        ended_same short out (ap (written_in form lacks) (sym asked_is ∙ smooth_whole s how guard w.depth deep t 0 smooth clean)) e

    -- or one may not: refusal 26
    pub call_barred : fault ≢ first → Ended short (written_in form lacks asked) out out (Refused 26 fault 0)
    call_barred q =
        let inside : fault < length t = omega (arith, f.within, q, z) in
        let part = smooth_part halt.smooth f.clean.from f.within in
        let heads = read_by how guard in
        let answers = stop_answer s w.depth in
        let stopped : from_on (read_by how guard) (stop_answer s w.depth) t fault 0 ≡ refused [] 0 26 fault 0 =
        run_at heads answers t fault 0 inside
        ∙ ap (λ (d : Head). followed (outcome_of answers (token_of d) 0) (λ m. from_on heads answers t (fault + 1 + skip_of d) m))
        (read_barred t fault inside guard (heads_by how) (f.found (omega (arith, f.within, q)))) in
        ended_stopped short out
        (ap (written_in form lacks)
        (sym asked_is
        ∙ walk_run s heads w.depth t 0
        ∙ smooth_run s how guard w.depth deep t 0 part f.clean
        ∙ ap (prepend (blanks_spaced (take (fault - 0) t))) stopped))

  -- it is UTF-8
  pub call_utf8 : {value : List ℕ} {made : ℕ} → asked ≡ done value made → ValidTable list pool → WellFormed t → WellFormed value
  call_utf8 {value} {made} e valid utf8 =
      let inner : ℕ = pick (marked list) 2 (pick newer 1 0) in
      let inguard : ℕ = pick w.strict (pick newer 3 1) 0 in
      by_utf8 inner inguard list pool w.limit valid how guard w.depth 0 made t value utf8 (walk_for 0 ∙ e)

  -- a text that stands for itself is its own value
  pub simple_value : Simple t → asked ≡ done t 0
  simple_value x =
      sym asked_is
      ∙ walk_clear s guard (heads_by how) w.depth t 0 (clear_of guard t (simple_faults t x guard))
      ∙ walk_plain s how w.depth t 0 (simple_plain (eqb how 1) t x)
