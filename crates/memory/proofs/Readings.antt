-- The settings of a walk (`by_brief`, `by_limit`), what its levels ask of calls (`lent_bounds`, `lent_trusts`), and how they go on between two
-- openings: runs and line ends (`came_run`, `came_blank`), references to a name (`token_named`, `next_named`), and to the text of a command
-- (`read_opens`, `read_taken`, `came_leaf`). Assumes nothing.
use mathlib.Core.Path.{◌≡◌, refl, sym, ap, subst, ◌∙◌}
use mathlib.Core.Logic.{◌≢◌}
use mathlib.Core.Bool.{Bool, true, false}
use mathlib.Core.List.{List, [], ◌∷◌, ◌++◌}
use Prim.Native.Nat.{ℕ, zero, suc, ◌+◌, ◌-◌, ◌*◌, ◌≤◌, ◌<◌}
use native.Mathlib.Omega.{arith}
use native.Mathlib.Nat.{le_refl}
use lib.Dec.{eqb}
use lib.ListN.{length, get_or, take, drop, length-drop, length-append}
use lib.Seq.{length-take-le}
use Rattle.text.specs.Bytes.{pick, same_bytes}
use Rattle.text.specs.Version.{Rule, xml10, xml11}
use Rattle.text.specs.Utf8.{WellFormed}
use Rattle.text.proofs.Utf8.{ascii_well_formed}
use Rattle.charref.specs.CharNumbers.{CharNumber}
use Rattle.charref.specs.CharNumbers.{Char, Forbidden}
use Rattle.legal.specs.Legal.{is_char}
use Rattle.legal.specs.FirstFault.{Clean}
use Rattle.eols.specs.Stops.{rule_for}
use Rattle.halts.proofs.Spaces.{spaced_length}
use Rattle.halts.specs.Halts.{Smooth, HaltAt, blanks_spaced}
use Rattle.entity.specs.Table.{ValidTable}
use Rattle.entity.specs.Binding.{binding, GoodBound}
use Rattle.entity.specs.Commands.{command_name, command_text, Defines}
use Rattle.entity.proofs.Tables.{binding_short, binding_good}
use Rattle.tokens.specs.Tokens.{named, stop, Head, Heads, head, token_of, skip_of}
use Rattle.tokens.specs.Outcome.{done, refused, prepend, produced}
use Rattle.tokens.proofs.Openings.{openings_of}
use Rattle.tokens.specs.Walking.{NameEnd, head_at, next_at, outcome_of}
use Rattle.tokens.proofs.Carried.{Moving}
use Rattle.tokens.proofs.Lengths.{lengths}
use Rattle.tokens.proofs.WellFormedness.{any_own}
use Rattle.tokens.proofs.References.{reference_named}
use Rattle.attribute.specs.Walk.{Settings, walk}
use Rattle.attribute.specs.Strict.{only_char}
use Rattle.attribute.specs.Steps.{heads_by, fault_by, read_by, legal_by, stop_answer, Blank}
use Rattle.attribute.proofs.Heads.{attribute_lengths, past_lengths}
use Rattle.attribute.proofs.Stops.{by_how}
use Rattle.attribute.proofs.Single.{stop_deeper}
use Rattle.attribute.proofs.Guards.{read_refers, read_barred, guard_lengths}
use Rattle.attribute.proofs.Values.{walk_most, walk_within, walk_well_formed}
use Rattle.memory.specs.Slots.{shaped, slot_of, Stands, Trusts, Kept, Indexed}
use Rattle.memory.specs.Levels.{settings_by, settings_of, Level, level_of, inner_level, left, Adds, Came, RefusesAt, Opens, Lent, Taken, Bounds}
use Rattle.memory.specs.declared.Reading.{Reading}
use Rattle.memory.specs.declared.Place.{Place}
use Rattle.memory.proofs.Shaped.{shaped_space}
use Rattle.memory.proofs.Characters.{read_utf8, token_rest, named_rest, halt_rest, spaced_utf8}
use Rattle.memory.proofs.Keeping.{memory_more, memory_kept, memory_trusts}
use Rattle.memory.proofs.Stretches.{run_blank, smooth_run, leaf_opening, leaf_stands}
use Rattle.memory.proofs.Levels.{Brief, Sound, left_refused, came_past, came_opens, came_taken, came_kept, came_indexed, came_room}
use Rattle.memory.proofs.Hits.{memory_bounds}

-- ---- the settings of a walk

-- the same reading at another depth
abbrev pub read_at : ℕ → Reading → Reading
read_at depth r =
    record { how = r.how; inner = r.inner; guard = r.guard; inguard = r.inguard; form = r.form; depth = depth; limit = r.limit; base = r.base }

read_lengths : (legal : ℕ → CharNumber) (how guard : ℕ) → Moving (lengths legal) (read_by how guard)
read_lengths legal how guard =
    guard_lengths legal (heads_by how)
    (by_how how (λ newer at. Moving (lengths legal) at) (past_lengths legal) (λ newer. attribute_lengths legal (rule_for newer))) guard

only_own : (r : Rule) (m n : ℕ) → only_char r m ≡ Char n → m ≡ n
unfolding only_char
only_own r m n e = go (is_char r m) e
  where
    go : (t : Bool) → pick t (Char m) Forbidden ≡ Char n → m ≡ n
    go true q = cc
    go false q =
        let z : ◌≡◌ {A = ℕ} 0 1 = cc in
        absurd (omega (arith, z))

-- a rule names no other character than the one that it is asked for
legal_own : (guard m n : ℕ) → legal_by guard m ≡ Char n → m ≡ n
unfolding only_char
legal_own zero m n e = any_own m n e
legal_own (suc zero) m n e = only_own xml10 m n e
legal_own (suc (suc rule)) m n e = only_own xml11 m n e

module _ (inner guard : ℕ) (list pool : List ℕ) (limit : ℕ) where
  -- a text read in any such way
  pub by_most : ((k : ℕ) → get_or list k 0 < 0x100) → (how bar depth n : ℕ) (t : List ℕ)
      → length (produced (walk (settings_by inner guard list pool limit) (read_by how bar) depth t n)) + 65535 * n
      ≤ length t + 65535 * openings_of (walk (settings_by inner guard list pool limit) (read_by how bar) depth t n)
  unfolding settings_by
  by_most bytes how bar depth n t =
      walk_most (settings_by inner guard list pool limit) (binding_short list pool bytes) (read_lengths (legal_by guard) inner guard) (read_by how bar)
      (read_lengths (legal_by guard) how bar) depth t n

  pub by_within : (at : Heads) (depth : ℕ) (t : List ℕ) → openings_of (walk (settings_by inner guard list pool limit) at depth t 0) ≤ limit
  unfolding settings_by
  by_within at depth t = walk_within (settings_by inner guard list pool limit) at depth t 0 (omega arith)

  pub by_brief : ((k : ℕ) → get_or list k 0 < 0x100) → Brief (settings_by inner guard list pool limit)
  unfolding settings_by
  by_brief bytes depth n t = by_most bytes inner guard depth n t

  -- what is made of whole characters is whole characters
  pub by_utf8 : ValidTable list pool → (how bar depth n made : ℕ) (t value : List ℕ) → WellFormed t
      → walk (settings_by inner guard list pool limit) (read_by how bar) depth t n ≡ done value made → WellFormed value
  unfolding settings_by
  by_utf8 valid how bar depth n made t value w e =
      walk_well_formed (settings_by inner guard list pool limit) (legal_own guard) (binding_good list pool valid) (read_utf8 (legal_by guard) (legal_own guard) inner guard)
      (read_by how bar) (read_utf8 (legal_by guard) (legal_own guard) how bar) depth t n value made w e

  -- with a valid table all that a level needs to know
  pub by_sound : ((k : ℕ) → get_or list k 0 < 0x100) → ValidTable list pool → Sound (settings_by inner guard list pool limit) list pool
  unfolding settings_by
  by_sound bytes valid =
      record {
        brief = by_brief bytes;
        texts = λ c d. subst GoodBound d.binds (binding_good list pool valid (command_name list pool c));
        values = λ depth n made t value w e. by_utf8 valid inner guard depth n made t value w e;
      }

  pub by_inner : (settings_by inner guard list pool limit).inner ≡ read_by inner guard
  unfolding settings_by
  by_inner = refl

  pub by_bind : (name : List ℕ) → (settings_by inner guard list pool limit).bind name ≡ binding list pool name
  unfolding settings_by
  by_bind name = refl

  pub by_limit : (settings_by inner guard list pool limit).limit ≡ limit
  unfolding settings_by
  by_limit = refl

  pub by_legal : (settings_by inner guard list pool limit).legal ≡ legal_by guard
  unfolding settings_by
  by_legal = refl

-- ---- the token of a reference to a name

module _ (how guard : ℕ) (t : List ℕ) (at end : ℕ) (amp : get_or t at 0 ≡ 38) (e : NameEnd false t (at + 1) end) (h : end < length t) (b : get_or t (at + 1) 0 ≢ 35) where
  head_named : head_at (read_by how guard) t at ≡ head (stop (named at (take (end - (at + 1)) (drop (at + 1) t)))) (end - at)
  head_named = ap (λ (x : ℕ). read_by how guard at x (drop (at + 1) t)) amp ∙ read_refers how guard at (drop (at + 1) t) ∙ reference_named false t at end e h b

  pub token_named : token_of (head_at (read_by how guard) t at) ≡ stop (named at (take (end - (at + 1)) (drop (at + 1) t)))
  token_named = ap token_of head_named

  pub next_named : next_at (read_by how guard) t at ≡ end + 1
  next_named =
      let m : at + 1 + (end - at) ≡ end + 1 = omega (arith, e.from) in
      ap (λ (x : Head). at + 1 + skip_of x) head_named ∙ m

-- ---- a level of a reading

module _ (r : Reading) (list pool t : List ℕ) where
  abbrev level : Level
  level = level_of r list pool t

  abbrev S : Settings
  S = settings_of r list pool

  limit_is : r.limit ≡ S.limit
  limit_is = sym (by_limit r.inner r.inguard list pool r.limit)

  -- what is asked of a level gives what its calls ask
  module _ {base : ℕ} {out words : List ℕ} {p : Place} (n : Lent level base out words p) where
    pub lent_inside : p.at ≤ length t
    lent_inside = n.came.inside

    pub lent_within : p.openings ≤ r.limit
    lent_within = omega (arith, n.came.within, limit_is)

    pub lent_room : base + p.len ≤ 402653184 + 1572840 * p.openings
    lent_room = came_room level n.v n.whole n.begun base n.room n.came

    pub lent_trusts : Trusts list pool words
    lent_trusts = memory_trusts n.came.memory

    -- it is asked the same after a name was looked up
    pub lent_indexed : {after : List ℕ} → Indexed list pool words after → Lent level base out after p
    lent_indexed x =
        record { v = n.v; whole = n.whole; begun = n.begun; size = n.size; came = came_indexed level n.v n.whole n.begun n.came x; room = n.room }

    pub lent_bounds : (command slot : ℕ) → slot < 16 → Bounds command slot r.limit (base + p.len) words
    lent_bounds command slot h =
        let q : length (n.v ++ shaped r.form n.came.value) ≡ base + p.len = rw (length-append, n.size, n.came.size) in
        subst (λ (k : ℕ). Bounds command slot k (base + p.len) words) (sym limit_is) (memory_bounds S r.form list pool command slot n.came.memory h q)

  module _ (deep : r.depth ≢ 0) (v whole : List ℕ) (begun : ℕ) {out words : List ℕ} {i len made : ℕ} (c : Came level v whole begun out words i len made) where
    -- a run up to a halt, its blanks as spaces
    pub came_run : {e : ℕ} {new : List ℕ} → HaltAt (eqb r.how 1) t i e → Clean (fault_by r.guard) t i e → Adds (shaped r.form (blanks_spaced (take (e - i) (drop i t)))) len out new
        → Came level v whole begun new words e (len + length (shaped r.form (blanks_spaced (take (e - i) (drop i t))))) made
    came_run {e} {new} halt clean f =
        let p = halt.smooth in
        let n : length (blanks_spaced (take (e - i) (drop i t))) ≡ e - i =
        spaced_length (take (e - i) (drop i t)) ∙ length-take-le (e - i) (drop i t) (rw length-drop (omega (arith, p.from, p.to))) in
        let u = halt_rest halt c.rest in
        came_past level v whole begun c (blanks_spaced (take (e - i) (drop i t))) (smooth_run S r.how r.guard r.depth deep t made p clean) refl
        (spaced_utf8 (take (e - i) (drop i t)) u.0) u.1
        (f.fits (shaped r.form c.value) whole c.size c.fitted) p.to (le_refl _) c.within (omega (arith, p.from, n))

    -- a fault in it: refusal 26
    pub run_barred : {e : ℕ} → Smooth (eqb r.how 1) t i e → Clean (fault_by r.guard) t i e → e < length t → fault_by r.guard (drop e t) ≡ true
        → RefusesAt level begun 26 e 0 made
    run_barred {e} p clean h fault =
        let run = blanks_spaced (take (e - i) (drop i t)) in
        let q = read_barred t e h r.guard (heads_by r.how) fault in
        let stopped : left level e made ≡ refused [] made 26 e 0 =
        left_refused level e made made 26 e 0 [] h (ap (λ (d : Head). outcome_of (stop_answer S r.depth) (token_of d) made) q) in
        record {
          before = c.value ++ (run ++ []);
          outcome = c.outcome ∙ ap (prepend c.value) (smooth_run S r.how r.guard r.depth deep t made p clean ∙ ap (prepend run) stopped);
        }

    -- a line end
    pub came_blank : (w : ℕ) {new : List ℕ} → i < length t → Blank (read_by r.how r.guard) t i (record { byte = 32; width = w }) → Adds (32 ∷ []) len out new
        → Came level v whole begun new words (i + w) (len + 1) made
    came_blank w {new} h b f =
        let e = shaped_space r.form in
        let u : WellFormed (32 ∷ []) = ascii_well_formed (32 ∷ []) refl in
        let given = stop_deeper S r.depth deep (token_of (head_at (read_by r.how r.guard) t i)) made ∙ b.stands_for S (λ x m. walk S S.inner (r.depth - 1) x m) made in
        came_past level v whole begun c (32 ∷ []) (run_blank S r.how r.guard r.depth deep t i made (record { byte = 32; width = w }) h b) (ap length e) u
        (token_rest r.how r.guard t i h c.rest S r.depth made (32 ∷ []) given u b.next)
        ((subst (λ (x : List ℕ). Adds x len out new) (sym e) f).fits (shaped r.form c.value) whole c.size c.fitted) b.inside (le_refl _) c.within
        (omega (arith, b.some))

    -- a reference to the text of a command
    module _ (bytes : (k : ℕ) → get_or list k 0 < 0x100) (valid : ValidTable list pool) (at_base : length v ≡ r.base) {command : ℕ} (name : List ℕ) {j : ℕ}
        (inside : i < length t) (on : i < j) (to : j ≤ length t) (next : next_at (read_by r.how r.guard) t i ≡ j)
        (is : token_of (head_at (read_by r.how r.guard) t i) ≡ stop (named i name)) (amp : same_bytes name (97 ∷ 109 ∷ 112 ∷ []) ≡ false)
        (d : Defines list pool command) (same : same_bytes (command_name list pool command) name ≡ true) where
      sound : Sound (settings_of r list pool) list pool
      sound = by_sound r.inner r.inguard list pool r.limit bytes valid

      rest : WellFormed (drop j t)
      rest = named_rest r.how r.guard t i inside c.rest is next

      bind : (settings_of r list pool).bind name ≡ binding list pool name
      bind = by_bind r.inner r.inguard list pool r.limit name

      -- refusal 17 aside it is opened
      pub read_opens : {slot : ℕ} → slot < 16 → made ≢ r.limit → Opens level v whole begun out words i j command slot len made
      read_opens k room =
          came_opens level v whole begun c deep name inside on to next is amp bind d same rest k (λ q. room (omega (arith, q, limit_is)))

      -- what is kept of it is had again, by the contract of `again`
      pub read_taken : {new : List ℕ} {slot count now : ℕ} (p : Place) → slot < 16 → p.len ≡ len → p.openings ≡ made
          → Taken command slot r p words out new count now → Came level v whole begun new words j (len + count) now
      read_taken p k len_is made-is x =
          came_taken level v whole begun c deep name inside on to next is amp bind d same rest sound r p k at_base refl limit_is len_is made-is x

      -- what is written of a text without halts
      abbrev leaf : List ℕ
      leaf = shaped r.form (blanks_spaced (command_text list pool command))

      -- at depth 2 or more it is kept with the depth 2
      pub came_leaf : r.depth ≢ 1 → made < r.limit → Smooth (eqb r.inner 1) (command_text list pool command) 0 (length (command_text list pool command))
          → Clean (fault_by r.inguard) (command_text list pool command) 0 (length (command_text list pool command)) → {new after : List ℕ} {slot : ℕ} → slot < 16
          → Adds leaf len out new → Kept words slot command (slot_of 2 (r.base + len) (length leaf) 1) after
          → Came level v whole begun new after j (len + length leaf) (made + 1)
      came_leaf two room p clean {new} {after} {slot} k f kept =
          let x = command_text list pool command in
          let sofar = v ++ shaped r.form c.value in
          let inner = by_inner r.inner r.inguard list pool r.limit in
          let q : length sofar ≡ r.base + len = rw (length-append, at_base, c.size) in
          let st = subst (λ (k : ℕ). Stands S r.form x (sofar ++ leaf) (slot_of 2 k (length leaf) 1)) q
          (leaf_stands S r.inner r.inguard inner x p clean r.form sofar (omega (arith, room, limit_is))) in
          came_kept level v whole begun c deep name inside on to next is amp bind d same rest sound (blanks_spaced x) (made + 1) (omega (arith, room, limit_is))
          (leaf_opening S r.inner r.inguard inner x p clean r.depth made (omega (arith, deep, two)))
          (f.fits (shaped r.form c.value) whole c.size c.fitted)
          (memory_kept S r.form list pool (memory_more S r.form list pool c.memory leaf) k d st kept)

-- the level of an opened text, as a level of a reading
pub inner_level_lem : (r : Reading) (list pool : List ℕ) (command base : ℕ)
    → inner_level (settings_of r list pool) r.form list pool r.depth command
    ≡ level_of
    (record { how = r.inner; inner = r.inner; guard = r.inguard; inguard = r.inguard; form = r.form; depth = r.depth - 1; limit = r.limit; base = base })
    list pool (command_text list pool command)
inner_level_lem r list pool command base =
    ap (λ (h : Heads). the_level h) (by_inner r.inner r.inguard list pool r.limit)
  where
    the_level : Heads → Level
    the_level h =
        record { settings = settings_of r list pool; form = r.form; at = h; depth = r.depth - 1; text = command_text list pool command; list = list; pool = pool }
