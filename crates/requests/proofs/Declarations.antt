-- K3, of the calls: what is accepted is a list of declarations (`k3_accepted`), and each list of well-formed declarations within the limits is accepted
-- (`k3_accepts`), just one for a text (`k3_one_list`); what is written passes the check of a table with as many definitions (`k3_valid`), one command
-- for each declaration in order (`k3_in_order`), and every reading with it is the reading through the declarations, the first binding
-- (`k3_read_through`); a refusal is by one of ten numbers (`k3_numbers`) and changes nothing (`k3_refused`), and 23 has both lengths (`k3_room`). K13
-- holds of what two calls wrote (`k3_one_marking`, `k3_unused`). Assumes nothing.
use mathlib.Core.Path.{◌≡◌, refl, sym, ap, ap₂, subst, ◌∙◌}
use mathlib.Core.Logic.{◌≢◌}
use mathlib.Core.Bool.{Bool, true, false, true≢false, ◌||◌}
use mathlib.Core.List.{List, [], ◌∷◌}
use Prim.Native.Nat.{ℕ, ◌+◌, ◌*◌, ◌-◌, ◌≤◌}
use native.Mathlib.Omega.{arith}
use lib.Dec.{eqb, ltb}
use lib.ListN.{length, take, drop}
use lib.Seq.{take-append_seam}
use borrow.Author.Tests.{eqb-true, ltb-false, le-ltb}
use Rattle.text.specs.Version.{Rule, rule_of, known_version}
use Rattle.text.specs.Utf8.{WellFormed, utf8_end}
use Rattle.text.specs.Call.{Called, called, and_then, passed, guarded, laid, length_check, version_check, utf8_check, text_check, argument_check, longest_text}
use Rattle.text.specs.Answers.{Answer}
use Rattle.text.specs.Answers.{Done, Refused}
use Rattle.text.proofs.Bytes.{or_right}
use Rattle.text.proofs.Longest.{end_whole}
use Rattle.entity.specs.Table.{declarations, marked, table_check, ValidTable}
use Rattle.entity.specs.Binding.{binding}
use Rattle.tokens.specs.Outcome.{Outcome, finished}
use Rattle.tokens.specs.Lookups.{Each}
use Rattle.unescape.specs.LookedUpInText.{looked_up_in_text}
use Rattle.unescape.proofs.LookedUpInText.{unescape_agrees}
use Rattle.attribute.specs.Checks.{settings_check}
use Rattle.attribute.specs.Walk.{Settings, normalize, reading, reading_of}
use Rattle.attribute.specs.Strict.{strictly, reading_by}
use Rattle.attribute.specs.Form.{formed}
use Rattle.attribute.specs.LookedUp.{looked_up}
use Rattle.attribute.proofs.LookedUp.{rebound, value_agrees}
use Rattle.nmtokens.specs.Nmtokens.{collapsed}
use Rattle.table_grammar.specs.EntityValue.{Read, read, departs, exceeds, refused}
use Rattle.table_grammar.specs.EntityDecl.{Entity, entities}
use Rattle.table_grammar.specs.TableWritten.{list_of, pool_of, declared, no_room, most, tabled, read_up_to, read_declarations}
use Rattle.table_grammar.specs.Productions.{Declarations}
use Rattle.table_grammar.proofs.FirstBinds.{written_marked}
use Rattle.table_grammar.proofs.ValidTables.{list_length_lem}
use Rattle.table_grammar.proofs.SmallEntities.{Small, small_read, small_fits, read_look_up}
use Rattle.table_grammar.proofs.GoodEntities.{read_valid}
use Rattle.table_grammar.proofs.GrammarRead.{entities_written}
use Rattle.table_grammar.proofs.GrammarTaken.{entities_taken}
use Rattle.govlezna.specs.Calls.{check_utf8_call, check_table_call, unescape_call, normalize_attribute_value_call, canonical_form_call, normalize_attribute_value_strict_call, canonical_form_strict_call, normalize_nmtokens_call, read_declarations_call}
use Rattle.demands.specs.CallDemands.{listed, Refuses, success, refusal}
use Rattle.requests.specs.Unused.{Reader, normalizing, forming, listing, unescaping, call_with, names_with, reads as reads-by, BindAlike, OneMarking, definitions}
use Rattle.requests.specs.Declarations.{Lent, call_for, settled, Success, list_from, pool_from, Sizes, Room, Taken, declaration_numbers, reading_with, read_through, in_order, Declares, Leaves}
use Rattle.requests.proofs.Standard.{listed_one}
use Rattle.requests.proofs.Unused.{k13_unused}
use Rattle.requests.proofs.DeclarationsRead.{written_in_order, counted_in, counted_out, char_ref_numbers, refused_by}

-- ---- what a call leaves, by its parts

abbrev number_of : Called → ℕ
number_of (called number words buffers) = number

-- calls that leave the same answer the same number
other_number : {X : Type 0} {m n : ℕ} {v w : List ℕ} {a b : List (List ℕ)} → called m v a ≡ called n w b → (m ≡ n → ⊥) → X
other_number e h = absurd (h (ap number_of e))

abbrev words_of : Called → List ℕ
words_of (called number words buffers) = words

abbrev buffers_of : Called → List (List ℕ)
buffers_of (called number words buffers) = buffers

abbrev first_of : List ℕ → ℕ
first_of [] = 0
first_of (n ∷ ns) = n

abbrev second_of : List ℕ → ℕ
second_of [] = 0
second_of (n ∷ ns) = first_of ns

abbrev one_of : List (List ℕ) → List ℕ
one_of [] = []
one_of (b ∷ bs) = b

abbrev other_of : List (List ℕ) → List ℕ
other_of [] = []
other_of (b ∷ bs) = one_of bs

abbrev entities_of : Read (List Entity) → List Entity
entities_of (read es rest) = es
entities_of (departs rest) = []
entities_of (exceeds rest) = []
entities_of (refused number first) = []

-- a number that is listed is not one that is not
not_listed : (ns : List ℕ) (number other : ℕ) → listed number ns ≡ true → listed other ns ≡ false → number ≢ other
not_listed ns number other h k e = true≢false (sym h ∙ ap (λ (n : ℕ). listed n ns) e ∙ k)

abbrev check_numbers : List ℕ
check_numbers = 1 ∷ 4 ∷ 5 ∷ []

-- the checks of the arguments pass UTF-8, or refuse by 1, 4 or 5
arguments : (t : List ℕ) (v : ℕ) (P : Answer → Type 0) → (WellFormed t → P passed) → ((number first : ℕ) → listed number check_numbers ≡ true → P (Refused number first 0))
    → P (argument_check t (version_check v))
unfolding length_check version_check utf8_check
arguments t v P p q = go (ltb longest_text (length t)) refl (known_version v) refl (eqb (utf8_end t) (length t)) refl
  where
    go : (x : Bool) → ltb longest_text (length t) ≡ x → (y : Bool) → known_version v ≡ y → (z : Bool) → eqb (utf8_end t) (length t) ≡ z → P (argument_check t (version_check v))
    go true e y f z g = rw e (q 1 (length t) refl)
    go false e false f z g = rw (e, f) (q 4 0 refl)
    go false e true f false g = rw (e, f, g) (q 5 (utf8_end t) refl)
    go false e true f true g = rw (e, f, g) (p (end_whole t (eqb-true (utf8_end t) (length t) g)))

-- they pass a text that the check of UTF-8 accepts, with a version byte that is known
arguments_pass : (a : Lent) → Taken a → argument_check a.text (version_check a.version) ≡ passed
unfolding check_utf8_call length_check version_check utf8_check
arguments_pass a k = go (ltb longest_text (length a.text)) refl (eqb (utf8_end a.text) (length a.text)) refl k.utf8
  where
    go : (x : Bool) → ltb longest_text (length a.text) ≡ x → (z : Bool) → eqb (utf8_end a.text) (length a.text) ≡ z
        → check_utf8_call a.text ≡ called 0 (length a.text ∷ 0 ∷ []) [] → argument_check a.text (version_check a.version) ≡ passed
    go true e z g q = other_number (rw e at q) (λ h. absurd (omega arith))
    go false e false g q = other_number (rw (e, g) at q) (λ h. absurd (omega arith))
    go false e true g q = rw (e, g, k.version)

-- ---- a call by what its text is

-- what a call that succeeds has read
record Reads (a : Lent) (x : Success a) : Type 0 where
  es : List Entity
  end : List ℕ
  utf8 : WellFormed a.text
  is : entities most (settled a) ≡ read es end
  fits : no_room es a.list a.pool ≡ false
  left : called 0 (length (list_of es) ∷ length (pool_of es) ∷ []) (laid (list_of es) a.list ∷ laid (pool_of es) a.pool ∷ [])
      ≡ called 0 (x.list_length ∷ x.pool_length ∷ []) (x.list ∷ x.pool ∷ [])

module _ (a : Lent) where
  abbrev after : Read (List Entity) → Called
  after r = tabled (settled a) r a.list a.pool

  abbrev whole : Called
  whole = after (entities most (settled a))

  reads_as : read_declarations (rule_of a.version) a.text a.list a.pool ≡ whole
  unfolding read_declarations read_up_to
  reads_as = refl

  reads : (x : Success a) → Reads a x
  unfolding read_declarations_call tabled
  reads x =
      arguments a.text a.version
      (λ (c : Answer). guarded c (a.list ∷ a.pool ∷ []) (read_declarations (rule_of a.version) a.text a.list a.pool) ≡ called 0
      (x.list_length ∷ x.pool_length ∷ []) (x.list ∷ x.pool ∷ []) → Reads a x)
      (λ w q. go w (entities most (settled a)) refl (sym reads_as ∙ q)) (λ n f h q. absurd (not_listed check_numbers n 0 h refl (ap number_of q))) x.is
    where
      go : WellFormed a.text → (r : Read (List Entity)) → entities most (settled a) ≡ r → after r ≡ called 0 (x.list_length ∷ x.pool_length ∷ []) (x.list ∷ x.pool ∷ []) → Reads a x
      go w (read es end) e q = room (no_room es a.list a.pool) refl q
        where
          room : (b : Bool) → no_room es a.list a.pool ≡ b → after (read es end) ≡ called 0 (x.list_length ∷ x.pool_length ∷ []) (x.list ∷ x.pool ∷ []) → Reads a x
          room true f q = other_number (rw f at q) (λ h. absurd (omega arith))
          room false f q = record { es = es; end = end; utf8 = w; is = e; fits = f; left = rw f at q }
      go w (departs rest) e q = other_number q (λ h. absurd (omega arith))
      go w (exceeds rest) e q = other_number q (λ h. absurd (omega arith))
      go w (refused number first) e q = absurd (not_listed char_ref_numbers number 0 (refused_by most (settled a) e) refl (ap number_of q))

-- ---- limits

sizes_small : (es : List Entity) → Sizes es → Small es
sizes_small [] h = tt
sizes_small (e ∷ es) h = ((h.0, omega (arith, h.1), omega (arith, h.2)), sizes_small es h.3)

small_sizes : (es : List Entity) → Small es → Sizes es
small_sizes [] h = tt
small_sizes (e ∷ es) h = (h.0.0, omega (arith, h.0.1), omega (arith, h.0.2), small_sizes es h.1)

-- a text of declarations within the limits is read whole
taken_whole : (a : Lent) (es : List Entity) → Declares a es → entities most (settled a) ≡ read es []
taken_whole a es d = entities_taken most d.text (sizes_small es d.within.sizes) d.within.few

short_of : (es : List Entity) (list pool : List ℕ) → no_room es list pool ≡ false → length (pool_of es) ≤ 1048576
unfolding no_room
short_of es list pool e =
    ltb-false 1048576 (length (pool_of es))
    (or_right (ltb (length list) (length (list_of es)) || ltb (length pool) (length (pool_of es))) (ltb 1048576 (length (pool_of es))) e)

-- ---- both directions

-- what a call that succeeds has read, and what it leaves for it
pub record Accepted (a : Lent) (x : Success a) : Type 0 where
  pub entities : List Entity
  pub declares : Declares a entities
  pub leaves : Leaves a x entities

-- K3: "Take a text of such declarations and XML white space ..": what is accepted is a list of declarations within the limits; the list has 12 bytes for
-- each, mark and end, and both are laid over the lent ones, whose rest keeps its bytes
pub k3_accepted : (a : Lent) (x : Success a) → Accepted a x
k3_accepted a x =
    let r = reads a x in
    let s = small_read (settled a) r.end r.es r.is in
    record {
      entities = r.es;
      declares =
          record {
            text = entities_written most (settled a) r.end r.es r.is;
            within = record { sizes = small_sizes r.es s.1; few = s.0; short = short_of r.es a.list a.pool r.fits };
          };
      leaves =
          record {
            list_length = sym (ap first_of (ap words_of r.left)) ∙ list_length_lem r.es;
            pool_length = sym (ap second_of (ap words_of r.left));
            list = sym (ap one_of (ap buffers_of r.left));
            pool = sym (ap other_of (ap buffers_of r.left));
          };
    }

-- K3: each list of well-formed declarations within the limits is accepted, with room, and leaves just its table
pub k3_accepts : (a : Lent) (es : List Entity) → Taken a → Declares a es → Room es a
    → call_for a ≡ called 0 ((12 * length es + 2) ∷ length (pool_of es) ∷ []) (laid (list_of es) a.list ∷ laid (pool_of es) a.pool ∷ [])
unfolding read_declarations_call tabled
k3_accepts a es k d r =
    ap (λ (c : Answer). guarded c (a.list ∷ a.pool ∷ []) (read_declarations (rule_of a.version) a.text a.list a.pool)) (arguments_pass a k)
    ∙ reads_as a ∙ ap (after a) (taken_whole a es d) ∙ laid_out
  where
    fits : no_room es a.list a.pool ≡ false
    fits =
        unfold no_room in
        rw (
          le-ltb (length a.list) (length (list_of es)) (omega (arith, list_length_lem es, r.list)),
          le-ltb (length a.pool) (length (pool_of es))
              r.pool,
          le-ltb 1048576 (length (pool_of es)) d.within.short,
        )

    laid_first : after a (read es []) ≡ called 0 (length (list_of es) ∷ length (pool_of es) ∷ []) (laid (list_of es) a.list ∷ laid (pool_of es) a.pool ∷ [])
    laid_first = rw fits

    laid_out : after a (read es []) ≡ called 0 ((12 * length es + 2) ∷ length (pool_of es) ∷ []) (laid (list_of es) a.list ∷ laid (pool_of es) a.pool ∷ [])
    laid_out =
        laid_first ∙ ap (λ (n : ℕ). called 0 (n ∷ length (pool_of es) ∷ []) (laid (list_of es) a.list ∷ laid (pool_of es) a.pool ∷ [])) (list_length_lem es)

-- a text is one list of declarations within the limits, not two
pub k3_one_list : (a : Lent) (es fs : List Entity) → Declares a es → Declares a fs → es ≡ fs
k3_one_list a es fs d g = ap entities_of (sym (taken_whole a es d) ∙ taken_whole a fs g)

-- ---- refusals

abbrev lent_by : Lent → List (List ℕ)
lent_by a = a.list ∷ a.pool ∷ []

abbrev In : ℕ → Type 0
In n = listed n declaration_numbers ≡ true

-- Demand 1 of this call: success, or one of K3's numbers, and then list and pool are as they were.
pub k3_numbers : (a : Lent) → Refuses declaration_numbers (a.list ∷ a.pool ∷ []) (call_for a)
unfolding read_declarations_call tabled
k3_numbers a =
    arguments a.text a.version
    (λ (c : Answer). Refuses declaration_numbers (lent_by a) (guarded c (lent_by a) (read_declarations (rule_of a.version) a.text a.list a.pool)))
    (λ w. subst (Refuses declaration_numbers (lent_by a)) (sym (reads_as a)) (go (entities most (settled a)) refl))
    (λ n first h. refusal n (first ∷ 0 ∷ []) (listed_one In n check_numbers (refl, (refl, (refl, tt))) h))
  where
    go : (r : Read (List Entity)) → entities most (settled a) ≡ r → Refuses declaration_numbers (lent_by a) (after a r)
    go (read es end) e = room (no_room es a.list a.pool) refl
      where
        room : (b : Bool) → no_room es a.list a.pool ≡ b → Refuses declaration_numbers (lent_by a) (after a (read es end))
        room true f = rw f (refusal 23 (length (list_of es) ∷ length (pool_of es) ∷ []) refl)
        room false f = rw f (success (length (list_of es) ∷ length (pool_of es) ∷ []) (laid (list_of es) a.list ∷ laid (pool_of es) a.pool ∷ []))
    go (departs rest) e = refusal 21 ((length (settled a) - length rest) ∷ 0 ∷ []) refl
    go (exceeds rest) e = refusal 22 ((length (settled a) - length rest) ∷ 0 ∷ []) refl
    go (refused n first) e = refusal n (first ∷ 0 ∷ []) (listed_one In n char_ref_numbers (refl, (refl, (refl, (refl, tt)))) (refused_by most (settled a) e))

-- K3: a refusal leaves list and pool
pub k3_refused : (a : Lent) {number : ℕ} {words : List ℕ} {buffers : List (List ℕ)} → call_for a ≡ called number words buffers → number ≢ 0 → buffers ≡ a.list ∷ a.pool ∷ []
unfolding read_declarations_call tabled
k3_refused a {number} {words} {buffers} e n =
    arguments a.text a.version
    (λ (c : Answer). guarded c (a.list ∷ a.pool ∷ []) (read_declarations (rule_of a.version) a.text a.list a.pool) ≡ called number words buffers → buffers ≡ a.list ∷ a.pool ∷ [])
    (λ w q. go (entities most (settled a)) (sym (reads_as a) ∙ q)) (λ k f h q. sym (ap buffers_of q)) e
  where
    go : (r : Read (List Entity)) → after a r ≡ called number words buffers → buffers ≡ a.list ∷ a.pool ∷ []
    go (read es end) q = room (no_room es a.list a.pool) refl q
      where
        room : (b : Bool) → no_room es a.list a.pool ≡ b → after a (read es end) ≡ called number words buffers → buffers ≡ a.list ∷ a.pool ∷ []
        room true f q = sym (ap buffers_of (rw f at q))
        room false f q = absurd (n (sym (ap number_of (rw f at q))))
    go (departs rest) q = sym (ap buffers_of q)
    go (exceeds rest) q = sym (ap buffers_of q)
    go (refused k first) q = sym (ap buffers_of q)

-- a text that is read whole, for which there is no room
pub record NoRoom (a : Lent) (first second : ℕ) : Type 0 where
  pub entities : List Entity
  pub text : Declarations (settled a) entities
  pub sizes : Sizes entities
  pub few : length entities ≤ 4096
  pub list_needed : first ≡ 12 * length entities + 2
  pub pool_needed : second ≡ length (pool_of entities)
  pub lacks : no_room entities a.list a.pool ≡ true

-- K3: "23 when the list is too small, or the pool is or would pass 1,048,576 bytes, after the whole text is read, with the two lengths needed"
pub k3_room : (a : Lent) {first second : ℕ} {buffers : List (List ℕ)} → call_for a ≡ called 23 (first ∷ second ∷ []) buffers → NoRoom a first second
unfolding read_declarations_call tabled
k3_room a {first} {second} {buffers} e =
    arguments a.text a.version
    (λ (c : Answer). guarded c (a.list ∷ a.pool ∷ []) (read_declarations (rule_of a.version) a.text a.list a.pool) ≡ called 23 (first ∷ second ∷ []) buffers → NoRoom a first second)
    (λ w q. go (entities most (settled a)) refl (sym (reads_as a) ∙ q)) (λ k f h q. absurd (not_listed check_numbers k 23 h refl (ap number_of q))) e
  where
    go : (r : Read (List Entity)) → entities most (settled a) ≡ r → after a r ≡ called 23 (first ∷ second ∷ []) buffers → NoRoom a first second
    go (read es end) f q = room (no_room es a.list a.pool) refl q
      where
        room : (b : Bool) → no_room es a.list a.pool ≡ b → after a (read es end) ≡ called 23 (first ∷ second ∷ []) buffers → NoRoom a first second
        room true g q =
            let s = small_read (settled a) end es f in
            let words = ap words_of (rw g at q) in
            record {
              entities = es;
              text = entities_written most (settled a) end es f;
              sizes = small_sizes es s.1;
              few = s.0;
              list_needed = sym (ap first_of words) ∙ list_length_lem es;
              pool_needed = sym (ap second_of words);
              lacks = g;
            }
        room false g q = other_number (rw g at q) (λ h. absurd (omega arith))
    go (departs rest) f q = other_number q (λ h. absurd (omega arith))
    go (exceeds rest) f q = other_number q (λ h. absurd (omega arith))
    go (refused k n) f q = absurd (not_listed char_ref_numbers k 23 (refused_by most (settled a) f) refl (ap number_of q))

-- ---- the table

module _ (a : Lent) (x : Success a) (es : List Entity) (d : Declares a es) where
  -- what was read are these
  same : (reads a x).es ≡ es
  same = ap entities_of (sym (reads a x).is ∙ taken_whole a es d)

  leaves : Leaves a x es
  leaves = subst (Leaves a x) (k3_one_list a (k3_accepted a x).entities es (k3_accepted a x).declares d) (k3_accepted a x).leaves

  pub k3_list_is : list_from x ≡ list_of es
  k3_list_is = ap₂ take (leaves.list_length ∙ sym (list_length_lem es)) leaves.list ∙ take-append_seam (list_of es) (drop (length (list_of es)) a.list)

  pub k3_pool_is : pool_from x ≡ pool_of es
  k3_pool_is = ap₂ take leaves.pool_length leaves.pool ∙ take-append_seam (pool_of es) (drop (length (pool_of es)) a.pool)

  -- K3: "Each declaration gives one command, in order": the definitions of the table are the declarations
  pub k3_in_order : definitions (list_from x) (pool_from x) ≡ in_order es
  k3_in_order = ap₂ definitions k3_list_is k3_pool_is ∙ written_in_order es (small_fits es (sizes_small es d.within.sizes) 0 (omega (arith, d.within.short)))

  valid : ValidTable (list_of es) (pool_of es)
  valid = read_valid (rule_of a.version) a.text [] es (reads a x).utf8 (taken_whole a es d) d.within.short

  as_many : length (declarations (list_of es)) ≡ length es
  as_many =
      sym (counted_in (pool_of es) (declarations (list_of es)))
      ∙ ap length (written_in_order es (small_fits es (sizes_small es d.within.sizes) 0 (omega (arith, d.within.short)))) ∙ counted_out es

  -- K3: what is written passes the check of a table, with as many definitions as there are declarations
  pub k3_valid : check_table_call (list_from x) (pool_from x) ≡ called 0 (length es ∷ 0 ∷ []) []
  unfolding check_table_call
  k3_valid = ap₂ check_table_call k3_list_is k3_pool_is ∙ (rw valid (ap (λ (n : ℕ). called 0 (n ∷ 0 ∷ []) []) as_many))

  -- K3: "Looking up in the result equals looking up in the declarations, the first binding"
  pub k3_look_up : (name : List ℕ) → binding (list_from x) (pool_from x) name ≡ declared es name
  k3_look_up name =
      ap₂ (λ (l p : List ℕ). binding l p name) k3_list_is k3_pool_is
      ∙ read_look_up (rule_of a.version) a.text [] es (taken_whole a es d) d.within.short name

  marks : marked (list_from x) ≡ true
  marks = ap marked k3_list_is ∙ written_marked es

  -- ---- what the reading calls do with it

  each : (names : List (List ℕ)) → Each (λ (name : List ℕ). binding (list_from x) (pool_from x) name ≡ declared es name) names
  each [] = tt
  each (name ∷ names) = (k3_look_up name, each names)

  rebinds : (strict : Bool) (r : Rule) (limit : ℕ) → rebound (reading_by strict r (list_from x) (pool_from x) limit) (declared es) ≡ reading_with strict r es limit
  unfolding reading_by reading_of reading strictly
  rebinds false r limit = ap (λ (past : Bool). reading r past (declared es) limit) marks
  rebinds true r limit = ap (λ (past : Bool). strictly r (reading r past (declared es) limit)) marks

  binds : (strict : Bool) (r : Rule) (limit : ℕ) (name : List ℕ) → (reading_by strict r (list_from x) (pool_from x) limit).bind name ≡ declared es name
  unfolding reading_by reading_of reading strictly
  binds false r limit name = k3_look_up name
  binds true r limit name = k3_look_up name

  each_bound : (strict : Bool) (r : Rule) (limit : ℕ) (names : List (List ℕ))
      → Each (λ (name : List ℕ). (reading_by strict r (list_from x) (pool_from x) limit).bind name ≡ declared es name) names
  each_bound strict r limit [] = tt
  each_bound strict r limit (name ∷ names) = (binds strict r limit name, each_bound strict r limit names)

  value_same : (strict : Bool) (r : Rule) (limit depth : ℕ) (t : List ℕ)
      → normalize (reading_by strict r (list_from x) (pool_from x) limit) depth t ≡ normalize (reading_with strict r es limit) depth t
  value_same strict r limit depth t =
      let s = reading_by strict r (list_from x) (pool_from x) limit in
      (value_agrees s (declared es) depth t (each_bound strict r limit (looked_up s depth t))).outcome
      ∙ ap (λ (y : Settings). normalize y depth t) (rebinds strict r limit)

  -- the checks pass the table, or refuse the arguments before it
  checks_same : (checked : Answer) (buffers : List (List ℕ)) {c e : Called} → c ≡ e
      → guarded (and_then checked (table_check (list_from x) (pool_from x))) buffers c ≡ guarded checked buffers e
  checks_same (Done first second) buffers q = rw (ap₂ table_check k3_list_is k3_pool_is ∙ valid) q
  checks_same (Refused number first second) buffers q = refl

  -- K3, told by what the calls do: every reading with the written table leaves, in number, words and every buffer, what the reading leaves that
  -- looks its names up in the declarations
  pub k3_read_through : (reader : Reader) → call_with reader (list_from x) (pool_from x) ≡ read_through reader es
  unfolding normalize_attribute_value_call canonical_form_call normalize_attribute_value_strict_call canonical_form_strict_call normalize_nmtokens_call unescape_call reading_by
  k3_read_through (normalizing false t version depth limit out) =
      checks_same (argument_check t (settings_check version depth limit)) (out ∷ []) (ap (λ (o : Outcome). finished o out) (value_same false (rule_of version) limit depth t))
  k3_read_through (normalizing true t version depth limit out) =
      checks_same (argument_check t (settings_check version depth limit)) (out ∷ []) (ap (λ (o : Outcome). finished o out) (value_same true (rule_of version) limit depth t))
  k3_read_through (forming false t version depth limit scratch out) =
      checks_same (argument_check t (settings_check version depth limit)) (scratch ∷ out ∷ [])
      (ap (λ (o : Outcome). formed (rule_of version) o scratch out) (value_same false (rule_of version) limit depth t))
  k3_read_through (forming true t version depth limit scratch out) =
      checks_same (argument_check t (settings_check version depth limit)) (scratch ∷ out ∷ [])
      (ap (λ (o : Outcome). formed (rule_of version) o scratch out) (value_same true (rule_of version) limit depth t))
  k3_read_through (listing t version depth limit scratch out) =
      checks_same (argument_check t (settings_check version depth limit)) (scratch ∷ out ∷ [])
      (ap (λ (o : Outcome). collapsed o scratch out) (value_same false (rule_of version) limit depth t))
  k3_read_through (unescaping t out) =
      checks_same (text_check t) (out ∷ [])
      (ap (λ (o : Outcome). finished o out)
      (unescape_agrees (binding (list_from x) (pool_from x)) (declared es) t (each (looked_up_in_text (binding (list_from x) (pool_from x)) t))).outcome)

-- ---- K13, of what two calls wrote

-- what two calls wrote are two accepted tables of one marking, as K13 asks
pub k3_one_marking : (a b : Lent) (x : Success a) (y : Success b) → OneMarking (list_from x) (pool_from x) (list_from y) (pool_from y)
k3_one_marking a b x y =
    let p = k3_accepted a x in
    let q = k3_accepted b y in
    record {
      count = length p.entities;
      accepted = k3_valid a x p.entities p.declares;
      count' = length q.entities;
      accepted' = k3_valid b y q.entities q.declares;
      marking = marks a x p.entities p.declares ∙ sym (marks b y q.entities q.declares);
    }

-- K13 of an office's own declarations: two texts that bind alike each name that a reading looks up leave the same
pub k3_unused : (a b : Lent) (x : Success a) (y : Success b) (reader : Reader) → BindAlike (list_from x) (pool_from x) (list_from y) (pool_from y) (names_with reader (list_from x) (pool_from x))
    → call_with reader (list_from x) (pool_from x) ≡ call_with reader (list_from y) (pool_from y)
k3_unused a b x y reader e = k13_unused (list_from x) (pool_from x) (list_from y) (pool_from y) (k3_one_marking a b x y) (reads-by reader) e
