-- K13, of the calls: two accepted tables of one marking that bind alike each name that a reading looks up with the first leave the same
-- (`k13_unused`), whichever table's names are taken (`k13_symmetric`, `k13_names`). What an office may then do to a table, whoever reads:
-- add a definition (`k13_appended`, `k13_shadowed`), replace one (`k13_replaced`) or any number (`k13_edited`), move one (`k13_moved`) or
-- any number (`k13_firsts_stay`). Assumes nothing.
use mathlib.Core.Path.{◌≡◌, refl, sym, ap, subst, ◌∙◌}
use mathlib.Core.Logic.{◌≢◌}
use Prim.Native.Nat.{ℕ}
use mathlib.Core.Bool.{Bool, true, false}
use mathlib.Core.Option.{Option, some, none}
use mathlib.Core.List.{List, [], ◌∷◌, ◌++◌, append-nil}
use lib.ListN.{length, replicate}
use Rattle.text.specs.Bytes.{pick, same_bytes}
use Rattle.text.specs.Utf8.{well_formed}
use Rattle.text.specs.Version.{Rule, rule_of}
use Rattle.text.specs.Call.{Called, called, call_of, guarded, and_then, text_check, argument_check}
use Rattle.text.specs.Answers.{Answer}
use Rattle.text.specs.Answers.{Done, Refused}
use Rattle.text.proofs.Bytes.{same_equal}
use Rattle.entity.specs.Table.{Declaration, name_of, declarations, table_check}
use Rattle.entity.specs.Binding.{Bound, text, predefined, external, unknown, predefined_of, body_bound, binding_in, binding}
use Rattle.tokens.specs.Outcome.{Outcome, finished}
use Rattle.tokens.specs.Lookups.{Each}
use Rattle.tokens.proofs.Lookups.{Agree, each_weaker}
use Rattle.unescape.specs.Unescape.{unescape}
use Rattle.unescape.specs.LookedUpInText.{looked_up_in_text}
use Rattle.unescape.proofs.LookedUpInText.{unescape_agrees}
use Rattle.attribute.specs.Checks.{settings_check}
use Rattle.attribute.specs.Walk.{normalize}
use Rattle.attribute.specs.Strict.{reading_by}
use Rattle.attribute.specs.Form.{formed}
use Rattle.nmtokens.specs.Nmtokens.{collapsed}
use Rattle.attribute.specs.LookedUp.{looked_up}
use Rattle.attribute.proofs.LookedUp.{unused_table}
use Rattle.walk_rehearsal.specs.declared.Span.{Span}
use Rattle.walk_rehearsal.specs.Rehearsal.{Verdict}
use Rattle.walk_rehearsal.specs.Rehearsal.{Fallen}
use Rattle.walk_rehearsal.specs.Rehearsal.{spans_check, bytes_of, verdict, verdict_of, counted, counted_over, report}
use Rattle.walk_depths.specs.LeastDepth.{least_depth}
use Rattle.walk_depths.proofs.NamesByDepth.{names_down, least_same}
use Rattle.govlezna.specs.Calls.{unescape_call, normalize_attribute_value_call, canonical_form_call, normalize_attribute_value_strict_call, canonical_form_strict_call, normalize_nmtokens_call, least_depth_call, rehearse_call}
use Rattle.demands.proofs.CallDemands.{table_valid}
use Rattle.requests.specs.Unused.{Reader, normalizing, forming, listing, unescaping, call_with, names_with, Caller, reads, deepens, rehearses, names_over, call_by, names_by, BoundAlike, command1, command2, predefined_in_both, unknown_in_both, BindAlike, OneMarking, Definition, definitions_in, definitions, first_of, Unused, Others}

-- ---- bound alike is bound to the same

pub alike_equal : {b c : Bound} → BoundAlike b c → b ≡ c
alike_equal (command1 t) = refl
alike_equal command2 = refl
alike_equal (predefined_in_both t) = refl
alike_equal unknown_in_both = refl

alike_itself : (b : Bound) → BoundAlike b b
alike_itself (text t) = command1 t
alike_itself (predefined t) = predefined_in_both t
alike_itself external = command2
alike_itself unknown = unknown_in_both

pub equal_alike : (b : Bound) {c : Bound} → b ≡ c → BoundAlike b c
equal_alike b e = subst (λ (x : Bound). BoundAlike b x) e (alike_itself b)

-- ---- two accepted tables of one marking

pub other_first : {list pool list' pool' : List ℕ} → OneMarking list pool list' pool' → OneMarking list' pool' list pool
other_first m = record { count = m.count'; accepted = m.accepted'; count' = m.count; accepted' = m.accepted; marking = sym m.marking }

module _ (list pool list' pool' : List ℕ) (m : OneMarking list pool list' pool') where
  -- the checks pass both, or refuse the arguments before either
  guarded_same : (arguments : Answer) (buffers : List (List ℕ)) {c d : Called} → c ≡ d
      → guarded (and_then arguments (table_check list pool)) buffers c ≡ guarded (and_then arguments (table_check list' pool')) buffers d
  guarded_same (Done first second) buffers e = rw (table_valid list pool m.accepted, table_valid list' pool' m.accepted') e
  guarded_same (Refused number first second) buffers e = refl

  -- what the walk makes of a value, and by way of which names
  value_same : (strict : Bool) (t : List ℕ) (r : Rule) (depth limit : ℕ) → BindAlike list pool list' pool' (looked_up (reading_by strict r list pool limit) depth t)
      → Agree (normalize (reading_by strict r list pool limit) depth t) (normalize (reading_by strict r list' pool' limit) depth t)
      (looked_up (reading_by strict r list pool limit) depth t) (looked_up (reading_by strict r list' pool' limit) depth t)
  value_same strict t r depth limit e =
      unused_table strict r list pool list' pool' limit depth t m.marking
      (each_weaker (λ (name : List ℕ). BoundAlike (binding list pool name) (binding list' pool' name)) (λ (name : List ℕ). binding list pool name ≡ binding list' pool' name)
      (λ name h. alike_equal h) (looked_up (reading_by strict r list pool limit) depth t) e)

  -- the least depth: at a smaller depth no other name is looked up than at 128
  depth_same : (t : List ℕ) (r : Rule) (limit : ℕ) → BindAlike list pool list' pool' (looked_up (reading_by false r list pool limit) 128 t)
      → least_depth (reading_by false r list pool limit) t ≡ least_depth (reading_by false r list' pool' limit) t
  depth_same t r limit e =
      let s = reading_by false r list pool limit in
      let alike : List ℕ → Type 0 = λ name. BoundAlike (binding list pool name) (binding list' pool' name) in
      least_same s (reading_by false r list' pool' limit) t (λ depth h. (value_same false t r depth limit (names_down alike s t 128 depth h e)).outcome)

  text_same : (t : List ℕ) → BindAlike list pool list' pool' (looked_up_in_text (binding list pool) t)
      → Agree (unescape (binding list pool) t) (unescape (binding list' pool') t) (looked_up_in_text (binding list pool) t) (looked_up_in_text (binding list' pool') t)
  text_same t e =
      unescape_agrees (binding list pool) (binding list' pool') t
      (each_weaker (λ (name : List ℕ). BoundAlike (binding list pool name) (binding list' pool' name)) (λ (name : List ℕ). binding list pool name ≡ binding list' pool' name)
      (λ name h. alike_equal h) (looked_up_in_text (binding list pool) t) e)

  -- what a reading leaves
  reader_unused : (reader : Reader) → BindAlike list pool list' pool' (names_with reader list pool) → call_with reader list pool ≡ call_with reader list' pool'
  unfolding normalize_attribute_value_call canonical_form_call normalize_attribute_value_strict_call canonical_form_strict_call normalize_nmtokens_call unescape_call reading_by
  reader_unused (normalizing false t version depth limit out) e =
      guarded_same (argument_check t (settings_check version depth limit)) (out ∷ [])
      (ap (λ (o : Outcome). finished o out) (value_same false t (rule_of version) depth limit e).outcome)
  reader_unused (normalizing true t version depth limit out) e =
      guarded_same (argument_check t (settings_check version depth limit)) (out ∷ [])
      (ap (λ (o : Outcome). finished o out) (value_same true t (rule_of version) depth limit e).outcome)
  reader_unused (forming false t version depth limit scratch out) e =
      guarded_same (argument_check t (settings_check version depth limit)) (scratch ∷ out ∷ [])
      (ap (λ (o : Outcome). formed (rule_of version) o scratch out) (value_same false t (rule_of version) depth limit e).outcome)
  reader_unused (forming true t version depth limit scratch out) e =
      guarded_same (argument_check t (settings_check version depth limit)) (scratch ∷ out ∷ [])
      (ap (λ (o : Outcome). formed (rule_of version) o scratch out) (value_same true t (rule_of version) depth limit e).outcome)
  reader_unused (listing t version depth limit scratch out) e =
      guarded_same (argument_check t (settings_check version depth limit)) (scratch ∷ out ∷ [])
      (ap (λ (o : Outcome). collapsed o scratch out) (value_same false t (rule_of version) depth limit e).outcome)
  reader_unused (unescaping t out) e = guarded_same (text_check t) (out ∷ []) (ap (λ (o : Outcome). finished o out) (text_same t e).outcome)

  -- and which names it looks up
  reader_names : (reader : Reader) → BindAlike list pool list' pool' (names_with reader list pool) → names_with reader list pool ≡ names_with reader list' pool'
  reader_names (normalizing strict t version depth limit out) e = (value_same strict t (rule_of version) depth limit e).asks
  reader_names (forming strict t version depth limit scratch out) e = (value_same strict t (rule_of version) depth limit e).asks
  reader_names (listing t version depth limit scratch out) e = (value_same false t (rule_of version) depth limit e).asks
  reader_names (unescaping t out) e = (text_same t e).asks

  -- K11: the checks of a job have those of its spans behind them
  guarded_spans : (arguments spans : Answer) (buffers : List (List ℕ)) {c d : Called} → c ≡ d
      → guarded (and_then (and_then arguments (table_check list pool)) spans) buffers c ≡ guarded (and_then (and_then arguments (table_check list' pool')) spans) buffers d
  guarded_spans (Done first second) spans buffers e =
      rw (table_valid list pool m.accepted, table_valid list' pool' m.accepted') (ap (guarded spans buffers) e)
  guarded_spans (Refused number first second) spans buffers e = refl

  each_parts : (P : List ℕ → Type 0) (xs ys : List (List ℕ)) → Each P (xs ++ ys) → Each P xs × Each P ys
  each_parts P [] ys h = (tt, h)
  each_parts P (x ∷ xs) ys h = let r = each_parts P xs ys h.1 in ((h.0, r.0), r.1)

  abbrev alike_at : List ℕ → Type 0
  alike_at name = BoundAlike (binding list pool name) (binding list' pool' name)

  -- the verdict on a value, and its names
  verdict_same : (t : List ℕ) (r : Rule) (depth limit : ℕ) → Each alike_at (pick (well_formed t) (looked_up (reading_by false r list pool limit) depth t) [])
      → verdict_of (reading_by false r list pool limit) depth t ≡ verdict_of (reading_by false r list' pool' limit) depth t
  unfolding verdict_of
  verdict_same t r depth limit = go (well_formed t)
    where
      go : (b : Bool) → Each alike_at (pick b (looked_up (reading_by false r list pool limit) depth t) [])
          → pick b (verdict (normalize (reading_by false r list pool limit) depth t)) (Fallen 5) ≡ pick b (verdict (normalize (reading_by false r list' pool' limit) depth t)) (Fallen 5)
      go true e = ap verdict (value_same false t r depth limit e).outcome
      go false e = refl

  names_same : (t : List ℕ) (r : Rule) (depth limit : ℕ) (b : Bool) → Each alike_at (pick b (looked_up (reading_by false r list pool limit) depth t) [])
      → pick b (looked_up (reading_by false r list pool limit) depth t) [] ≡ pick b (looked_up (reading_by false r list' pool' limit) depth t) []
  names_same t r depth limit true e = (value_same false t r depth limit e).asks
  names_same t r depth limit false e = refl

  over_same : (t : List ℕ) (r : Rule) (depth limit : ℕ) (xs : List Span) (words : List ℕ) → Each alike_at (names_over (reading_by false r list pool limit) depth t xs)
      → counted_over (reading_by false r list pool limit) depth t xs words ≡ counted_over (reading_by false r list' pool' limit) depth t xs words
  unfolding counted_over
  over_same t r depth limit [] words e = refl
  over_same t r depth limit (x ∷ xs) words e =
      let s = reading_by false r list pool limit in
      let own = each_parts alike_at (pick (well_formed (bytes_of t x)) (looked_up s depth (bytes_of t x)) []) (names_over s depth t xs) e in
      over_same t r depth limit xs (counted (verdict_of s depth (bytes_of t x)) words) own.1
      ∙ ap (λ (v : Verdict). counted_over (reading_by false r list' pool' limit) depth t xs (counted v words)) (verdict_same (bytes_of t x) r depth limit own.0)

  over_names : (t : List ℕ) (r : Rule) (depth limit : ℕ) (xs : List Span) → Each alike_at (names_over (reading_by false r list pool limit) depth t xs)
      → names_over (reading_by false r list pool limit) depth t xs ≡ names_over (reading_by false r list' pool' limit) depth t xs
  over_names t r depth limit [] e = refl
  over_names t r depth limit (x ∷ xs) e =
      let s = reading_by false r list pool limit in
      let other = reading_by false r list' pool' limit in
      let b = well_formed (bytes_of t x) in
      let own = each_parts alike_at (pick b (looked_up s depth (bytes_of t x)) []) (names_over s depth t xs) e in
      ap (λ (ns : List (List ℕ)). ns ++ names_over s depth t xs) (names_same (bytes_of t x) r depth limit b own.0)
      ∙ ap (λ (ns : List (List ℕ)). pick b (looked_up other depth (bytes_of t x)) [] ++ ns) (over_names t r depth limit xs own.1)

  -- K13: "if two accepted tables of one marking bind each name that a reading looks up alike .., then text, openings, refusal and positions are
  -- equal, under the same version, depth, limit and room": number, words and every byte of every buffer; K14's least depth and K11's report too
  pub k13_unused : (caller : Caller) → BindAlike list pool list' pool' (names_by caller list pool) → call_by caller list pool ≡ call_by caller list' pool'
  unfolding least_depth_call rehearse_call report reading_by
  k13_unused (reads reader) e = reader_unused reader e
  k13_unused (deepens t version limit) e =
      guarded_same (argument_check t (settings_check version 128 limit)) [] (ap (λ (a : Answer). call_of a []) (depth_same t (rule_of version) limit e))
  k13_unused (rehearses t spans version depth limit words) e =
      guarded_spans (argument_check t (settings_check version depth limit)) (spans_check (length t) spans) (words ∷ [])
      (ap (λ (w : List ℕ). called 0 (0 ∷ 0 ∷ []) (w ∷ [])) (over_same t (rule_of version) depth limit spans (replicate 29 0) e))

  -- both look up the same names
  pub k13_names : (caller : Caller) → BindAlike list pool list' pool' (names_by caller list pool) → names_by caller list pool ≡ names_by caller list' pool'
  k13_names (reads reader) e = reader_names reader e
  k13_names (deepens t version limit) e = (value_same false t (rule_of version) 128 limit e).asks
  k13_names (rehearses t spans version depth limit words) e = over_names t (rule_of version) depth limit spans e

-- K13 from the other side: the names that the reading with the second table looks up
pub k13_symmetric : (list pool list' pool' : List ℕ) → OneMarking list pool list' pool' → (caller : Caller)
    → BindAlike list pool list' pool' (names_by caller list' pool') → call_by caller list pool ≡ call_by caller list' pool'
k13_symmetric list pool list' pool' m caller e =
    sym (k13_unused list' pool' list pool (other_first m) caller
    (each_weaker (λ (name : List ℕ). BoundAlike (binding list pool name) (binding list' pool' name)) (λ (name : List ℕ). BoundAlike (binding list' pool' name) (binding list pool name))
    (λ name h. equal_alike (binding list' pool' name) (sym (alike_equal h))) (names_by caller list' pool') e))

-- ---- a table by its definitions

-- the first definition of a name, else one of the five, or nothing
abbrev bound_or : List ℕ → Option Bound → Bound
bound_or name (some b) = b
bound_or name none = predefined_of name

binds_first : (list pool name : List ℕ) → binding list pool name ≡ bound_or name (first_of (definitions list pool) name)
unfolding binding binding_in
binds_first list pool name = go (declarations list)
  where
    choose : (same : Bool) (b c : Bound) (o : Option Bound) → c ≡ bound_or name o → pick same b c ≡ bound_or name (pick same (some b) o)
    choose true b c o e = refl
    choose false b c o e = e

    go : (ds : List Declaration) → binding_in ds pool name ≡ bound_or name (first_of (definitions_in pool ds) name)
    go [] = refl
    go (d ∷ ds) = choose (same_bytes (name_of pool d) name) (body_bound pool d.body) (binding_in ds pool name) (first_of (definitions_in pool ds) name) (go ds)

-- of each name
each_all : (P : List ℕ → Type 0) → ((name : List ℕ) → P name) → (names : List (List ℕ)) → Each P names
each_all P f [] = tt
each_all P f (name ∷ names) = (f name, each_all P f names)

each_both : (P Q R : List ℕ → Type 0) → ((name : List ℕ) → P name → Q name → R name) → (names : List (List ℕ)) → Each P names → Each Q names → Each R names
each_both P Q R f [] p q = tt
each_both P Q R f (name ∷ names) p q = (f name p.0 q.0, each_both P Q R f names p.1 q.1)

-- ---- where the first definition stands

other_name : {a b : List ℕ} → a ≢ b → same_bytes a b ≡ false
other_name {a} {b} n = go (same_bytes a b) refl
  where
    go : (x : Bool) → same_bytes a b ≡ x → same_bytes a b ≡ false
    go true e = absurd (n (same_equal a b e))
    go false e = e

abbrev or_later : Option Bound → Option Bound → Option Bound
or_later (some b) later = some b
or_later none later = later

or_none : (o : Option Bound) → or_later o none ≡ o
or_none (some b) = refl
or_none none = refl

-- of two lists of definitions, one behind the other
first_joined : (ds es : List Definition) (name : List ℕ) → first_of (ds ++ es) name ≡ or_later (first_of ds name) (first_of es name)
first_joined [] es name = refl
first_joined (d ∷ ds) es name = go (same_bytes d.name name) (first_joined ds es name)
  where
    go : (same : Bool) → first_of (ds ++ es) name ≡ or_later (first_of ds name) (first_of es name)
        → pick same (some d.bound) (first_of (ds ++ es) name) ≡ or_later (pick same (some d.bound) (first_of ds name)) (first_of es name)
    go true e = refl
    go false e = e

-- behind the same definitions
first_behind : (before ds es : List Definition) (name : List ℕ) → first_of ds name ≡ first_of es name → first_of (before ++ ds) name ≡ first_of (before ++ es) name
first_behind before ds es name e = first_joined before ds name ∙ ap (or_later (first_of before name)) e ∙ sym (first_joined before es name)

-- definitions of names that are not looked up are passed over
passed_over : (ds after : List Definition) (names : List (List ℕ)) → Unused ds names → Each (λ (name : List ℕ). first_of (ds ++ after) name ≡ first_of after name) names
passed_over [] after names h = each_all (λ (name : List ℕ). first_of after name ≡ first_of after name) (λ name. refl) names
passed_over (d ∷ ds) after names h =
    each_both (λ (name : List ℕ). d.name ≢ name) (λ (name : List ℕ). first_of (ds ++ after) name ≡ first_of after name)
    (λ (name : List ℕ). first_of ((d ∷ ds) ++ after) name ≡ first_of after name) (λ name n e. rw (other_name n) e) names h.0 (passed_over ds after names h.1)

-- a definition behind one of its name is never the first
never_first : (ds : List Definition) (d : Definition) {b : Bound} → first_of ds d.name ≡ some b → (name : List ℕ) → first_of ds name ≡ first_of (ds ++ d ∷ []) name
never_first ds d {b} e name = sym (first_joined ds (d ∷ []) name ∙ go (same_bytes d.name name) refl)
  where
    go : (same : Bool) → same_bytes d.name name ≡ same → or_later (first_of ds name) (first_of (d ∷ []) name) ≡ first_of ds name
    go true q =
        let here : first_of ds name ≡ some b = ap (first_of ds) (sym (same_equal d.name name q)) ∙ e in
        ap (λ (o : Option Bound). or_later o (first_of (d ∷ []) name)) here ∙ sym here
    go false q = rw q (or_none (first_of ds name))

-- a definition on the other side of those of other names is first just where it was
moved_first : (d : Definition) (between after : List Definition) → Others d.name between → (name : List ℕ)
    → first_of (d ∷ (between ++ after)) name ≡ first_of (between ++ d ∷ after) name
moved_first d [] after h name = refl
moved_first d (x ∷ between) after h name =
    go (same_bytes d.name name) (same_bytes x.name name) refl refl
    ∙ ap (λ (o : Option Bound). pick (same_bytes x.name name) (some x.bound) o) (moved_first d between after h.1 name)
  where
    go : (one two : Bool) → same_bytes d.name name ≡ one → same_bytes x.name name ≡ two
        → first_of (d ∷ x ∷ (between ++ after)) name ≡ first_of (x ∷ d ∷ (between ++ after)) name
    go true true p q = absurd (h.0 (same_equal x.name name q ∙ sym (same_equal d.name name p)))
    go true false p q = rw (p, q)
    go false two p q = rw p

-- ---- what an office may do

module _ (list pool list' pool' : List ℕ) (m : OneMarking list pool list' pool') where
  first_alike : (name : List ℕ) → first_of (definitions list pool) name ≡ first_of (definitions list' pool') name → BoundAlike (binding list pool name) (binding list' pool' name)
  first_alike name e = equal_alike (binding list pool name) (binds_first list pool name ∙ ap (bound_or name) e ∙ sym (binds_first list' pool' name))

  -- definitions moved, repeated or dropped so that the first of each name stays: nothing changes, whoever reads
  pub k13_firsts_stay : ((name : List ℕ) → first_of (definitions list pool) name ≡ first_of (definitions list' pool') name)
      → (caller : Caller) → call_by caller list pool ≡ call_by caller list' pool'
  k13_firsts_stay h caller =
      k13_unused list pool list' pool' m caller
      (each_all (λ (name : List ℕ). BoundAlike (binding list pool name) (binding list' pool' name)) (λ name. first_alike name (h name)) (names_by caller list pool))

  -- a definition moved past those of other names: nothing changes, whoever reads
  pub k13_moved : (before between after : List Definition) (d : Definition) → definitions list pool ≡ before ++ d ∷ (between ++ after)
      → definitions list' pool' ≡ before ++ (between ++ d ∷ after) → Others d.name between
      → (caller : Caller) → call_by caller list pool ≡ call_by caller list' pool'
  k13_moved before between after d p q h =
      k13_firsts_stay (λ name.
      ap (λ (ds : List Definition). first_of ds name) p
      ∙ first_behind before (d ∷ (between ++ after)) (between ++ d ∷ after) name (moved_first d between after h name)
      ∙ sym (ap (λ (ds : List Definition). first_of ds name) q))

  -- a definition added at the end whose name an earlier one has: nothing changes, whoever reads
  pub k13_shadowed : (d : Definition) {b : Bound} → definitions list' pool' ≡ definitions list pool ++ d ∷ [] → first_of (definitions list pool) d.name ≡ some b
      → (caller : Caller) → call_by caller list pool ≡ call_by caller list' pool'
  k13_shadowed d q e = k13_firsts_stay (λ name. never_first (definitions list pool) d e name ∙ sym (ap (λ (ds : List Definition). first_of ds name) q))

  -- definitions replaced by any others, none of them looked up: nothing changes
  pub k13_edited : (before ds es after : List Definition) → definitions list pool ≡ before ++ (ds ++ after) → definitions list' pool' ≡ before ++ (es ++ after)
      → (caller : Caller) → Unused ds (names_by caller list pool) → Unused es (names_by caller list pool) → call_by caller list pool ≡ call_by caller list' pool'
  k13_edited before ds es after p q caller h k =
      let names = names_by caller list pool in
      k13_unused list pool list' pool' m caller
      (each_both (λ (name : List ℕ). first_of (ds ++ after) name ≡ first_of after name) (λ (name : List ℕ). first_of (es ++ after) name ≡ first_of after name)
      (λ (name : List ℕ). BoundAlike (binding list pool name) (binding list' pool' name)) (λ name x y.
      first_alike name
      (ap (λ (zs : List Definition). first_of zs name) p
      ∙ first_behind before (ds ++ after) (es ++ after) name (x ∙ sym y)
      ∙ sym (ap (λ (zs : List Definition). first_of zs name) q)))
      names (passed_over ds after names h) (passed_over es after names k))

  -- a definition added at the end that is not looked up: nothing changes
  pub k13_appended : (d : Definition) → definitions list' pool' ≡ definitions list pool ++ d ∷ []
      → (caller : Caller) → Each (λ (name : List ℕ). d.name ≢ name) (names_by caller list pool) → call_by caller list pool ≡ call_by caller list' pool'
  k13_appended d q caller h = k13_edited (definitions list pool) [] (d ∷ []) [] (sym (append-nil (definitions list pool))) q caller tt (h, tt)

  -- the text of a definition replaced that is not looked up, or its kind: nothing changes
  pub k13_replaced : (before after : List Definition) (name : List ℕ) (b c : Bound) → definitions list pool ≡ before ++ record { name = name; bound = b } ∷ after
      → definitions list' pool' ≡ before ++ record { name = name; bound = c } ∷ after
      → (caller : Caller) → Each (λ (other : List ℕ). name ≢ other) (names_by caller list pool) → call_by caller list pool ≡ call_by caller list' pool'
  k13_replaced before after name b c p q caller h =
      k13_edited before (record { name = name; bound = b } ∷ []) (record { name = name; bound = c } ∷ []) after p q caller (h, tt) (h, tt)
