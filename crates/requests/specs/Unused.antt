-- K13, unused definitions have no say (document 02), stated of the calls. Assumes nothing.
use Rattle.std.specs.Prelude.{◌≡◌, ◌≢◌, ℕ, Bool, true, false, List, [], ◌∷◌, ◌++◌}
use Rattle.std.proofs.Math.Option.{Option, some, none}
use Rattle.text.specs.Bytes.{pick, same_bytes}
use Rattle.text.specs.Utf8.{well_formed}
use Rattle.text.specs.Version.{rule_of}
use Rattle.text.specs.Call.{Called, called}
use Rattle.entity.specs.Table.{Declaration, name_of, declarations, marked}
use Rattle.entity.specs.Binding.{Bound, text, predefined, external, unknown, body_bound, binding}
use Rattle.tokens.specs.Lookups.{Each}
use Rattle.unescape.specs.LookedUpInText.{looked_up_in_text}
use Rattle.attribute.specs.Walk.{Settings}
use Rattle.attribute.specs.Strict.{reading_by}
use Rattle.attribute.specs.LookedUp.{looked_up}
use Rattle.walk_rehearsal.specs.declared.Span.{Span}
use Rattle.walk_rehearsal.specs.Rehearsal.{bytes_of}
use Rattle.govlezna.specs.Calls.{check_table_call, unescape_call, normalize_attribute_value_call, canonical_form_call, normalize_attribute_value_strict_call, canonical_form_strict_call, normalize_nmtokens_call, least_depth_call, rehearse_call}

-- ---- readings

-- K13, "a reading": a call that reads with a table, and all that it is handed but the table: text, version, depth, limit and buffers
pub data Reader : Type 0 where
  normalizing : (strict : Bool) (t : List ℕ) (version depth limit : ℕ) (out : List ℕ) → Reader
  forming : (strict : Bool) (t : List ℕ) (version depth limit : ℕ) (scratch out : List ℕ) → Reader
  listing : (t : List ℕ) (version depth limit : ℕ) (scratch out : List ℕ) → Reader
  unescaping : (t out : List ℕ) → Reader

-- what it leaves with a table: number, words and every buffer
abbrev pub call_with : Reader → List ℕ → List ℕ → Called
call_with (normalizing false t version depth limit out) list pool = normalize_attribute_value_call t version depth limit list pool out
call_with (normalizing true t version depth limit out) list pool = normalize_attribute_value_strict_call t version depth limit list pool out
call_with (forming false t version depth limit scratch out) list pool = canonical_form_call t version depth limit list pool scratch out
call_with (forming true t version depth limit scratch out) list pool = canonical_form_strict_call t version depth limit list pool scratch out
call_with (listing t version depth limit scratch out) list pool = normalize_nmtokens_call t version depth limit list pool scratch out
call_with (unescaping t out) list pool = unescape_call t list pool out

-- K13, "each name that a reading looks up", in a table
abbrev pub names_with : Reader → List ℕ → List ℕ → List (List ℕ)
names_with (normalizing strict t version depth limit out) list pool = looked_up (reading_by strict (rule_of version) list pool limit) depth t
names_with (forming strict t version depth limit scratch out) list pool = looked_up (reading_by strict (rule_of version) list pool limit) depth t
names_with (listing t version depth limit scratch out) list pool = looked_up (reading_by false (rule_of version) list pool limit) depth t
names_with (unescaping t out) list pool = looked_up_in_text (binding list pool) t

-- K13, K11: the names of a job are those of its values, each by itself, where it is UTF-8
abbrev pub names_over : Settings → ℕ → List ℕ → List Span → List (List ℕ)
names_over s depth t [] = []
names_over s depth t (x ∷ xs) = pick (well_formed (bytes_of t x)) (looked_up s depth (bytes_of t x)) [] ++ names_over s depth t xs

-- K13, K14, K11: a reading, the search for the depth that it needs, or the rehearsal of a job
pub data Caller : Type 0 where
  reads : Reader → Caller
  deepens : (t : List ℕ) (version limit : ℕ) → Caller
  rehearses : (t : List ℕ) (spans : List Span) (version depth limit : ℕ) (report : List ℕ) → Caller

abbrev pub call_by : Caller → List ℕ → List ℕ → Called
call_by (reads reader) list pool = call_with reader list pool
call_by (deepens t version limit) list pool = least_depth_call t version limit list pool
call_by (rehearses t spans version depth limit report) list pool = rehearse_call t spans version depth limit list pool report

-- K13, K14: the names of the least depth are those of depth 128
abbrev pub names_by : Caller → List ℕ → List ℕ → List (List ℕ)
names_by (reads reader) list pool = names_with reader list pool
names_by (deepens t version limit) list pool = looked_up (reading_by false (rule_of version) list pool limit) 128 t
names_by (rehearses t spans version depth limit report) list pool = names_over (reading_by false (rule_of version) list pool limit) depth t spans

-- ---- two tables

-- K13, alike: "same kind of command, or predefined in both, or unknown in both, and the same text"
pub data BoundAlike : Bound → Bound → Type 0 where
  command1 : (t : List ℕ) → BoundAlike (text t) (text t)
  command2 : BoundAlike external external
  predefined_in_both : (t : List ℕ) → BoundAlike (predefined t) (predefined t)
  unknown_in_both : BoundAlike unknown unknown

-- K13: two tables bind each of these names alike
abbrev pub BindAlike : (list pool list' pool' : List ℕ) → List (List ℕ) → Type 0
BindAlike list pool list' pool' names = Each (λ (name : List ℕ). BoundAlike (binding list pool name) (binding list' pool' name)) names

-- K13: "two accepted tables of one marking"
pub record OneMarking (list pool list' pool' : List ℕ) : Type 0 where
  pub count : ℕ
  pub accepted : check_table_call list pool ≡ called 0 (count ∷ 0 ∷ []) []
  pub count' : ℕ
  pub accepted' : check_table_call list' pool' ≡ called 0 (count' ∷ 0 ∷ []) []
  pub marking : marked list ≡ marked list'

-- ---- a table as an office sees it

-- a definition: its name, and what that is bound to, wherever in the pool they lie
pub record Definition : Type 0 where
  pub name : List ℕ
  pub bound : Bound

abbrev pub definitions_in : List ℕ → List Declaration → List Definition
definitions_in pool [] = []
definitions_in pool (d ∷ ds) = record { name = name_of pool d; bound = body_bound pool d.body } ∷ definitions_in pool ds

-- the definitions of a table, in order
abbrev pub definitions : List ℕ → List ℕ → List Definition
definitions list pool = definitions_in pool (declarations list)

-- the first definition that has the name
abbrev pub first_of : List Definition → List ℕ → Option Bound
first_of [] name = none
first_of (d ∷ ds) name = pick (same_bytes d.name name) (some d.bound) (first_of ds name)

-- no definition of these has a name that is looked up
abbrev pub Unused : List Definition → List (List ℕ) → Type 0
Unused [] names = Unit {0}
Unused (d ∷ ds) names = Each (λ (name : List ℕ). d.name ≢ name) names × Unused ds names

-- these definitions have other names
abbrev pub Others : List ℕ → List Definition → Type 0
Others name [] = Unit {0}
Others name (d ∷ ds) = (d.name ≢ name) × Others name ds
