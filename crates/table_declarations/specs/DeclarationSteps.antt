-- The terms in which declarations are proved; no promise of a call rests on them. Assumes nothing.
use Rattle.std.specs.Prelude.{◌≡◌, Bool, List, [], ◌∷◌, ◌++◌, ℕ, ◌+◌, ◌*◌, ◌≤◌, ◌<◌, length, Result, Ok, Err}
use Rattle.text.specs.Refusals.{second_of}
use Rattle.output.specs.Over.{over}
use Rattle.table_grammar.specs.EntityValue.{Read, read, departs, literal}
use Rattle.table_grammar.specs.EntityDecl.{Entity, entities}
use Rattle.table_grammar.specs.TableWritten.{commands_from, list_of, pool_of, most}
use Rattle.table_names.specs.NameTerms.{left}
use Rattle.table_values.specs.ValueSteps.{fault, KeptFault}
use Rattle.table_values.specs.declared.Fault.{Fault}
use Rattle.table_values.specs.declared.Fault.TheVariants.{Misplaced, Excessive, Refused}
use Rattle.table_declarations.specs.declared.Declared.{Declared}
use Rattle.table_declarations.specs.declared.Totals.{Totals}

-- a word of printable ASCII: no byte of it starts a line end
abbrev pub PlainWord : List ℕ → Type 0
PlainWord [] = Unit {0}
PlainWord (c ∷ cs) = (33 ≤ c) × (c < 0x80) × PlainWord cs

-- what a literal reader makes of the text from `i` on, by where it stops
pub record Literally (newer : Bool) (t : List ℕ) (i : ℕ) (word : List ℕ) (r : ℕ) : Type 0 where
  pub to : r ≤ length t
  pub most : r ≤ i + length word
  pub whole : r ≡ i + length word → literal word (left newer t i) ≡ read [] (left newer t r)
  pub cut : r < i + length word → literal word (left newer t i) ≡ departs (left newer t r)

-- ---- declarations

abbrev pub meant_entity : Bool → List ℕ → Entity → Result Declared Fault → Read Entity
meant_entity newer t e (Ok d) = read e (left newer t d.at)
meant_entity newer t e (Err f) = fault newer t f

pub record Described (t : List ℕ) (i : ℕ) (e : Entity) (old new : List ℕ) (at n v : ℕ) : Type 0 where
  pub on : i < at
  pub to : at ≤ length t
  pub named : n ≡ length e.name
  pub valued : v ≡ length e.value
  pub small : n + v + 4 * i ≤ 4 * at
  pub holds : new ≡ over (e.name ++ e.value) old

abbrev pub KeptEntity : List ℕ → ℕ → Entity → List ℕ → List ℕ → Result Declared Fault → Type 0
KeptEntity t i e old new (Ok d) = Described t i e old new d.at d.name d.value
KeptEntity t i e old new (Err f) = KeptFault t old new f

-- a declaration from `i` on is what a reader makes of the text there
pub record MeetsEntity (newer : Bool) (t : List ℕ) (i : ℕ) (wanted : Read Entity) (old new : List ℕ) (r : Result Declared Fault) : Type 0 where
  pub entity : Entity
  pub is : wanted ≡ meant_entity newer t entity r
  pub kept : KeptEntity t i entity old new r

abbrev pub meant_all : Bool → List ℕ → List Entity → Result Totals Fault → Read (List Entity)
meant_all newer t es (Ok totals) = read es []
meant_all newer t es (Err f) = fault newer t f

pub record Tabled (es : List Entity) (list pool list' pool' : List ℕ) (count used : ℕ) : Type 0 where
  pub counted : count ≡ length es
  pub sized : used ≡ length (pool_of es)
  pub few : count ≤ most
  pub small : used ≤ 67108864
  pub commands : list' ≡ over (commands_from 0 es) list
  pub texts : pool' ≡ over (pool_of es) pool

abbrev pub KeptAll : List ℕ → List Entity → List ℕ → List ℕ → List ℕ → List ℕ → Result Totals Fault → Type 0
KeptAll t es list pool list' pool' (Ok totals) = Tabled es list pool list' pool' totals.count totals.pool
KeptAll t es list pool list' pool' (Err f) = KeptFault t pool pool' f × (length list' ≡ length list)

-- all declarations of a text
pub record MeetsAll (newer : Bool) (t list pool list' pool' : List ℕ) (r : Result Totals Fault) : Type 0 where
  pub found : List Entity
  pub is : entities most (left newer t 0) ≡ meant_all newer t found r
  pub kept : KeptAll t found list pool list' pool' r

-- ---- the answer

abbrev pub Inside : List ℕ → Fault → Type 0
Inside t (Misplaced at) = at ≤ length t
Inside t (Excessive at) = at ≤ length t
Inside t (Refused refusal) = second_of refusal ≡ 0

-- a text that was read, and what there is to write has room
pub record Counted (newer : Bool) (t : List ℕ) (size : ℕ) (list pool : List ℕ) : Type 0 where
  pub found : List Entity
  pub is : entities most (left newer t 0) ≡ read found []
  pub length_is : size ≡ length (list_of found)
  pub list_fits : size ≤ length list
  pub pool_fits : length (pool_of found) ≤ length pool
