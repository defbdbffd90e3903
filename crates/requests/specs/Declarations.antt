-- K3, reading declarations (document 02), stated of the calls. Assumes nothing.
use Rattle.std.specs.Prelude.{◌≡◌, Bool, true, false, List, [], ◌∷◌, ℕ, ◌+◌, ◌*◌, ◌≤◌, ◌<◌, length, take}
use Rattle.text.specs.Version.{Rule, rule_of, known_version}
use Rattle.text.specs.Call.{Called, called, guarded, text_check, argument_check, laid}
use Rattle.eols.specs.LineEnds.{eols}
use Rattle.entity.specs.Binding.{text}
use Rattle.tokens.specs.Outcome.{finished}
use Rattle.unescape.specs.Unescape.{unescape}
use Rattle.attribute.specs.Checks.{settings_check}
use Rattle.attribute.specs.Walk.{Settings, normalize, reading}
use Rattle.attribute.specs.Strict.{strictly}
use Rattle.attribute.specs.Form.{formed}
use Rattle.nmtokens.specs.Nmtokens.{collapsed}
use Rattle.table_grammar.specs.EntityDecl.{Entity}
use Rattle.table_grammar.specs.TableWritten.{list_of, pool_of, declared}
use Rattle.table_grammar.specs.Productions.{Declarations}
use Rattle.govlezna.specs.Calls.{check_utf8_call, read_declarations_call}
use Rattle.requests.specs.Unused.{Reader, normalizing, forming, listing, unescaping, Definition}

-- what a call is handed
pub record Lent : Type 0 where
  pub text : List ℕ
  pub version : ℕ
  pub list : List ℕ
  pub pool : List ℕ

abbrev pub call_for : Lent → Called
call_for a = read_declarations_call a.text a.version a.list a.pool

-- K3: "apply the version's line ends first"
abbrev pub settled : Lent → List ℕ
settled a = eols (rule_of a.version) a.text

-- a call that succeeds: the two lengths, and both buffers as it leaves them
pub record Success (a : Lent) : Type 0 where
  pub list_length : ℕ
  pub pool_length : ℕ
  pub list : List ℕ
  pub pool : List ℕ
  pub is : call_for a ≡ called 0 (list_length ∷ pool_length ∷ []) (list ∷ pool ∷ [])

-- the table that it wrote, as a caller hands it on
abbrev pub list_from : {a : Lent} → Success a → List ℕ
list_from x = take x.list_length x.list

abbrev pub pool_from : {a : Lent} → Success a → List ℕ
pool_from x = take x.pool_length x.pool

-- K3: names of 1 to 255 bytes, values of at most 65,535
abbrev pub Sizes : List Entity → Type 0
Sizes [] = Unit {0}
Sizes (e ∷ es) = (0 < length e.name) × (length e.name ≤ 255) × (length e.value ≤ 65535) × Sizes es

-- K3: within the limits: sizes, at most 4,096 declarations, a pool of at most 1,048,576 bytes
pub record Within (es : List Entity) : Type 0 where
  pub sizes : Sizes es
  pub few : length es ≤ 4096
  pub short : length (pool_of es) ≤ 1048576

-- room for the table of these, mark and end included
pub record Room (es : List Entity) (a : Lent) : Type 0 where
  pub list : 12 * length es + 2 ≤ length a.list
  pub pool : length (pool_of es) ≤ length a.pool

-- the text is UTF-8 that a call takes, and the version byte known
pub record Taken (a : Lent) : Type 0 where
  pub utf8 : check_utf8_call a.text ≡ called 0 (length a.text ∷ 0 ∷ []) []
  pub version : known_version a.version ≡ true

-- K3: the numbers by which it refuses: those of its arguments, 12 to 15, and 21 to 23
abbrev pub declaration_numbers : List ℕ
declaration_numbers = 1 ∷ 4 ∷ 5 ∷ 12 ∷ 13 ∷ 14 ∷ 15 ∷ 21 ∷ 22 ∷ 23 ∷ []

-- ---- reading through declarations

-- K4: replacement texts are past line ends; names are bound by the first declaration
abbrev pub reading_with : Bool → Rule → List Entity → ℕ → Settings
reading_with false r es limit = reading r true (declared es) limit
reading_with true r es limit = strictly r (reading r true (declared es) limit)

-- K3: "looking up in the declarations, the first binding": what a reading leaves that looks names up in these declarations, without a table
abbrev pub read_through : Reader → List Entity → Called
read_through (normalizing strict t version depth limit out) es =
    guarded (argument_check t (settings_check version depth limit)) (out ∷ []) (finished (normalize (reading_with strict (rule_of version) es limit) depth t) out)
read_through (forming strict t version depth limit scratch out) es =
    guarded (argument_check t (settings_check version depth limit)) (scratch ∷ out ∷ [])
    (formed (rule_of version) (normalize (reading_with strict (rule_of version) es limit) depth t) scratch out)
read_through (listing t version depth limit scratch out) es =
    guarded (argument_check t (settings_check version depth limit)) (scratch ∷ out ∷ [])
    (collapsed (normalize (reading_with false (rule_of version) es limit) depth t) scratch out)
read_through (unescaping t out) es = guarded (text_check t) (out ∷ []) (finished (unescape (declared es) t) out)

-- K3: "each declaration gives one command, in order": the definitions of a table, for these
abbrev pub in_order : List Entity → List Definition
in_order [] = []
in_order (e ∷ es) = record { name = e.name; bound = text e.value } ∷ in_order es

-- ---- the declarations of a call

-- the text is a list of these declarations, within the limits
pub record Declares (a : Lent) (es : List Entity) : Type 0 where
  pub text : Declarations (settled a) es
  pub within : Within es

-- what a call that succeeds leaves for these declarations: lengths, and list and pool over the first bytes of the lent ones, whose rest is kept
pub record Leaves (a : Lent) (x : Success a) (es : List Entity) : Type 0 where
  pub list_length : x.list_length ≡ 12 * length es + 2
  pub pool_length : x.pool_length ≡ length (pool_of es)
  pub list : x.list ≡ laid (list_of es) a.list
  pub pool : x.pool ≡ laid (pool_of es) a.pool
