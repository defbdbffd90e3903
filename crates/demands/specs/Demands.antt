-- The owner's demands 2 and 3, stated of the definitions, in the words of document 01, Canonical form. Assumes nothing.
use Rattle.std.specs.Prelude.{◌≡◌, ◌≢◌, ◌↔◌, ℕ, ◌≤◌, true, List, [], ◌∷◌, length}
use Rattle.text.specs.Version.{Rule, rule_of, known_version}
use Rattle.text.specs.Utf8.{WellFormed}
use Rattle.escape.specs.Escape.{write, level_of, level_set}
use Rattle.entity.specs.Table.{Declaration, name_of, declarations, ValidTable}
use Rattle.entity.specs.Binding.{binding}
use Rattle.tokens.specs.Outcome.{Outcome, done}
use Rattle.unescape.specs.Unescape.{unescape}
use Rattle.attribute.specs.Walk.{normalize, reading_of}
use Rattle.canonical.specs.Canonical.{canonical}

-- demand 2: an escaped text is UTF-8 (so no call refuses it by 5), and unescapes, with a table that declares nothing, to the text with
-- no opening
pub record EscapedReads (level : ℕ) (t : List ℕ) : Type 0 where
  pub utf8 : WellFormed (write (level_set (level_of level)) t)
  pub reads : (list pool : List ℕ) → declarations list ≡ [] → unescape (binding list pool) (write (level_set (level_of level)) t) ≡ done t 0

-- Attribute walk: what a call that normalizes is asked
pub record Asked : Type 0 where
  pub version : ℕ
  pub text : List ℕ
  pub list : List ℕ
  pub pool : List ℕ
  pub depth : ℕ
  pub limit : ℕ

-- Canonical form: version bytes 0 and 1 are one XML version
abbrev pub rule_for : Asked → Rule
rule_for a = rule_of a.version

-- Attribute walk: what normalization makes of it
abbrev pub normalized : Asked → Outcome
normalized a = normalize (reading_of (rule_for a) a.list a.pool a.limit) a.depth a.text

-- Refusals by place, 1 to 9: none of them refuses
pub record Taken (a : Asked) : Type 0 where
  pub size : length a.text ≤ 16777216
  pub deep : a.depth ≤ 128
  pub most : a.limit ≤ 1000000
  pub known : known_version a.version ≡ true
  pub utf8 : WellFormed a.text
  pub table : ValidTable a.list a.pool

-- Canonical form: accepted, refused by no number, with the normalized value and the openings made
pub record Accepted (a : Asked) (value : List ℕ) (openings : ℕ) : Type 0 where
  pub taken : Taken a
  pub reads : normalized a ≡ done value openings

-- Canonical form: the form of an accepted value, under the same settings
abbrev pub form_of : Asked → List ℕ → List ℕ
form_of a value = canonical (rule_for a) value

-- demand 3, first half: normalized values are equal exactly when their canonical forms are, in length and in every byte
abbrev pub EqualExactly : Asked → Asked → List ℕ → List ℕ → Type 0
EqualExactly a b v w = (v ≡ w) ↔ (form_of a v ≡ form_of b w)

-- Canonical form: a table defines the names in its commands; of these declarations none has the name
abbrev pub NoneNamed : List ℕ → List ℕ → List Declaration → Type 0
NoneNamed name pool [] = Unit {0}
NoneNamed name pool (d ∷ ds) = (name_of pool d ≢ name) × NoneNamed name pool ds

-- demand 3: a table that defines none of lt, gt, apos and quot
pub record DefinesNone (list pool : List ℕ) : Type 0 where
  pub lt : NoneNamed (108 ∷ 116 ∷ []) pool (declarations list)
  pub gt : NoneNamed (103 ∷ 116 ∷ []) pool (declarations list)
  pub apos : NoneNamed (97 ∷ 112 ∷ 111 ∷ 115 ∷ []) pool (declarations list)
  pub quot : NoneNamed (113 ∷ 117 ∷ 111 ∷ 116 ∷ []) pool (declarations list)

-- demand 3, second half: a canonical form of at most 16,777,216 bytes, asked to be normalized under the version it was written for, at
-- any depth from 1 to 128, with any opening limit up to 1,000,000 and any valid table that defines none of the four names
pub record AskedAgain (a : Asked) (value : List ℕ) (b : Asked) : Type 0 where
  pub form : b.text ≡ form_of a value
  pub size : length b.text ≤ 16777216
  pub version : rule_for b ≡ rule_for a
  pub known : known_version b.version ≡ true
  pub shallow : 1 ≤ b.depth
  pub deep : b.depth ≤ 128
  pub most : b.limit ≤ 1000000
  pub table : ValidTable b.list b.pool
  pub free : DefinesNone b.list b.pool

-- demand 3, second half: it is accepted, gives exactly that value, the opening count is 0, and its canonical form is itself
pub record Rereads (value : List ℕ) (b : Asked) : Type 0 where
  pub accepted : Accepted b value 0
  pub itself : form_of b value ≡ b.text
