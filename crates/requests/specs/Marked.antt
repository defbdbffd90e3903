-- K4, lists whose texts are past line ends (document 02), stated of the calls. Assumes nothing.
use Rattle.std.specs.Prelude.{◌≡◌, ℕ, suc, true, false, ◌||◌, List, [], ◌∷◌, ◌++◌, eqb}
use Rattle.text.specs.Bytes.{pick}
use Rattle.text.specs.Version.{rule_of}
use Rattle.legal.specs.Legal.{Place, in_value, in_table}
use Rattle.runs.specs.RunEnds.{is_amp}
use Rattle.halts.specs.Halts.{any_stop, stop_byte}
use Rattle.canonical.specs.Canonical.{canonical}
use Rattle.collapse.specs.Collapse.{collapse}
use Rattle.attribute.specs.Walk.{Settings}
use Rattle.attribute.specs.Strict.{reading_by}
use Rattle.demands.specs.Demands.{Asked, rule_for}
use Rattle.requests.specs.External.{Through, itself, through}
use Rattle.requests.specs.Unused.{Reader, normalizing, forming, listing, unescaping}

-- K4: "TAB, LF and CR each become one space"; all else stays
abbrev pub each_space : List ℕ → List ℕ
each_space [] = []
each_space (b ∷ bs) = pick (eqb b 9 || eqb b 10 || eqb b 13) 32 b ∷ each_space bs

-- what a text of a marked list that is opened gives: where the depth is not used up and it refers to nothing, its spaces; where the depth is used up
-- and none of the stop bytes stands in it, itself
pub data MarkedGives (gives : List ℕ) : Place → ℕ → List ℕ → ℕ → Type 0 where
  spaced : (p : Place) (depth less : ℕ) (t : List ℕ) (n : ℕ) → p ≡ in_table → depth ≡ suc less → any_stop is_amp t ≡ false → gives ≡ each_space t → MarkedGives gives p depth t n
  copied : (p : Place) (depth : ℕ) (t : List ℕ) (n : ℕ) → p ≡ in_table → depth ≡ 0 → any_stop (stop_byte false) t ≡ false → gives ≡ t → MarkedGives gives p depth t n

-- one that is opened with the depth used up, and has a stop byte: TAB, LF, CR or `&`
abbrev pub StopsIn : Place → ℕ → List ℕ → ℕ → Type 0
StopsIn p depth t n = (p ≡ in_table) × (depth ≡ 0) × (any_stop (stop_byte false) t ≡ true)

-- what was read before the references that lead to a text
unfoldable pub values_before : (s : Settings) (P : Place → ℕ → List ℕ → ℕ → Type 0) {p : Place} {depth : ℕ} {t : List ℕ} {n : ℕ} → Through s P p depth t n → List ℕ
values_before s P (itself p depth t n x) = []
values_before s P (through p depth less t n before name m u m' e x o w) = x.value ++ values_before s P w

-- a value begins with these bytes
pub record Begins (value front : List ℕ) : Type 0 where
  pub rest : List ℕ
  pub is : value ≡ front ++ rest

-- what a lenient call reads as an attribute's value is, or references lead from it to, a text of which this holds. A strict call that answers by neither 25
-- nor 26 answers as the lenient one; unescaping opens no text.
abbrev pub LeadsTo : (Place → ℕ → List ℕ → ℕ → Type 0) → Reader → List ℕ → List ℕ → Type 0
LeadsTo P (normalizing false t version depth limit out) list pool = Through (reading_by false (rule_of version) list pool limit) P in_value depth t 0
LeadsTo P (normalizing true t version depth limit out) list pool = ⊥
LeadsTo P (forming false t version depth limit scratch out) list pool = Through (reading_by false (rule_of version) list pool limit) P in_value depth t 0
LeadsTo P (forming true t version depth limit scratch out) list pool = ⊥
LeadsTo P (listing t version depth limit scratch out) list pool = Through (reading_by false (rule_of version) list pool limit) P in_value depth t 0
LeadsTo P (unescaping t out) list pool = ⊥

-- a canonical form, or a list of tokens, of a value that begins with these bytes
pub record FormBegins (a : Asked) (form front : List ℕ) : Type 0 where
  pub value : List ℕ
  pub begins : Begins value front
  pub form_is : form ≡ canonical (rule_for a) value

pub record ListBegins (result front : List ℕ) : Type 0 where
  pub value : List ℕ
  pub begins : Begins value front
  pub result_is : result ≡ collapse value
