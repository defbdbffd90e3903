-- The terms in which white space, references and values are proved; no promise of a call rests on them. Assumes nothing.
use Rattle.std.specs.Prelude.{◌≡◌, Bool, ◌||◌, List, [], ◌∷◌, ℕ, ◌+◌, ◌*◌, ◌≤◌, ◌<◌, length, eqb, Result, Ok, Err}
use Rattle.text.specs.Bytes.{pick}
use Rattle.text.specs.Refusals.{number_of, first_of, second_of}
use Rattle.output.specs.Over.{over}
use Rattle.runs.specs.RunEnds.{line_stop}
use Rattle.table_names.specs.NameTerms.{left}
use Rattle.table_grammar.specs.EntityValue.{Read, read, departs, exceeds, refused, after_space, space, reference}
use Rattle.table_values.specs.declared.Next.{Next}
use Rattle.table_values.specs.declared.Fault.{Fault}
use Rattle.table_values.specs.declared.Fault.TheVariants.{Misplaced, Excessive, Refused}

-- no white space stands there; the reader passes some, and what is left then is `rest`
pub record Dark (t : List ℕ) : Type 0 where
  pub none : space t ≡ departs t
  pub still : after_space t ≡ t

pub record Passes (t rest : List ℕ) : Type 0 where
  pub some : space t ≡ read [] (after_space rest)
  pub on : after_space t ≡ after_space rest

-- the width of the white space at `i`, or 0
pub record White (newer : Bool) (t : List ℕ) (i w : ℕ) : Type 0 where
  pub inside : i + w ≤ length t
  pub dark : w ≡ 0 → Dark (left newer t i)
  pub white : (w ≡ 0 → ⊥) → Passes (left newer t i) (left newer t (i + w))

-- where white space from `i` on ends
pub record Spaced (newer : Bool) (t : List ℕ) (i e : ℕ) : Type 0 where
  pub from : i ≤ e
  pub to : e ≤ length t
  pub rest : after_space (left newer t i) ≡ left newer t e
  pub none : e ≡ i → space (left newer t i) ≡ departs (left newer t i)
  pub some : i < e → space (left newer t i) ≡ read [] (left newer t e)

-- a reader that does not go on
abbrev pub fault : {A : Type 0} → Bool → List ℕ → Fault → Read A
fault newer t (Misplaced at) = departs (left newer t at)
fault newer t (Excessive at) = exceeds (left newer t at)
fault newer t (Refused refusal) = refused (number_of refusal) (first_of refusal)

-- what a step stands for, where it read these bytes
abbrev pub meant : Bool → List ℕ → List ℕ → Result Next Fault → Read (List ℕ)
meant newer t v (Ok next) = read v (left newer t next.at)
meant newer t v (Err f) = fault newer t f

-- it went on from `i` to `at`, and `len` bytes of the output, or as many as it has, are those that it read
pub record Went (t : List ℕ) (i : ℕ) (v old new : List ℕ) (at len : ℕ) : Type 0 where
  pub on : i < at
  pub to : at ≤ length t
  pub size : len ≡ length v
  pub small : len + 4 * i ≤ 4 * at
  pub holds : new ≡ over v old

-- the place at which it stopped is in the text, or a number's refusal has no second word; the output is as long as it was
abbrev pub KeptFault : List ℕ → List ℕ → List ℕ → Fault → Type 0
KeptFault t old new (Misplaced at) = (at ≤ length t) × (length new ≡ length old)
KeptFault t old new (Excessive at) = (at ≤ length t) × (length new ≡ length old)
KeptFault t old new (Refused refusal) = (length new ≡ length old) × (second_of refusal ≡ 0)

abbrev pub Kept : List ℕ → ℕ → List ℕ → List ℕ → List ℕ → Result Next Fault → Type 0
Kept t i v old new (Ok next) = Went t i v old new next.at next.len
Kept t i v old new (Err f) = KeptFault t old new f

-- a step from `i` on is what a reader makes of the text there
pub record Meets (newer : Bool) (t : List ℕ) (i : ℕ) (wanted : Read (List ℕ)) (old new : List ℕ) (r : Result Next Fault) : Type 0 where
  pub value : List ℕ
  pub is : wanted ≡ meant newer t value r
  pub kept : Kept t i value old new r

-- ---- values

-- a byte at which a run of a value may end: its quote, `&`, `%`, or one at which a line end other than LF may start
abbrev pub value_stop : ℕ → Bool → ℕ → Bool
value_stop quote newer b = eqb b quote || eqb b 38 || eqb b 37 || line_stop newer b

-- a byte that ends a character reference, or may not stand in it
abbrev pub number_stop : ℕ → ℕ → Bool
number_stop quote b = eqb b 59 || eqb b quote

-- a quote: printable ASCII, so that it starts no line end
abbrev pub Quote : ℕ → Type 0
Quote quote = (33 ≤ quote) × (quote < 0x80)

-- what stands at a stop of a value that is not its quote
abbrev pub value_step : ℕ → List ℕ → Read (List ℕ)
value_step quote [] = departs []
value_step quote (b ∷ bs) = pick (eqb b 37) (departs (b ∷ bs)) (pick (eqb b 38) (reference quote bs) (read (b ∷ []) bs))
