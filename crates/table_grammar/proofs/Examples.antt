-- Examples of K3 (document 02), computed: what the call answers where it is lent no list and no pool, and what it writes. With three declarations at
-- most: a number of 4,096 that may come is opened step by step and takes too long. Assumes nothing.
use mathlib.Core.Path.{◌≡◌, refl}
use mathlib.Core.List.{List, [], ◌∷◌, ◌++◌}
use Prim.Native.Nat.{ℕ, zero, suc}
use Rattle.text.specs.Call.{Called, called}
use Rattle.text.specs.Version.{Rule, xml10, xml11}
use Rattle.eols.specs.LineEnds.{eols}
use Rattle.entity.specs.Binding.{text, predefined, binding}
use Rattle.table_grammar.specs.EntityValue.{departs}
use Rattle.table_grammar.specs.EntityDecl.{keyword, declared_name, Entity, entities}
use Rattle.table_grammar.specs.TableWritten.{list_of, pool_of, tabled, declared, read_up_to}

abbrev asked : Rule → List ℕ → Called
asked r t = read_up_to 3 r t [] []

abbrev answers : ℕ → ℕ → ℕ → Called
answers number first second = called number (first ∷ second ∷ []) ([] ∷ [] ∷ [])

-- `<!ENTITY a "`, and what follows: that is at offset 12
abbrev value : List ℕ → List ℕ
value rest = keyword ++ 32 ∷ 97 ∷ 32 ∷ 34 ∷ rest

-- so many letters
abbrev letters : ℕ → List ℕ → List ℕ
letters zero rest = rest
letters (suc n) rest = 97 ∷ letters n rest

-- `%` in a value: 21 there
percent : asked xml10 (value (37 ∷ 97 ∷ 59 ∷ 34 ∷ 62 ∷ [])) ≡ answers 21 12 0
unfolding read_up_to tabled entities eols
percent = refl

-- a CR LF in a number counts as one: 21 at the quote
line_end_in_number : asked xml10 (value (38 ∷ 35 ∷ 13 ∷ 10 ∷ 34 ∷ 62 ∷ [])) ≡ answers 21 15 0
unfolding read_up_to tabled entities eols
line_end_in_number = refl

-- the other quote may stand in a number: 13
other_quote : asked xml10 (value (38 ∷ 35 ∷ 39 ∷ 49 ∷ 59 ∷ 34 ∷ 62 ∷ [])) ≡ answers 13 0 0
unfolding read_up_to tabled entities eols
other_quote = refl

-- the quote may not: 21 there
quote_in_number : asked xml10 (value (38 ∷ 35 ∷ 34 ∷ 62 ∷ [])) ≡ answers 21 14 0
unfolding read_up_to tabled entities eols
quote_in_number = refl

-- no name: 21 at the `;`
no_name : asked xml10 (value (38 ∷ 59 ∷ 34 ∷ 62 ∷ [])) ≡ answers 21 13 0
unfolding read_up_to tabled entities eols
no_name = refl

-- white space alone: the list `3 0` and an empty pool are wanted
blank : asked xml10 (32 ∷ 13 ∷ 10 ∷ []) ≡ answers 23 2 0
unfolding read_up_to tabled entities eols
blank = refl

-- U+0085 is no white space under 1.0
next_line_10 : asked xml10 (194 ∷ 133 ∷ []) ≡ answers 21 0 0
unfolding read_up_to tabled entities eols
next_line_10 = refl

-- and is under 1.1, as a line end
next_line_11 : asked xml11 (13 ∷ 194 ∷ 133 ∷ 226 ∷ 128 ∷ 168 ∷ []) ≡ answers 23 2 0
unfolding read_up_to tabled entities eols
next_line_11 = refl

-- a parameter entity: 21 at `%`
parameter : asked xml10 (keyword ++ 32 ∷ 37 ∷ 32 ∷ 97 ∷ []) ≡ answers 21 9 0
unfolding read_up_to tabled entities eols
parameter = refl

-- an external one: 21 at `SYSTEM`
external : asked xml10 (keyword ++ 32 ∷ 97 ∷ 32 ∷ 83 ∷ 89 ∷ 83 ∷ 84 ∷ 69 ∷ 77 ∷ []) ≡ answers 21 11 0
unfolding read_up_to tabled entities eols
external = refl

-- a byte order mark
mark : asked xml10 (239 ∷ 187 ∷ 191 ∷ []) ≡ answers 21 0 0
unfolding read_up_to tabled entities eols
mark = refl

-- all to the next `;` is the number
number_free : asked xml10 (value (38 ∷ 35 ∷ 49 ∷ 38 ∷ 35 ∷ 50 ∷ 59 ∷ 34 ∷ 62 ∷ [])) ≡ answers 13 0 0
unfolding read_up_to tabled entities eols
number_free = refl

-- 14 has the number
surrogate_number : asked xml10 (value (38 ∷ 35 ∷ 120 ∷ 68 ∷ 56 ∷ 48 ∷ 48 ∷ 59 ∷ 34 ∷ 62 ∷ [])) ≡ answers 14 55296 0
unfolding read_up_to tabled entities eols
surrogate_number = refl

-- offsets count CR LF once
after_line_ends : asked xml10 (13 ∷ 10 ∷ 120 ∷ []) ≡ answers 21 1 0
unfolding read_up_to tabled entities eols
after_line_ends = refl

-- white space has to stand between name and value
no_space : asked xml10 (keyword ++ 32 ∷ 97 ∷ 34 ∷ 120 ∷ 34 ∷ 62 ∷ []) ≡ answers 21 10 0
unfolding read_up_to tabled entities eols
no_space = refl

-- a name of 256 bytes that no white space follows: 21 before 22
long_bare : asked xml10 (keyword ++ 32 ∷ letters 256 (34 ∷ 120 ∷ 34 ∷ 62 ∷ [])) ≡ answers 21 265 0
unfolding read_up_to tabled entities eols
long_bare = refl

-- the same of the reader alone, in fewer steps
long_bare_name : declared_name (letters 256 (34 ∷ [])) ≡ departs (34 ∷ [])
unfolding declared_name
long_bare_name = refl

-- that white space follows: 22 at its end
long_name : asked xml10 (keyword ++ 32 ∷ letters 256 (32 ∷ 34 ∷ 120 ∷ 34 ∷ 62 ∷ [])) ≡ answers 22 265 0
unfolding read_up_to tabled entities eols
long_name = refl

-- `<` after the most declarations: 22 there, whatever follows
three : asked xml10 (value (120 ∷ 34 ∷ 62 ∷ value (34 ∷ 62 ∷ value (34 ∷ 62 ∷ 60 ∷ [])))) ≡ answers 22 43 0
unfolding read_up_to tabled entities eols
three = refl

-- the end: 21 there
unended : asked xml10 (value (120 ∷ 34 ∷ [])) ≡ answers 21 14 0
unfolding read_up_to tabled entities eols
unended = refl

-- two declarations
two : asked xml10 (value (120 ∷ 34 ∷ 62 ∷ 10 ∷ (keyword ++ 32 ∷ 98 ∷ 32 ∷ 39 ∷ 38 ∷ 97 ∷ 59 ∷ 39 ∷ 32 ∷ 62 ∷ []))) ≡ answers 23 26 6
unfolding read_up_to tabled entities eols
two = refl

-- a = `x`; a = `y`
abbrev twice : List Entity
twice = record { name = 97 ∷ []; value = 120 ∷ [] } ∷ record { name = 97 ∷ []; value = 121 ∷ [] } ∷ []

-- the first declaration of a name binds, in the declarations and in the table; then come the predefined ones
first_binds :
    (declared twice (97 ∷ []) ≡ text (120 ∷ []))
    × (binding (list_of twice) (pool_of twice) (97 ∷ []) ≡ text (120 ∷ []))
    × (declared twice (108 ∷ 116 ∷ []) ≡ predefined (60 ∷ []))
unfolding declared binding list_of pool_of
first_binds = (refl, refl, refl)

-- XML 1.0, 3.3.3: `d`, `a` and `da`
abbrev declarations_333 : List ℕ
declarations_333 =
    keyword ++ 32 ∷ 100 ∷ 32 ∷ 34 ∷ 38 ∷ 35 ∷ 120 ∷ 68 ∷ 59 ∷ 34 ∷ 62 ∷ 10
    ∷ keyword ++ 32 ∷ 97 ∷ 32 ∷ 34 ∷ 38 ∷ 35 ∷ 120 ∷ 65 ∷ 59 ∷ 34 ∷ 62 ∷ 10
    ∷ keyword ++ 32 ∷ 100 ∷ 97 ∷ 32 ∷ 34 ∷ 38 ∷ 35 ∷ 120 ∷ 68 ∷ 59 ∷ 38 ∷ 35 ∷ 120 ∷ 65 ∷ 59 ∷ 34 ∷ 62 ∷ 10 ∷ []

-- the list that is wanted
abbrev commands : List ℕ
commands =
    3 ∷ 1 ∷ 0 ∷ 0 ∷ 0 ∷ 0 ∷ 1 ∷ 1 ∷ 0 ∷ 0 ∷ 0 ∷ 1 ∷ 0
    ∷ 1 ∷ 2 ∷ 0 ∷ 0 ∷ 0 ∷ 1 ∷ 3 ∷ 0 ∷ 0 ∷ 0 ∷ 1 ∷ 0
    ∷ 1 ∷ 4 ∷ 0 ∷ 0 ∷ 0 ∷ 2 ∷ 6 ∷ 0 ∷ 0 ∷ 0 ∷ 2 ∷ 0 ∷ 0 ∷ []

-- a list of other bytes
abbrev sevens : ℕ → List ℕ
sevens zero = []
sevens (suc n) = 7 ∷ sevens n

-- list and pool whole, and what is behind them is kept
standard :
    read_up_to 3 xml10 declarations_333 (sevens 39) (8 ∷ 8 ∷ 8 ∷ 8 ∷ 8 ∷ 8 ∷ 8 ∷ 8 ∷ 8 ∷ [])
    ≡ called 0 (38 ∷ 8 ∷ []) ((commands ++ 7 ∷ []) ∷ (100 ∷ 13 ∷ 97 ∷ 10 ∷ 100 ∷ 97 ∷ 13 ∷ 10 ∷ 8 ∷ []) ∷ [])
unfolding read_up_to tabled entities eols
standard = refl
