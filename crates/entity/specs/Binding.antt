-- What a name is bound to (document 01, Entity table; document 02, K9; XML 1.0, 4.2 and 4.6). Assumes nothing.
use Rattle.std.specs.Prelude.{ℕ, ◌+◌, ◌-◌, ◌≤◌, ◌<◌, List, [], ◌∷◌, length}
use Rattle.text.specs.Bytes.{pick, same_bytes}
use Rattle.text.specs.Utf8.{WellFormed}
use Rattle.entity.specs.Table.{Body, inside, outside, Declaration, name_of, text_of, part, declarations}
use Rattle.entity.specs.declared.Binding.{Binding}
use Rattle.entity.specs.declared.Binding.TheVariants.{Text, Predefined, External, Unknown}

-- Entity table: a text of the table, one of the five predefined texts, or nothing; K9: or an external entity
pub data Bound : Type 0 where
  text : List ℕ → Bound
  predefined : List ℕ → Bound
  external : Bound
  unknown : Bound

-- XML 1.0, 4.6: lt gt amp apos quot
unfoldable pub predefined_of : List ℕ → Bound
predefined_of name =
    pick (same_bytes name (108 ∷ 116 ∷ [])) (predefined (60 ∷ []))
    (pick (same_bytes name (103 ∷ 116 ∷ [])) (predefined (62 ∷ []))
    (pick (same_bytes name (97 ∷ 109 ∷ 112 ∷ [])) (predefined (38 ∷ []))
    (pick (same_bytes name (97 ∷ 112 ∷ 111 ∷ 115 ∷ [])) (predefined (39 ∷ []))
    (pick (same_bytes name (113 ∷ 117 ∷ 111 ∷ 116 ∷ [])) (predefined (34 ∷ []))
    unknown))))

-- a declaration's body as what its name is bound to
unfoldable pub body_bound : List ℕ → Body → Bound
unfolding text_of
body_bound pool (inside start size) = text (text_of pool (inside start size))
body_bound pool outside = external

-- XML 1.0, 4.2: the first declaration binds
unfoldable pub binding_in : List Declaration → List ℕ → List ℕ → Bound
unfolding name_of body_bound predefined_of
binding_in [] pool name = predefined_of name
binding_in (d ∷ ds) pool name = let rest = binding_in ds pool name in pick (same_bytes (name_of pool d) name) (body_bound pool d.body) rest

-- Entity table: what a lookup returns
unfoldable pub binding : List ℕ → List ℕ → List ℕ → Bound
unfolding binding_in declarations
binding list pool name = binding_in (declarations list) pool name

-- what each case of the code's `Binding` stands for: the pool's bytes from start to end, the byte of a predefined text, an
-- external entity, nothing
unfoldable pub bound_to : List ℕ → Binding → Bound
unfolding part
bound_to pool (Text start end) = text (part pool start (end - start))
bound_to pool (Predefined b) = predefined (b ∷ [])
bound_to pool External = external
bound_to pool Unknown = unknown

-- a text of the table lies in the pool and is at most 65,535 bytes long; a predefined one is an ASCII byte
abbrev pub Lies : List ℕ → Binding → Type 0
Lies pool (Text start end) = (start ≤ end) × (end ≤ length pool) × (end ≤ start + 65535)
Lies pool (Predefined b) = b < 128
Lies pool External = Unit {0}
Lies pool Unknown = Unit {0}

-- the same of what a name is bound to
abbrev pub ShortBound : Bound → Type 0
ShortBound (text t) = length t ≤ 65535
ShortBound (predefined t) = length t ≤ 1
ShortBound external = Unit {0}
ShortBound unknown = Unit {0}

abbrev pub GoodBound : Bound → Type 0
GoodBound (text t) = WellFormed t
GoodBound (predefined t) = WellFormed t
GoodBound external = Unit {0}
GoodBound unknown = Unit {0}
