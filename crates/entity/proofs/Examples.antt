-- Refusals and bindings of small tables, by computation. Assumes nothing.
use mathlib.Core.Path.{◌≡◌, refl}
use mathlib.Core.List.{List, [], ◌∷◌}
use Prim.Native.Nat.{ℕ}
use Rattle.text.specs.Answers.{Done, Refused}
use Rattle.entity.specs.Table.{table_check}
use Rattle.entity.specs.Binding.{text, predefined, external, unknown, binding}

-- document 01, refusal 7: no end, bytes after the end, an unknown command, cut operands
ends : (table_check [] [] ≡ Refused 7 0 0)
    × (table_check (0 ∷ 0 ∷ []) [] ≡ Refused 7 1 0)
    × (table_check (4 ∷ []) [] ≡ Refused 7 0 0)
    × (table_check (1 ∷ 0 ∷ 0 ∷ 0 ∷ []) [] ≡ Refused 7 0 0)
unfolding table_check
ends = (refl, refl, refl, refl)

-- checks run command by command: an empty name at 0 comes before the end that is missing at 12
empty_name : table_check (1 ∷ 0 ∷ 0 ∷ 0 ∷ 0 ∷ 0 ∷ 0 ∷ 0 ∷ 0 ∷ 0 ∷ 0 ∷ 0 ∷ []) [] ≡ Refused 9 0 0
unfolding table_check
empty_name = refl

-- refusal 8: a start past the pool, with length 0 too
past : table_check (1 ∷ 1 ∷ 0 ∷ 0 ∷ 0 ∷ 0 ∷ 0 ∷ 0 ∷ 0 ∷ 0 ∷ 0 ∷ 0 ∷ 0 ∷ []) [] ≡ Refused 8 0 0
unfolding table_check
past = refl

-- e = C2 BD, then e = `e`; amp = `X`
abbrev list : List ℕ
list =
    1 ∷ 0 ∷ 0 ∷ 0 ∷ 0 ∷ 1 ∷ 1 ∷ 0 ∷ 0 ∷ 0 ∷ 2 ∷ 0
    ∷ 1 ∷ 0 ∷ 0 ∷ 0 ∷ 0 ∷ 1 ∷ 0 ∷ 0 ∷ 0 ∷ 0 ∷ 1 ∷ 0
    ∷ 1 ∷ 3 ∷ 0 ∷ 0 ∷ 0 ∷ 3 ∷ 6 ∷ 0 ∷ 0 ∷ 0 ∷ 1 ∷ 0
    ∷ 0 ∷ []

abbrev pool : List ℕ
pool = 101 ∷ 0xC2 ∷ 0xBD ∷ 97 ∷ 109 ∷ 112 ∷ 88 ∷ []

valid : table_check list pool ≡ Done 3 0
unfolding table_check
valid = refl

-- a text that is not UTF-8: its first command is refused
not_utf8 : table_check list (101 ∷ 0xC2 ∷ 0x20 ∷ 97 ∷ 109 ∷ 112 ∷ 88 ∷ []) ≡ Refused 9 0 0
unfolding table_check
not_utf8 = refl

-- the first text of e, `X` for amp, `<` for lt, and a name that nothing binds
bound : (binding list pool (101 ∷ []) ≡ text (0xC2 ∷ 0xBD ∷ []))
    × (binding list pool (97 ∷ 109 ∷ 112 ∷ []) ≡ text (88 ∷ []))
    × (binding list pool (108 ∷ 116 ∷ []) ≡ predefined (60 ∷ []))
    × (binding list pool (102 ∷ []) ≡ unknown)
unfolding binding
bound = (refl, refl, refl, refl)

-- ---- K9: command 2

-- cut operands, with the command's offset: after 3 bytes, and at the 6th; a list of one command 2 that is whole
external_cut : (table_check (2 ∷ 0 ∷ 0 ∷ []) (101 ∷ []) ≡ Refused 7 0 0)
    × (table_check (2 ∷ 0 ∷ 0 ∷ 0 ∷ 0 ∷ []) (101 ∷ []) ≡ Refused 7 0 0)
    × (table_check (2 ∷ 0 ∷ 0 ∷ 0 ∷ 0 ∷ 1 ∷ 0 ∷ []) (101 ∷ []) ≡ Done 1 0)
    × (table_check (2 ∷ 0 ∷ 0 ∷ 0 ∷ 0 ∷ 1 ∷ 2 ∷ 0 ∷ []) (101 ∷ []) ≡ Refused 7 6 0)
unfolding table_check
external_cut = (refl, refl, refl, refl)

-- refusals 8 and 9 of its name: past the pool, with an empty name too; empty; not UTF-8
external_name : (table_check (2 ∷ 0 ∷ 0 ∷ 0 ∷ 0 ∷ 2 ∷ 0 ∷ []) (101 ∷ []) ≡ Refused 8 0 0)
    × (table_check (2 ∷ 2 ∷ 0 ∷ 0 ∷ 0 ∷ 0 ∷ 0 ∷ []) (101 ∷ []) ≡ Refused 8 0 0)
    × (table_check (2 ∷ 0 ∷ 0 ∷ 0 ∷ 0 ∷ 0 ∷ 0 ∷ []) (101 ∷ []) ≡ Refused 9 0 0)
    × (table_check (2 ∷ 0 ∷ 0 ∷ 0 ∷ 0 ∷ 1 ∷ 0 ∷ []) (0xC2 ∷ []) ≡ Refused 9 0 0)
unfolding table_check
external_name = (refl, refl, refl, refl)

-- pool `exlt`: e external, then e = `x`; e = `x`, then e external; lt external
abbrev drawn : List ℕ
drawn = 101 ∷ 120 ∷ 108 ∷ 116 ∷ []

abbrev outer_first : List ℕ
outer_first = 2 ∷ 0 ∷ 0 ∷ 0 ∷ 0 ∷ 1 ∷ 1 ∷ 0 ∷ 0 ∷ 0 ∷ 0 ∷ 1 ∷ 1 ∷ 0 ∷ 0 ∷ 0 ∷ 1 ∷ 0 ∷ 0 ∷ []

abbrev inner_first : List ℕ
inner_first = 1 ∷ 0 ∷ 0 ∷ 0 ∷ 0 ∷ 1 ∷ 1 ∷ 0 ∷ 0 ∷ 0 ∷ 1 ∷ 0 ∷ 2 ∷ 0 ∷ 0 ∷ 0 ∷ 0 ∷ 1 ∷ 2 ∷ 2 ∷ 0 ∷ 0 ∷ 0 ∷ 2 ∷ 0 ∷ []

-- both count as definitions, and the first binds in both directions
external_binds : (table_check outer_first drawn ≡ Done 2 0)
    × (table_check inner_first drawn ≡ Done 3 0)
    × (binding outer_first drawn (101 ∷ []) ≡ external)
    × (binding inner_first drawn (101 ∷ []) ≡ text (120 ∷ []))
    × (binding outer_first drawn (108 ∷ 116 ∷ []) ≡ predefined (60 ∷ []))
    × (binding inner_first drawn (108 ∷ 116 ∷ []) ≡ external)
unfolding table_check binding
external_binds = (refl, refl, refl, refl, refl, refl)

-- ---- K4: command 3

-- the empty marked table; the mark alone; twice; after a command 1 that is good
mark_places : (table_check (3 ∷ 0 ∷ []) [] ≡ Done 0 0)
    × (table_check (3 ∷ []) [] ≡ Refused 7 1 0)
    × (table_check (3 ∷ 3 ∷ 0 ∷ []) [] ≡ Refused 7 1 0)
    × (table_check (1 ∷ 0 ∷ 0 ∷ 0 ∷ 0 ∷ 1 ∷ 1 ∷ 0 ∷ 0 ∷ 0 ∷ 1 ∷ 0 ∷ 3 ∷ 0 ∷ []) drawn ≡ Refused 7 12 0)
unfolding table_check
mark_places = (refl, refl, refl, refl)

-- offsets count the mark: bytes after the end, cut operands, a name past the pool, an empty name
mark_offsets : (table_check (3 ∷ 0 ∷ 0 ∷ []) [] ≡ Refused 7 2 0)
    × (table_check (3 ∷ 1 ∷ 0 ∷ []) [] ≡ Refused 7 1 0)
    × (table_check (3 ∷ 2 ∷ 0 ∷ 0 ∷ 0 ∷ 0 ∷ 2 ∷ 0 ∷ []) (101 ∷ []) ≡ Refused 8 1 0)
    × (table_check (3 ∷ 1 ∷ 0 ∷ 0 ∷ 0 ∷ 0 ∷ 0 ∷ 0 ∷ 0 ∷ 0 ∷ 0 ∷ 0 ∷ 0 ∷ 0 ∷ []) [] ≡ Refused 9 1 0)
unfolding table_check
mark_offsets = (refl, refl, refl, refl)

-- the mark is no definition, and binds nothing
mark_binds : (table_check (3 ∷ inner_first) drawn ≡ Done 3 0)
    × (binding (3 ∷ inner_first) drawn (101 ∷ []) ≡ text (120 ∷ []))
    × (binding (3 ∷ inner_first) drawn (108 ∷ 116 ∷ []) ≡ external)
    × (binding (3 ∷ 0 ∷ []) [] (108 ∷ 116 ∷ []) ≡ predefined (60 ∷ []))
unfolding table_check binding
mark_binds = (refl, refl, refl, refl)
