-- A table with two definitions of `e` and the external entity `x`, and its index of nine words, slot by slot: `e` is found where it was defined
-- first. Assumes nothing.
use Rattle.std.proofs.Common.{◌≡◌, ℕ, ◌+◌, ◌<◌, ◌≢◌, List, [], ◌∷◌, set, replicate, refl, subst, arith}
use Rattle.entity.specs.Table.{little_endian, part, mark_size, declares, table_check, ValidTable}
use Rattle.entity.specs.Binding.{predefined_of, binding}
use Rattle.entity.specs.Commands.{Refers}
use Rattle.entity.specs.Steps.{command_size}
use Rattle.entity.specs.declared.Referent.TheVariants.{Text, External}
use Rattle.table_index.specs.NameHash.{hash_of}
use Rattle.table_index.specs.Index.{Passed, Indexes, digit, slot_of, home_of, built_state, Whole, Ready}
use Rattle.table_index.proofs.Filing.{index_none, index_more}
use Rattle.table_index.proofs.Finding.{probing_none, index_hit, index_miss}
use Rattle.table_index.proofs.PackedSlots.{slot_filled}
use Rattle.table_index.proofs.IndexStates.{ready_zeros, ready_built}

-- e = C2 BD, then e = `e`; x is external
abbrev list : List ℕ
list =
    1 ∷ 0 ∷ 0 ∷ 0 ∷ 0 ∷ 1 ∷ 1 ∷ 0 ∷ 0 ∷ 0 ∷ 2 ∷ 0
    ∷ 1 ∷ 0 ∷ 0 ∷ 0 ∷ 0 ∷ 1 ∷ 0 ∷ 0 ∷ 0 ∷ 0 ∷ 1 ∷ 0
    ∷ 2 ∷ 3 ∷ 0 ∷ 0 ∷ 0 ∷ 1
    ∷ 0 ∷ []

abbrev pool : List ℕ
pool = 101 ∷ 0xC2 ∷ 0xBD ∷ 120 ∷ []

valid : ValidTable list pool
unfolding table_check
valid = refl

-- the homes of e, x and f among 32 slots
abbrev home : List ℕ → ℕ
home = home_of 9

homes : (home (101 ∷ []) ≡ 0) × (home (120 ∷ []) ≡ 12) × (home (102 ∷ []) ≡ 10)
unfolding hash_of
homes = (refl, refl, refl)

-- ---- the words: no command, then one more at a time

abbrev none : List ℕ
none = replicate 9 0

abbrev one : List ℕ
one = set none 1 1

abbrev two : List ℕ
two = set one 1 0xD0001

abbrev three : List ℕ
three = set two 4 25

one_passed : Passed list 12 (0 ∷ [])
unfolding mark_size declares command_size
one_passed = (refl, refl, refl)

two_passed : Passed list 24 (12 ∷ 0 ∷ [])
unfolding mark_size declares command_size
two_passed = (one_passed, refl, refl)

three_passed : Passed list 30 (24 ∷ 12 ∷ 0 ∷ [])
unfolding mark_size declares command_size
three_passed = (two_passed, refl, refl)

one_indexed : Indexes list pool home (slot_of one) (0 ∷ [])
unfolding hash_of part little_endian digit mark_size
one_indexed =
    let empty : (s : ℕ) → slot_of none s ≡ 0 = (ready_zeros list pool 9 (omega arith) (omega arith)).empty (omega arith) in
    let filled = slot_filled none 0 0 {w = 1} {v = 1} (omega arith) (omega arith) refl refl refl in
    index_more list pool home (slot_of none) 0 [] refl (index_none list pool home (slot_of none) empty) 0 (omega arith) (λ i l. absurd (omega (arith, l))) (slot_of one) filled

-- the second definition stands after the first
first_taken : (i : ℕ) → i < 1 → slot_of one (0 + i) ≢ 0
unfolding digit
first_taken i l = let q : 0 ≡ i = omega (arith, l) in subst (λ (n : ℕ). slot_of one (0 + n) ≢ 0) q (λ e. absurd (omega (arith, e)))

two_indexed : Indexes list pool home (slot_of two) (12 ∷ 0 ∷ [])
unfolding hash_of part little_endian digit
two_indexed =
    let filled = slot_filled one 1 12 {w = 1} {v = 0xD0001} (omega arith) (omega arith) refl refl refl in
    index_more list pool home (slot_of one) 12 (0 ∷ []) one_passed one_indexed 1 (omega arith) first_taken (slot_of two) filled

three_indexed : Indexes list pool home (slot_of three) (24 ∷ 12 ∷ 0 ∷ [])
unfolding hash_of part little_endian digit
three_indexed =
    let filled = slot_filled two 12 24 {w = 4} {v = 25} (omega arith) (omega arith) refl refl refl in
    index_more list pool home (slot_of two) 24 (12 ∷ 0 ∷ []) two_passed two_indexed 0 (omega arith) (λ i l. absurd (omega (arith, l))) (slot_of three) filled

built : Ready list pool (set three 0 built_state)
unfolding declares
built =
    let whole : Whole list pool three = record { end = 30; commands = 24 ∷ 12 ∷ 0 ∷ []; passed = three_passed; over = refl; indexes = three_indexed } in
    ready_built list pool three built_state (record { least = omega arith; large = omega arith }) refl whole

-- ---- lookups by it

-- e is bound to the text of the first command
first_found : Refers list pool (101 ∷ []) (Text 0 1 3)
unfolding hash_of part little_endian digit
first_found =
    index_hit list pool home (slot_of three) (101 ∷ []) valid 30 (24 ∷ 12 ∷ 0 ∷ []) three_passed three_indexed 0 (omega arith)
    (probing_none list pool home (slot_of three) (101 ∷ [])) 0 refl refl (Text 0 1 3) (refl, refl, refl, refl, omega arith)

external_found : Refers list pool (120 ∷ []) External
unfolding hash_of part little_endian digit
external_found =
    index_hit list pool home (slot_of three) (120 ∷ []) valid 30 (24 ∷ 12 ∷ 0 ∷ []) three_passed three_indexed 0 (omega arith)
    (probing_none list pool home (slot_of three) (120 ∷ [])) 24 refl refl External (λ e. absurd (omega (arith, e)))

-- no command has f: the slot at its home is empty
none_found : predefined_of (102 ∷ []) ≡ binding list pool (102 ∷ [])
unfolding hash_of digit declares
none_found =
    index_miss list pool home (slot_of three) (102 ∷ []) valid 30 (24 ∷ 12 ∷ 0 ∷ []) three_passed three_indexed 0 (omega arith)
    (probing_none list pool home (slot_of three) (102 ∷ [])) refl refl
