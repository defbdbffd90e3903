-- The filter of fingerprints, and entries whose forms do not stand before them: terms in which the check for repeats is proved. No promise
-- of a call rests on these. Assumes nothing.
use Rattle.std.specs.Prelude.{◌≡◌, ℕ, zero, suc, ◌+◌, ◌-◌, ◌/◌, ◌%◌, Bool, true, false, List, [], ◌∷◌, ◌++◌, length, take, drop, ◌==◌, slice_index}
use Rattle.text.specs.Bytes.{pick}
use Rattle.register.specs.Entries.{Entry, absent, distinct}
use Rattle.register.specs.Stored.{u32_at}
use Rattle.register.specs.Places.{Absent, entries_in}
use Rattle.repeats.specs.Hash.{hash_of, share, in_class}

-- do so many places from k on hold the fingerprint before the first free one, or none that is free?
unfoldable pub meets : ℕ → List ℕ → ℕ → ℕ → Bool
meets zero table k print = true
meets (suc n) table k print =
    let rest = meets n table (k + 1) print in
    pick (slice_index table k == 0) false (pick (slice_index table k == print) true rest)

-- a table that was asked for a fingerprint, and holds it now: it was there just where the answer is true, and nothing is lost
pub record Seen (table : List ℕ) (home print : ℕ) (after : List ℕ) (r : Bool) : Type 0 where
  pub size : length after ≡ length table
  pub kept : (k p : ℕ) → meets 128 table k p ≡ true → meets 128 after k p ≡ true
  pub there : meets 128 after home print ≡ true
  pub told : meets 128 table home print ≡ true → r ≡ true

abbrev pub home_of : List ℕ → ℕ → ℕ
home_of table hash = share (hash % 0x100000000) (length table - 128)

abbrev pub print_of : ℕ → ℕ
print_of hash = hash / 0x100000000 % 0xFFFF + 1

-- the table has the hash, or may have it
abbrev pub Has : List ℕ → ℕ → Type 0
Has table hash = meets 128 table (home_of table hash) (print_of hash) ≡ true

-- the same of a hash
pub record Suspected (table : List ℕ) (hash : ℕ) (after : List ℕ) (r : Bool) : Type 0 where
  pub size : length after ≡ length table
  pub kept : (h : ℕ) → Has table h → Has after h
  pub there : Has after hash
  pub told : Has table hash → r ≡ true

-- the form of the entry at `at`
abbrev pub form_at : List ℕ → ℕ → List ℕ
form_at register at = take (u32_at register at) (drop (at + 8) register)

-- the form at `at` as one of a class: the table has it then, and loses none; where the answer is true the form stands before its entry, and
-- where it is false it does not, if the table had every form of the class that does
pub record Sifted (register : List ℕ) (at class classes : ℕ) (table after : List ℕ) (r : Bool) : Type 0 where
  pub size : length after ≡ length table
  pub kept : (h : ℕ) → Has table h → Has after h
  pub there : in_class class classes (form_at register at) ≡ true → Has after (hash_of (form_at register at))
  pub told : r ≡ true → absent (form_at register at) (entries_in (take at register)) ≡ false
  pub fresh : r ≡ false → in_class class classes (form_at register at) ≡ true
      → (absent (form_at register at) (entries_in (take at register)) ≡ false → Has table (hash_of (form_at register at)))
      → absent (form_at register at) (entries_in (take at register)) ≡ true

-- of the entries after these, those that pass the test have forms that stand in none before them
abbrev pub Clear : (List ℕ → Bool) → List Entry → List Entry → Type 0
Clear test before [] = Unit {0}
Clear test before (e ∷ es) = (test e.form ≡ true → Absent e.form before) × Clear test (before ++ (e ∷ [])) es

-- what a pass over one class tells
pub record Passes (register : List ℕ) (class classes : ℕ) (r : Bool) : Type 0 where
  pub repeats : r ≡ true → distinct (entries_in register) ≡ false
  pub clear : r ≡ false → Clear (in_class class classes) [] (entries_in register)
