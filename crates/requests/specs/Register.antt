-- K10, panel names on the table (document 02), stated of the calls. Assumes nothing.
use Rattle.std.specs.Prelude.{◌≡◌, ℕ, ◌+◌, ◌<◌, List, [], ◌∷◌, length}
use Rattle.text.specs.Call.{called}
use Rattle.register.specs.Entries.{Entry, largest_count}
use Rattle.register.specs.Stored.{holds, register}
use Rattle.govlezna.specs.Calls.{register_count_call}

-- K10: the used bytes of a buffer are a register, with these entries
pub record Present (buffer : List ℕ) (used : ℕ) : Type 0 where
  pub present : List Entry
  pub held : register buffer used ≡ holds present

-- K10: the form's count, by the call for it
abbrev pub Counts : List ℕ → List ℕ → ℕ → ℕ → Type 0
Counts form buffer used n = register_count_call form buffer used ≡ called 0 (n ∷ 0 ∷ []) []

-- K10, 30: "when a new form would push the cost past the buffer or a count would pass 4,294,967,295"
pub data Full (form buffer : List ℕ) (used : ℕ) : Type 0 where
  no_room : Counts form buffer used 0 → length buffer < used + (8 + length form) → Full form buffer used
  at_most : Counts form buffer used largest_count → Full form buffer used
