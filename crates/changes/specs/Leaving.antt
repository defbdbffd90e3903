-- What the calls on a register leave, by their answer: an accepted change's second word is the used length (document 02, K10). Assumes nothing.
use Rattle.std.specs.Prelude.{ℕ, ◌≡◌, List, take}
use Rattle.text.specs.Call.{Called, call_of}
use Rattle.text.specs.Answers.{Answer}
use Rattle.text.specs.Answers.{Done, Refused}
use Rattle.register.specs.Entries.{Entry, Change, changed, recount}
use Rattle.register.specs.RegisterCalls.{lent, leaves}
use Rattle.register.specs.Places.{Stands, Sits, entries_in}

-- K10: the used length after a call; a refused call leaves it
abbrev pub used_after : Answer → ℕ → ℕ
used_after (Done first second) used = second
used_after (Refused number first second) used = used

abbrev pub leaving : Answer → ℕ → List ℕ → Called
leaving r used buffer = call_of r (lent buffer (used_after r used))

-- ---- terms in which the changes are proved; no promise of a call rests on these

-- the entries in the used bytes of a buffer
abbrev pub present : List ℕ → ℕ → List Entry
present buffer used = entries_in (take used buffer)

-- a register with these entries sits in the buffer
abbrev pub Seated : List ℕ → ℕ → Type 0
Seated buffer used = Sits buffer used (present buffer used)

-- answer and buffer are those of a change
abbrev pub Left : Answer → ℕ → List ℕ → List ℕ → Change → Type 0
Left r used buffer after change = leaving r used after ≡ leaves buffer used change

-- whichever form the entry at `at` has, its count is `n` now
abbrev pub Recounts : Answer → ℕ → ℕ → ℕ → List ℕ → List ℕ → Type 0
Recounts r used at n buffer after =
    (form : List ℕ) → Seated buffer used → Stands form (present buffer used) at → Left r used buffer after (changed n (recount form n (present buffer used)))
