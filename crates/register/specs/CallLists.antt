-- Lists of calls on one register, nothing else writing (document 02, K10). Assumes nothing.
use Rattle.std.specs.Prelude.{ℕ, ◌+◌, ◌-◌, ◌≤◌, ◌≡◌, Bool, true, false, ◌&&◌, List, [], ◌∷◌, ◌++◌, map, eqb, length, get_or, take}
use Rattle.text.specs.Bytes.{pick, same_bytes}
use Rattle.text.specs.Call.{Called, called}
use Rattle.register.specs.Entries.{Entry, cost, count_in, absent}
use Rattle.register.specs.Stored.{bytes_of, holds, register}
use Rattle.register.specs.RegisterCalls.{add_call, withdraw_call, count_call}

-- one of the three calls, with its form
pub data Asked : Type 0 where
  adds withdraws counts : List ℕ → Asked

-- what is lent to one call after the other
pub record Store : Type 0 where
  pub buffer : List ℕ
  pub used : ℕ

-- K10: an empty register
abbrev pub empty : List ℕ → Store
empty buffer = record { buffer = buffer; used = 0 }

unfoldable pub answered : Asked → Store → Called
unfolding add_call withdraw_call count_call
answered (adds f) s = add_call f s.buffer s.used
answered (withdraws f) s = withdraw_call f s.buffer s.used
answered (counts f) s = count_call f s.buffer s.used

-- what a call leaves of it; the count is lent nothing to write
abbrev pub left_by : Called → Store → Store
left_by (called number words []) s = s
left_by (called number words (b ∷ [])) s = s
left_by (called number words (b ∷ u ∷ more)) s = record { buffer = b; used = get_or u 0 0 }

abbrev pub number_of : Called → ℕ
number_of (called number words buffers) = number

abbrev pub first_of : Called → ℕ
first_of (called number words buffers) = get_or words 0 0

unfoldable pub after_calls : List Asked → Store → Store
unfolding answered
after_calls [] s = s
after_calls (c ∷ cs) s = after_calls cs (left_by (answered c s) s)

-- K10: the accepted calls of a kind
unfoldable pub accepted_of : (Asked → Bool) → List Asked → Store → ℕ
unfolding answered
accepted_of which [] s = 0
accepted_of which (c ∷ cs) s = pick (which c && eqb (number_of (answered c s)) 0) 1 0 + accepted_of which cs (left_by (answered c s) s)

abbrev pub is_add : List ℕ → Asked → Bool
is_add f (adds g) = same_bytes g f
is_add f (withdraws g) = false
is_add f (counts g) = false

abbrev pub is_withdrawal : List ℕ → Asked → Bool
is_withdrawal f (adds g) = false
is_withdrawal f (withdraws g) = same_bytes g f
is_withdrawal f (counts g) = false

abbrev pub forms : List Entry → List (List ℕ)
forms es = map (λ (e : Entry). e.form) es

unfoldable pub without : List ℕ → List (List ℕ) → List (List ℕ)
without f [] = []
without f (g ∷ gs) = let rest = without f gs in pick (same_bytes g f) gs (g ∷ rest)

-- K10: a form becomes present by an accepted add that counts 1, and goes by an accepted withdrawal that counts 0
unfoldable pub becoming : Asked → Called → List (List ℕ) → List (List ℕ)
unfolding without
becoming (adds f) r fs = pick (eqb (number_of r) 0 && eqb (first_of r) 1) (fs ++ (f ∷ [])) fs
becoming (withdraws f) r fs = pick (eqb (number_of r) 0 && eqb (first_of r) 0) (without f fs) fs
becoming (counts f) r fs = fs

-- K10: the present forms, in the order in which they became present
unfoldable pub became_by : List Asked → Store → List (List ℕ) → List (List ℕ)
unfolding answered becoming
became_by [] s fs = fs
became_by (c ∷ cs) s fs = became_by cs (left_by (answered c s) s) (becoming c (answered c s) fs)

-- K10: no call of the list answers this number
unfoldable pub None : ℕ → List Asked → Store → Type 0
unfolding answered
None number [] s = Unit {0}
None number (c ∷ cs) s = (number_of (answered c s) ≡ number → ⊥) × None number cs (left_by (answered c s) s)

-- K10: after every list of calls from an empty register there is a register. Each count is the accepted adds minus the accepted
-- withdrawals of that form, a form whose count is zero has no entry, the used length is the sum of the costs, the used bytes are those of
-- the entries, which stand in the order in which they became present, no call answered 28, and the buffer is as long as it was
pub record Replayed (buffer : List ℕ) (cs : List Asked) : Type 0 where
  pub present : List Entry
  pub is : register (after_calls cs (empty buffer)).buffer (after_calls cs (empty buffer)).used ≡ holds present
  pub counted : (g : List ℕ) → count_in g present ≡ accepted_of (is_add g) cs (empty buffer) - accepted_of (is_withdrawal g) cs (empty buffer)
  pub fewer : (g : List ℕ) → accepted_of (is_withdrawal g) cs (empty buffer) ≤ accepted_of (is_add g) cs (empty buffer)
  pub gone : (g : List ℕ) → count_in g present ≡ 0 → absent g present ≡ true
  pub costs : (after_calls cs (empty buffer)).used ≡ cost present
  pub bytes : take (after_calls cs (empty buffer)).used (after_calls cs (empty buffer)).buffer ≡ bytes_of present
  pub ordered : forms present ≡ became_by cs (empty buffer) []
  pub none28 : None 28 cs (empty buffer)
  pub size : length (after_calls cs (empty buffer)).buffer ≡ length buffer
