-- The check of a table and its declarations, one command after the other. Assumes nothing.
use mathlib.Core.Path.{◌≡◌, refl, ap, ap₂, sym, ◌∙◌}
use mathlib.Core.Logic.{◌≢◌}
use mathlib.Core.Bool.{Bool, true, false, true≢false}
use mathlib.Core.List.{List, [], ◌∷◌}
use Prim.Native.Nat.{ℕ, zero, suc, ◌+◌, ◌≤◌, ◌<◌, zero-le}
use native.Mathlib.Omega.{arith}
use native.Mathlib.Nat.{add-zero, zero-add}
use native.Mathlib.Numerals.{add-one}
use lib.Dec.{eqb, ltb, lit≤}
use lib.ListN.{length, get_or, drop, length-drop}
use lib.Seq.{drop-cons, drop-drop}
use borrow.Author.Tests.{lt-ltb, le-ltb, ne_eqb, ltb-true, ltb-false, eqb-true}
use Rattle.text.specs.Bytes.{pick}
use Rattle.text.specs.Call.{and_then, passed}
use Rattle.text.specs.Answers.{Answer}
use Rattle.text.specs.Answers.{Done, Refused}
use Rattle.entity.specs.Table.{Declaration, marked, mark_size, declares, declaration, declarations_from, runs_past, ill_formed, declaration_check, end_check, commands_check, size_check, table_check, operands}
use Rattle.entity.specs.Steps.{command_size, declaration_at, command_check, IsDone}

-- ---- answers that refuse nothing

pub is_done : {x : Answer} {first second : ℕ} → x ≡ Done first second → IsDone x
is_done e = rw e tt

pub passes : (t : Bool) (number at : ℕ) (x : Answer) → IsDone (pick t (Refused number at 0) x) → (t ≡ false) × IsDone x
passes true number at x h = absurd h
passes false number at x h = (refl, h)

pub both_done : (x y : Answer) → IsDone (and_then x y) → IsDone x × IsDone y
both_done (Done first second) y h = (tt, h)
both_done (Refused number first second) y h = absurd h

-- ---- commands

-- what is skipped is dropped
pub skip_check : (pool l : List ℕ) (offset skip : ℕ) → skip ≤ length l → commands_check pool offset skip l ≡ commands_check pool (offset + skip) 0 (drop skip l)
unfolding commands_check
skip_check pool l offset zero h = rw (add-zero offset)
skip_check pool [] offset (suc skip) h = absurd (omega arith)
skip_check pool (b ∷ bs) offset (suc skip) h =
    let q : suc offset + skip ≡ offset + suc skip = omega arith in
    skip_check pool bs (suc offset) skip (omega arith) ∙ rw q

pub skip_declarations : (l : List ℕ) (skip : ℕ) → declarations_from skip l ≡ declarations_from 0 (drop skip l)
unfolding declarations_from
skip_declarations l zero = refl
skip_declarations [] (suc skip) = refl
skip_declarations (b ∷ bs) (suc skip) = skip_declarations bs skip

-- the mark is a byte of the list, and its commands are those after it
pub mark_fits : (list : List ℕ) → mark_size list ≤ length list
unfolding mark_size
mark_fits [] = zero-le
mark_fits (b ∷ bs) = go (eqb b 3)
  where
    go : (t : Bool) → pick t 1 0 ≤ suc (length bs)
    go true = omega arith
    go false = omega arith

pub mark_is : (list : List ℕ) {t : Bool} → t ≡ marked list → pick t 1 0 ≡ mark_size list
unfolding mark_size
mark_is list e = ap (λ (x : Bool). pick x 1 0) e

pub past_mark : (list pool : List ℕ) → commands_check pool 0 (mark_size list) list ≡ commands_check pool (mark_size list) 0 (drop (mark_size list) list)
past_mark list pool = skip_check pool list 0 (mark_size list) (mark_fits list) ∙ rw (zero-add (mark_size list))

-- the rest is checked after the declaration
declaration_then : (pool : List ℕ) (at : ℕ) (d : Declaration) (rest : Answer) → declaration_check pool at d rest ≡ and_then (declaration_check pool at d passed) rest
unfolding declaration_check
declaration_then pool at d rest = go (runs_past pool d) (ill_formed pool d)
  where
    go : (t u : Bool) → pick t (Refused 8 at 0) (pick u (Refused 9 at 0) rest) ≡ and_then (pick t (Refused 8 at 0) (pick u (Refused 9 at 0) passed)) rest
    go true u = refl
    go false true = refl
    go false false = refl

-- a byte that begins no declaration, and one that does
pub no_end : (b : ℕ) → declares b ≡ true → eqb b 0 ≡ false
unfolding declares
no_end b e = go (eqb b 0) refl
  where
    go : (t : Bool) → eqb b 0 ≡ t → eqb b 0 ≡ false
    go true z = absurd (true≢false (sym e ∙ ap declares (eqb-true b 0 z)))
    go false z = z

head_declared : (b : ℕ) (bs : List ℕ) → declares b ≡ true → declarations_from 0 (b ∷ bs) ≡ declaration b bs ∷ declarations_from (operands b) bs
unfolding declarations_from
head_declared b bs is = go (declares b) is
  where
    go : (t : Bool) → t ≡ true → pick t (declaration b bs ∷ declarations_from (operands b) bs) [] ≡ declaration b bs ∷ declarations_from (operands b) bs
    go true e = refl
    go false e = absurd (true≢false (sym e))

module _ (pool : List ℕ) (at b : ℕ) (bs : List ℕ) (is : declares b ≡ true) where
  abbrev later : Answer
  later = commands_check pool (suc at) (operands b) bs

  abbrev whole_check : Answer
  whole_check = pick (ltb (length bs) (operands b)) (Refused 7 at 0) (declaration_check pool at (declaration b bs) later)

  pub head_checked : commands_check pool at 0 (b ∷ bs) ≡ whole_check
  unfolding commands_check
  head_checked = go (eqb b 0) (no_end b is) (declares b) is
    where
      go : (z : Bool) → z ≡ false → (t : Bool) → t ≡ true → pick z (end_check bs (suc at)) (pick t whole_check (Refused 7 at 0)) ≡ whole_check
      go true e t k = absurd (true≢false e)
      go false e true k = refl
      go false e false k = absurd (true≢false (sym k))

-- a declaration at `at`, and what comes after it
module _ (list pool : List ℕ) (at : ℕ) (in_list : at < length list) (is : declares (get_or list at 0) ≡ true) where
  abbrev b : ℕ
  b = get_or list at 0

  abbrev next : ℕ
  next = at + command_size b

  here : drop at list ≡ b ∷ drop (at + 1) list
  here = rw (add-one at) (drop-cons list at 0 in_list)

  size : at + 1 + operands b ≡ next
  unfolding command_size
  size = omega arith

  behind : drop (operands b) (drop (at + 1) list) ≡ drop next list
  behind = drop-drop (operands b) (at + 1) list ∙ ap (λ (n : ℕ). drop n list) size

  pub next_declaration : declarations_from 0 (drop at list) ≡ declaration_at list at ∷ declarations_from 0 (drop next list)
  unfolding declaration_at
  next_declaration =
      ap (declarations_from 0) here ∙ head_declared b (drop (at + 1) list) is
      ∙ ap (λ (ds : List Declaration). declaration b (drop (at + 1) list) ∷ ds)
      (skip_declarations (drop (at + 1) list) (operands b) ∙ ap (declarations_from 0) behind)

  abbrev checked : Answer
  checked = pick (ltb (length (drop (at + 1) list)) (operands b)) (Refused 7 at 0)
      (declaration_check pool at (declaration_at list at) (commands_check pool (suc at) (operands b) (drop (at + 1) list)))

  -- the rest is checked from the next command on, where the operands are not cut
  rest : next ≤ length list → commands_check pool (suc at) (operands b) (drop (at + 1) list) ≡ commands_check pool next 0 (drop next list)
  rest h =
      let q : suc at + operands b ≡ next = omega (arith, size) in
      skip_check pool (drop (at + 1) list) (suc at) (operands b) (omega (arith, length-drop (at + 1) list, size))
      ∙ ap₂ (λ (n : ℕ) (l : List ℕ). commands_check pool n 0 l) q behind

  whole : next ≤ length list → checked ≡ and_then (command_check list pool at) (commands_check pool next 0 (drop next list))
  unfolding command_check
  whole h =
      let short : ltb (length (drop (at + 1) list)) (operands b) ≡ false = le-ltb (length (drop (at + 1) list)) (operands b) (omega (arith, length-drop (at + 1) list, size)) in
      let fits : ltb (length list) next ≡ false = le-ltb _ _ h in
      rw (short, fits, rest h) (declaration_then pool at (declaration_at list at) (commands_check pool next 0 (drop next list)))

  cut : length list < next → checked ≡ and_then (command_check list pool at) (commands_check pool next 0 (drop next list))
  unfolding command_check
  cut h =
      let short : ltb (length (drop (at + 1) list)) (operands b) ≡ true = lt-ltb (length (drop (at + 1) list)) (operands b) (omega (arith, length-drop (at + 1) list, size)) in
      let past : ltb (length list) next ≡ true = lt-ltb _ _ h in
      rw (short, past)

  pub next_check : commands_check pool at 0 (drop at list) ≡ and_then (command_check list pool at) (commands_check pool next 0 (drop next list))
  unfolding declaration_at
  next_check = ap (commands_check pool at 0) here ∙ head_checked pool at b (drop (at + 1) list) is ∙ go (ltb (length list) next) refl
    where
      go : (t : Bool) → ltb (length list) next ≡ t → checked ≡ and_then (command_check list pool at) (commands_check pool next 0 (drop next list))
      go true e = cut (ltb-true _ _ e)
      go false e = whole (ltb-false _ _ e)

-- how wide commands 1 and 2 are, and that they declare
pub size_one : {b : ℕ} → b ≡ 1 → 12 ≡ command_size b
unfolding command_size
size_one {b} e = sym (ap command_size e)

pub size_other : {b : ℕ} → b ≢ 1 → 6 ≡ command_size b
unfolding command_size
size_other {b} other = rw (ne_eqb b 1 other)

pub declares_one : {b : ℕ} → b ≡ 1 → declares b ≡ true
unfolding declares
declares_one {b} e = ap declares e

pub size_some : (b : ℕ) → 6 ≤ command_size b
unfolding command_size
size_some b = go (eqb b 1)
  where
    go : (t : Bool) → 6 ≤ suc (pick t 11 5)
    go true = lit≤ tt
    go false = lit≤ tt

-- a command that is not refused has its operands, and its parts lie in the pool
pub command_done : (list pool : List ℕ) (at : ℕ) → IsDone (command_check list pool at)
    → (at + command_size (get_or list at 0) ≤ length list) × (runs_past pool (declaration_at list at) ≡ false) × (ill_formed pool (declaration_at list at) ≡ false)
unfolding command_check declaration_check
command_done list pool at h =
    let next = at + command_size (get_or list at 0) in
    let p = passes (ltb (length list) next) 7 at (declaration_check pool at (declaration_at list at) passed) h in
    let q = passes (runs_past pool (declaration_at list at)) 8 at (pick (ill_formed pool (declaration_at list at)) (Refused 9 at 0) passed) p.1 in
    (ltb-false (length list) next p.0, q.0, (passes (ill_formed pool (declaration_at list at)) 9 at passed q.1).0)

pub long_list : (list pool : List ℕ) → 49154 < length list → Refused 6 0 0 ≡ table_check list pool
unfolding table_check size_check
long_list list pool h = rw (lt-ltb 49154 (length list) h)
