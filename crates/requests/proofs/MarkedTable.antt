-- K4, of the table: a mark before a list changes nothing of its check but the offsets, which count it (`k4_accepted`, `k4_refused`), nothing of
-- its bindings (`k4_binds`) and of unescaping (`k4_unescape`); anywhere but first it is 7 with its offset (`k4_middle`). Assumes nothing.
use mathlib.Core.Path.{◌≡◌, refl, sym, ap, ◌∙◌}
use mathlib.Core.Logic.{◌≢◌}
use Prim.Native.Nat.{ℕ, zero, suc, ◌+◌, ◌≤◌, ◌<◌}
use native.Mathlib.Omega.{arith}
use native.Mathlib.Nat.{zero-add, add-zero}
use mathlib.Core.Bool.{Bool, true, false, ◌||◌}
use mathlib.Core.List.{List, [], ◌∷◌, ◌++◌}
use lib.Dec.{eqb, ltb}
use lib.ListN.{length, length-append, get_or-append}
use borrow.Author.Tests.{le-ltb}
use Rattle.text.specs.Bytes.{pick}
use Rattle.text.specs.Call.{called, call_of, and_then, passed, guarded, text_check}
use Rattle.text.specs.Answers.{Answer}
use Rattle.text.specs.Answers.{Done, Refused}
use Rattle.entity.specs.Table.{little_endian, marked, declares, declaration, operands, Declaration, declarations, runs_past, ill_formed, declaration_check, end_check, commands_check, size_check, table_check}
use Rattle.entity.specs.Binding.{binding_in, binding}
use Rattle.tokens.specs.Outcome.{finished}
use Rattle.unescape.specs.Unescape.{unescape}
use Rattle.govlezna.specs.Calls.{check_table_call, unescape_call}
use Rattle.demands.proofs.CallDemands.{table_valid}

-- ---- offsets count the mark

-- a refusal one byte later
abbrev later : Answer → Answer
later (Done first second) = Done first second
later (Refused why first second) = Refused why (suc first) second

later_pick : (t : Bool) (a b : Answer) {x y : Answer} → x ≡ later a → y ≡ later b → pick t x y ≡ later (pick t a b)
later_pick true a b p q = p
later_pick false a b p q = q

end_later : (bs : List ℕ) (offset : ℕ) → end_check bs (suc offset) ≡ later (end_check bs offset)
unfolding end_check
end_later [] offset = refl
end_later (b ∷ bs) offset = refl

commands_later : (pool : List ℕ) (offset skip : ℕ) (list : List ℕ) → commands_check pool (suc offset) skip list ≡ later (commands_check pool offset skip list)
unfolding commands_check declaration_check
commands_later pool offset skip [] = refl
commands_later pool offset (suc skip) (b ∷ bs) = commands_later pool (suc offset) skip bs
commands_later pool offset zero (b ∷ bs) =
    let rest = commands_check pool (suc offset) (operands b) bs in
    let d = declaration b bs in
    let past = runs_past pool d in
    let ill = ill_formed pool d in
    let cut = ltb (length bs) (operands b) in
    let nine : Answer = pick ill (Refused 9 offset 0) rest in
    let eight : Answer = pick past (Refused 8 offset 0) nine in
    let seven : Answer = pick cut (Refused 7 offset 0) eight in
    later_pick (eqb b 0) (end_check bs (suc offset)) (pick (declares b) seven (Refused 7 offset 0)) (end_later bs (suc offset))
    (later_pick (declares b) seven (Refused 7 offset 0)
    (later_pick cut (Refused 7 offset 0) eight refl
    (later_pick past (Refused 8 offset 0) nine refl
    (later_pick ill (Refused 9 offset 0) rest refl (commands_later pool (suc offset) (operands b) bs))))
    refl)

-- after checks that pass nothing but the offsets is changed
later_done : (s c : Answer) {n : ℕ} → and_then s (and_then c (Done n 0)) ≡ Done n 0 → and_then s (and_then (later c) (Done n 0)) ≡ Done n 0
later_done (Done a b) (Done x y) e = e
later_done (Done a b) (Refused why x y) e = let z : ◌≡◌ {A = ℕ} 0 1 = cc in absurd (omega (arith, z))
later_done (Refused why a b) c e = let z : ◌≡◌ {A = ℕ} 0 1 = cc in absurd (omega (arith, z))

later_refused : (long : Bool) (c : Answer) (n : ℕ) {why at : ℕ} → call_of (and_then (pick long (Refused 6 0 0) passed) (and_then c (Done n 0))) [] ≡ called why (at ∷ 0 ∷ []) []
    → why ≢ 0 → why ≢ 6 → call_of (and_then (pick long (Refused 6 0 0) passed) (and_then (later c) (Done n 0))) [] ≡ called why (suc at ∷ 0 ∷ []) []
later_refused true c n e some other = absurd (other cc)
later_refused false (Done x y) n e some other = absurd (some cc)
later_refused false (Refused w x y) n {why} {at} e some other =
    let p : w ≡ why = cc in
    let q : x ≡ at = cc in
    let r : y ≡ 0 = cc in
    rw (p, q, r)

module _ (list pool : List ℕ) (bare : marked list ≡ false) where
  -- the mark is no definition
  same_declarations : declarations (3 ∷ list) ≡ declarations list
  unfolding declarations
  same_declarations = rw bare

  -- K4: it changes no binding
  pub k4_binds : (name : List ℕ) → binding (3 ∷ list) pool name ≡ binding list pool name
  unfolding binding
  k4_binds name = ap (λ ds. binding_in ds pool name) same_declarations

  module _ (short : length list ≤ 49153) where
    abbrev size : Answer
    size = size_check list pool

    abbrev commands : Answer
    commands = commands_check pool 0 0 list

    abbrev count : Answer
    count = Done (length (declarations list)) 0

    bare_check : table_check list pool ≡ and_then size (and_then commands count)
    unfolding table_check
    bare_check = rw bare

    marked_check : table_check (3 ∷ list) pool ≡ and_then size (and_then (later commands) count)
    unfolding table_check size_check commands_check
    marked_check =
        rw (same_declarations, le-ltb 49154 (length list) (omega (arith, short)), le-ltb 49154 (suc (length list)) (omega (arith, short)), commands_later pool 0 0 list)

    -- K4: an accepted list is accepted with a mark before it, with as many definitions
    pub k4_accepted : {n : ℕ} → check_table_call list pool ≡ called 0 (n ∷ 0 ∷ []) [] → check_table_call (3 ∷ list) pool ≡ called 0 (n ∷ 0 ∷ []) []
    unfolding check_table_call
    k4_accepted e =
        let valid = table_valid list pool e in
        let done = later_done size commands (sym bare_check ∙ valid) in
        rw (marked_check, done) (sym (ap (λ (x : Answer). call_of x []) valid) ∙ e)

    -- K4: "offsets count the mark": a refusal by 7, 8 or 9 is the same, one byte later
    pub k4_refused : {why at : ℕ} → check_table_call list pool ≡ called why (at ∷ 0 ∷ []) [] → why ≢ 0 → why ≢ 6
        → check_table_call (3 ∷ list) pool ≡ called why (suc at ∷ 0 ∷ []) []
    unfolding check_table_call size_check
    k4_refused e some other =
        ap (λ (x : Answer). call_of x []) marked_check
        ∙ later_refused (ltb 49154 (length list) || ltb 1048576 (length pool)) commands (length (declarations list)) (sym (ap (λ (x : Answer). call_of x []) bare_check) ∙ e) some other

    -- K4: the mark has no say in unescaping
    pub k4_unescape : {n : ℕ} → check_table_call list pool ≡ called 0 (n ∷ 0 ∷ []) [] → (t out : List ℕ)
        → unescape_call t (3 ∷ list) pool out ≡ unescape_call t list pool out
    unfolding unescape_call binding
    k4_unescape e t out =
        let valid = table_valid list pool e in
        let done = later_done size commands (sym bare_check ∙ valid) in
        let same : table_check (3 ∷ list) pool ≡ table_check list pool = marked_check ∙ done ∙ sym valid in
        ap (λ (x : Answer). guarded (and_then (text_check t) x) (out ∷ []) (finished (unescape (binding (3 ∷ list) pool) t) out)) same
        ∙ ap (λ (ds : List Declaration). guarded (and_then (text_check t) (table_check list pool)) (out ∷ []) (finished (unescape (λ name. binding_in ds pool name) t) out)) same_declarations

-- ---- anywhere but first

-- commands that pass go on past their operands
pub more_left : (pool : List ℕ) (offset skip : ℕ) (list : List ℕ) {x y : ℕ} → commands_check pool offset skip list ≡ Done x y → skip < length list
unfolding commands_check
more_left pool offset skip [] e = let z : ◌≡◌ {A = ℕ} 0 1 = cc in absurd (omega (arith, z))
more_left pool offset zero (b ∷ bs) e = omega arith
more_left pool offset (suc skip) (b ∷ bs) e = let h = more_left pool (suc offset) skip bs e in omega (arith, h)

same_number : (front x y : List ℕ) (at width : ℕ) → at + width ≤ length front → little_endian (front ++ x) at width ≡ little_endian (front ++ y) at width
unfolding little_endian
same_number front x y at zero h = refl
same_number front x y at (suc width) h =
    let p = get_or-append front x 0 at (omega (arith, h)) in
    let q = get_or-append front y 0 at (omega (arith, h)) in
    rw (p, q, same_number front x y (suc at) width (omega (arith, h)))

-- a declaration is read off its operands alone
pub same_declaration : (b : ℕ) (front x y : List ℕ) → operands b ≤ length front → declaration b (front ++ x) ≡ declaration b (front ++ y)
unfolding declaration operands
same_declaration b front x y h = go (eqb b 1) refl h
  where
    go : (one : Bool) → eqb b 1 ≡ one → pick one 11 5 ≤ length front → declaration b (front ++ x) ≡ declaration b (front ++ y)
    go true q k =
        rw (q, same_number front x y 0 4 (omega (arith, k)), same_number front x y 4 1 (omega (arith, k)), same_number front x y 5 4 (omega (arith, k)), same_number front x y 9 2 (omega (arith, k)))
    go false q k = rw (q, same_number front x y 0 4 (omega (arith, k)), same_number front x y 4 1 (omega (arith, k)))

-- an end with more after it is refused
pub end_refused : (front : List ℕ) (offset : ℕ) {x y : ℕ} → end_check (front ++ 0 ∷ []) offset ≡ Done x y → ⊥
unfolding end_check
end_refused [] offset e = let z : ◌≡◌ {A = ℕ} 0 1 = cc in omega (arith, z)
end_refused (b ∷ bs) offset e = let z : ◌≡◌ {A = ℕ} 0 1 = cc in omega (arith, z)

pub no_answer : {why first second x y : ℕ} → Refused why first second ≡ Done x y → ⊥
no_answer e = let z : ◌≡◌ {A = ℕ} 0 1 = cc in omega (arith, z)

-- the check of a byte at which no operand stands, by the declaration that it starts
abbrev byte_check : List ℕ → ℕ → ℕ → List ℕ → Declaration → Answer
byte_check pool offset b bs d =
    pick (eqb b 0) (end_check bs (suc offset))
    (pick (declares b) (pick (ltb (length bs) (operands b)) (Refused 7 offset 0) (declaration_check pool offset d (commands_check pool (suc offset) (operands b) bs)))
    (Refused 7 offset 0))

byte_check_lem : (pool : List ℕ) (offset b : ℕ) (bs : List ℕ) → commands_check pool offset 0 (b ∷ bs) ≡ byte_check pool offset b bs (declaration b bs)
unfolding commands_check
byte_check_lem pool offset b bs = refl

-- a mark where the list ended
mark_after : (pool front rest : List ℕ) (offset skip : ℕ) {x y : ℕ} → commands_check pool offset skip (front ++ 0 ∷ []) ≡ Done x y
    → commands_check pool offset skip (front ++ 3 ∷ rest) ≡ Refused 7 (offset + length front) 0
unfolding commands_check declaration_check
mark_after pool [] rest offset zero e = rw (add-zero offset)
mark_after pool [] rest offset (suc skip) e = absurd (no_answer e)
mark_after pool (b ∷ bs) rest offset (suc skip) e =
    let k : suc offset + length bs ≡ offset + suc (length bs) = omega arith in
    mark_after pool bs rest (suc offset) skip e ∙ ap (λ (n : ℕ). Refused 7 n 0) k
mark_after pool (b ∷ bs) rest offset zero {x} {y} e =
    let k : suc offset + length bs ≡ offset + suc (length bs) = omega arith in
    go (eqb b 0) refl (declares b) refl (ltb (length (bs ++ 0 ∷ [])) (operands b)) refl (runs_past pool (declaration b (bs ++ 0 ∷ []))) refl
    (ill_formed pool (declaration b (bs ++ 0 ∷ []))) refl e (λ h. mark_after pool bs rest (suc offset) (operands b) h ∙ ap (λ (n : ℕ). Refused 7 n 0) k)
  where
    go : (t1 : Bool) → eqb b 0 ≡ t1 → (t2 : Bool) → declares b ≡ t2 → (t3 : Bool) → ltb (length (bs ++ 0 ∷ [])) (operands b) ≡ t3
        → (t4 : Bool) → runs_past pool (declaration b (bs ++ 0 ∷ [])) ≡ t4 → (t5 : Bool) → ill_formed pool (declaration b (bs ++ 0 ∷ [])) ≡ t5
        → pick t1 (end_check (bs ++ 0 ∷ []) (suc offset))
        (pick t2 (pick t3 (Refused 7 offset 0) (pick t4 (Refused 8 offset 0) (pick t5 (Refused 9 offset 0) (commands_check pool (suc offset) (operands b) (bs ++ 0 ∷ []))))) (Refused 7 offset 0)) ≡ Done x y
        → (commands_check pool (suc offset) (operands b) (bs ++ 0 ∷ []) ≡ Done x y
        → commands_check pool (suc offset) (operands b) (bs ++ 3 ∷ rest) ≡ Refused 7 (offset + suc (length bs)) 0)
        → commands_check pool offset 0 (b ∷ (bs ++ 3 ∷ rest)) ≡ Refused 7 (offset + suc (length bs)) 0
    go true p1 t2 p2 t3 p3 t4 p4 t5 p5 h ih = absurd (end_refused bs (suc offset) h)
    go false p1 false p2 t3 p3 t4 p4 t5 p5 h ih = absurd (no_answer h)
    go false p1 true p2 true p3 t4 p4 t5 p5 h ih = absurd (no_answer h)
    go false p1 true p2 false p3 true p4 t5 p5 h ih = absurd (no_answer h)
    go false p1 true p2 false p3 false p4 true p5 h ih = absurd (no_answer h)
    go false p1 true p2 false p3 false p4 false p5 h ih =
        let size = more_left pool (suc offset) (operands b) (bs ++ 0 ∷ []) h in
        let fits : operands b ≤ length bs = omega (arith, size, length-append bs (0 ∷ [])) in
        let room : ltb (length (bs ++ 3 ∷ rest)) (operands b) ≡ false = le-ltb (length (bs ++ 3 ∷ rest)) (operands b) (omega (arith, fits, length-append bs (3 ∷ rest))) in
        byte_check_lem pool offset b (bs ++ 3 ∷ rest)
        ∙ ap (byte_check pool offset b (bs ++ 3 ∷ rest)) (same_declaration b bs (3 ∷ rest) (0 ∷ []) fits)
        ∙ rw (p1, p2, room, p4, p5) (ih h)

-- K4: "anywhere but first it gets 7": a mark where an accepted list ends, whatever follows it
pub k4_middle : (b : ℕ) (bs rest pool : List ℕ) → length (b ∷ (bs ++ 3 ∷ rest)) ≤ 49154 → {n : ℕ} → check_table_call (b ∷ (bs ++ 0 ∷ [])) pool ≡ called 0 (n ∷ 0 ∷ []) []
    → check_table_call (b ∷ (bs ++ 3 ∷ rest)) pool ≡ called 7 (length (b ∷ bs) ∷ 0 ∷ []) []
unfolding check_table_call table_check size_check
k4_middle b bs rest pool short {n} e =
    let valid = table_valid (b ∷ (bs ++ 0 ∷ [])) pool e in
    let long = ltb 49154 (length (b ∷ (bs ++ 0 ∷ []))) in
    let c = commands_check pool 0 (pick (eqb b 3) 1 0) (b ∷ (bs ++ 0 ∷ [])) in
    go long (ltb 1048576 (length pool)) refl c refl valid
  where
    refused : ltb 1048576 (length pool) ≡ false → {x y : ℕ} → commands_check pool 0 (pick (eqb b 3) 1 0) (b ∷ (bs ++ 0 ∷ [])) ≡ Done x y
        → check_table_call (b ∷ (bs ++ 3 ∷ rest)) pool ≡ called 7 (length (b ∷ bs) ∷ 0 ∷ []) []
    refused q h =
        let mark = mark_after pool (b ∷ bs) rest 0 (pick (eqb b 3) 1 0) h in
        rw (le-ltb 49154 (length (b ∷ (bs ++ 3 ∷ rest))) short, q, mark, zero-add (suc (length bs)))

    go : (long far : Bool) → ltb 1048576 (length pool) ≡ far → (c : Answer) → commands_check pool 0 (pick (eqb b 3) 1 0) (b ∷ (bs ++ 0 ∷ [])) ≡ c → {m : ℕ}
        → and_then (pick (long || far) (Refused 6 0 0) passed) (and_then c (Done m 0)) ≡ Done m 0
        → check_table_call (b ∷ (bs ++ 3 ∷ rest)) pool ≡ called 7 (length (b ∷ bs) ∷ 0 ∷ []) []
    go true far q c h k = absurd (no_answer k)
    go false true q c h k = absurd (no_answer k)
    go false false q (Refused why x y) h k = absurd (no_answer k)
    go false false q (Done x y) h k = refused q h
