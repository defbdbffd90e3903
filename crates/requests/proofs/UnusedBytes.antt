-- K13, of a table's bytes: commands put in the place of an accepted list's end, and bytes put behind its pool, add their definitions behind
-- those that were there (`grown_definitions`); where none of them is looked up, nothing changes (`k13_grown`). Assumes nothing.
use mathlib.Core.Path.{◌≡◌, refl, sym, ap, ◌∙◌}
use Prim.Native.Nat.{ℕ, zero, suc, ◌+◌, ◌≤◌}
use native.Mathlib.Omega.{arith}
use mathlib.Core.Bool.{Bool, true, false}
use mathlib.Core.List.{List, [], ◌∷◌, ◌++◌, append-nil}
use lib.Dec.{eqb, ltb}
use lib.ListN.{length, take, drop, length-append, length-drop}
use lib.Seq.{take-append-le, drop-append-le}
use borrow.Author.Tests.{ltb-false}
use Rattle.text.specs.Bytes.{pick}
use Rattle.text.specs.Call.{and_then}
use Rattle.text.specs.Answers.{Answer}
use Rattle.text.specs.Answers.{Done, Refused}
use Rattle.text.proofs.Bytes.{or_left, or_right}
use Rattle.entity.specs.Table.{part, Body, inside, outside, Declaration, name_of, text_of, mark_size, declares, declaration, operands, declarations_from, declarations, body_past, runs_past, ill_formed, declaration_check, end_check, commands_check, size_check, table_check, ValidTable}
use Rattle.entity.specs.Binding.{Bound, text, body_bound}
use Rattle.demands.proofs.CallDemands.{table_valid}
use Rattle.requests.specs.Unused.{Caller, call_by, names_by, OneMarking, Definition, definitions_in, definitions, Unused}
use Rattle.requests.proofs.MarkedTable.{more_left, same_declaration, end_refused, no_answer}
use Rattle.requests.proofs.Unused.{k13_edited}

-- ---- bytes behind the pool

part_grown : (pool more : List ℕ) (start size : ℕ) → start + size ≤ length pool → part (pool ++ more) start size ≡ part pool start size
unfolding part
part_grown pool more start size h =
    ap (take size) (drop-append-le start pool more (omega (arith, h))) ∙ take-append-le size (drop start pool) more (omega (arith, h, length-drop start pool))

body_grown : (pool more : List ℕ) (b : Body) → body_past pool b ≡ false → body_bound (pool ++ more) b ≡ body_bound pool b
unfolding body_bound body_past text_of
body_grown pool more (inside start size) h = ap text (part_grown pool more start size (ltb-false (length pool) (start + size) h))
body_grown pool more outside h = refl

-- a declaration whose parts lie in the pool is the same definition
abbrev defined : List ℕ → Declaration → Definition
defined pool d = record { name = name_of pool d; bound = body_bound pool d.body }

defined_grown : (pool more : List ℕ) (d : Declaration) → runs_past pool d ≡ false → defined (pool ++ more) d ≡ defined pool d
unfolding runs_past name_of
defined_grown pool more d h =
    let far = ltb (length pool) (d.name_start + d.name_length) in
    let named = part_grown pool more d.name_start d.name_length (ltb-false (length pool) (d.name_start + d.name_length) (or_left far (body_past pool d.body) h)) in
    let bound = body_grown pool more d.body (or_right far (body_past pool d.body) h) in
    ap (λ (n : List ℕ). record { name = n; bound = body_bound (pool ++ more) d.body }) named ∙ ap (λ (b : Bound). record { name = name_of pool d; bound = b }) bound

-- ---- commands in the place of the end

grown : (pool more front rest : List ℕ) (offset skip : ℕ) {x y : ℕ} → commands_check pool offset skip (front ++ 0 ∷ []) ≡ Done x y
    → definitions_in (pool ++ more) (declarations_from skip (front ++ rest))
    ≡ definitions_in pool (declarations_from skip (front ++ 0 ∷ [])) ++ definitions_in (pool ++ more) (declarations_from 0 rest)
unfolding commands_check declaration_check declarations_from
grown pool more [] rest offset zero e = refl
grown pool more [] rest offset (suc skip) e = absurd (no_answer e)
grown pool more (b ∷ bs) rest offset (suc skip) e = grown pool more bs rest (suc offset) skip e
grown pool more (b ∷ bs) rest offset zero {x} {y} e =
    go (eqb b 0) (declares b) refl (ltb (length (bs ++ 0 ∷ [])) (operands b)) (runs_past pool (declaration b (bs ++ 0 ∷ []))) refl (ill_formed pool (declaration b (bs ++ 0 ∷ []))) e
    (λ h. grown pool more bs rest (suc offset) (operands b) h)
  where
    go : (t1 : Bool) (t2 : Bool) → declares b ≡ t2 → (t3 : Bool) (t4 : Bool) → runs_past pool (declaration b (bs ++ 0 ∷ [])) ≡ t4 → (t5 : Bool)
        → pick t1 (end_check (bs ++ 0 ∷ []) (suc offset))
        (pick t2 (pick t3 (Refused 7 offset 0) (pick t4 (Refused 8 offset 0) (pick t5 (Refused 9 offset 0) (commands_check pool (suc offset) (operands b) (bs ++ 0 ∷ []))))) (Refused 7 offset 0)) ≡ Done x y
        → (commands_check pool (suc offset) (operands b) (bs ++ 0 ∷ []) ≡ Done x y
        → definitions_in (pool ++ more) (declarations_from (operands b) (bs ++ rest))
        ≡ definitions_in pool (declarations_from (operands b) (bs ++ 0 ∷ [])) ++ definitions_in (pool ++ more) (declarations_from 0 rest))
        → definitions_in (pool ++ more) (declarations_from 0 (b ∷ (bs ++ rest)))
        ≡ definitions_in pool (declarations_from 0 (b ∷ (bs ++ 0 ∷ []))) ++ definitions_in (pool ++ more) (declarations_from 0 rest)
    go true t2 p2 t3 t4 p4 t5 h ih = absurd (end_refused bs (suc offset) h)
    go false false p2 t3 t4 p4 t5 h ih = absurd (no_answer h)
    go false true p2 true t4 p4 t5 h ih = absurd (no_answer h)
    go false true p2 false true p4 t5 h ih = absurd (no_answer h)
    go false true p2 false false p4 true h ih = absurd (no_answer h)
    go false true p2 false false p4 false h ih =
        let size = more_left pool (suc offset) (operands b) (bs ++ 0 ∷ []) h in
        let fits : operands b ≤ length bs = omega (arith, size, length-append bs (0 ∷ [])) in
        let here = ap (defined (pool ++ more)) (same_declaration b bs rest (0 ∷ []) fits) ∙ defined_grown pool more (declaration b (bs ++ 0 ∷ [])) p4 in
        rw p2 (ap (λ (d : Definition). d ∷ definitions_in (pool ++ more) (declarations_from (operands b) (bs ++ rest))) here
        ∙ ap (λ (ds : List Definition). defined pool (declaration b (bs ++ 0 ∷ [])) ∷ ds) (ih h))

-- a table that is accepted passes the check of its commands
commands_done : (list pool : List ℕ) → ValidTable list pool → {P : Type 0} → ((x y : ℕ) → commands_check pool 0 (mark_size list) list ≡ Done x y → P) → P
unfolding table_check
commands_done list pool e {P} f = go (size_check list pool) (commands_check pool 0 (mark_size list) list) refl e
  where
    go : (s c : Answer) → commands_check pool 0 (mark_size list) list ≡ c → and_then s (and_then c (Done (length (declarations list)) 0)) ≡ Done (length (declarations list)) 0 → P
    go (Done a b) (Done x y) q h = f x y q
    go (Done a b) (Refused why x y) q h = absurd (no_answer h)
    go (Refused why a b) c q h = absurd (no_answer h)

module _ (front rest pool more : List ℕ) (m : OneMarking (front ++ 0 ∷ []) pool (front ++ rest) (pool ++ more)) where
  abbrev added : List Definition
  added = definitions_in (pool ++ more) (declarations_from 0 rest)

  pub grown_definitions : definitions (front ++ rest) (pool ++ more) ≡ definitions (front ++ 0 ∷ []) pool ++ added
  unfolding declarations mark_size
  grown_definitions =
      commands_done (front ++ 0 ∷ []) pool (table_valid (front ++ 0 ∷ []) pool m.accepted)
      (λ x y h.
      ap (λ (t : Bool). definitions_in (pool ++ more) (declarations_from (pick t 1 0) (front ++ rest))) (sym m.marking)
      ∙ grown pool more front rest 0 (mark_size (front ++ 0 ∷ [])) h)

  -- commands put in the place of an accepted list's end, their names and texts behind its pool: nothing changes, where none is looked up
  pub k13_grown : (caller : Caller) → Unused added (names_by caller (front ++ 0 ∷ []) pool)
      → call_by caller (front ++ 0 ∷ []) pool ≡ call_by caller (front ++ rest) (pool ++ more)
  k13_grown caller h =
      let ds = definitions (front ++ 0 ∷ []) pool in
      k13_edited (front ++ 0 ∷ []) pool (front ++ rest) (pool ++ more) m ds [] added [] (sym (append-nil ds))
      (grown_definitions ∙ ap (λ (es : List Definition). ds ++ es) (sym (append-nil added))) caller tt h
