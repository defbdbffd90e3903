-- What a valid table binds names to, and how a caller learns that a table is valid. Assumes nothing.
use mathlib.Core.Path.{◌≡◌, refl, sym, subst, ◌∙◌}
use mathlib.Core.Bool.{Bool, true, false, ◌||◌, not}
use mathlib.Core.List.{List, [], ◌∷◌}
use Prim.Native.Nat.{ℕ, zero, suc, ◌≤◌, ◌<◌}
use native.Mathlib.Omega.{arith}
use lib.Dec.{eqb, ltb, lit≤, lit<}
use lib.ListN.{length, get_or, length-take}
use borrow.Author.Tests.{ltb-true, ltb-false, not-false, le-leb}
use Rattle.text.specs.Bytes.{pick, same_bytes}
use Rattle.text.specs.Utf8.{well_formed, WellFormed}
use Rattle.text.specs.Call.{and_then, passed}
use Rattle.text.specs.Answers.{Answer}
use Rattle.text.specs.Answers.{Done, Refused}
use Rattle.text.proofs.Bytes.{pick_by, pick_both, or_right}
use Rattle.text.proofs.Utf8.{tested, ascii_well_formed}
use Rattle.entity.specs.Table.{little_endian, part, Body, inside, outside, Declaration, mark_size, declares, declaration, name_of, text_of, declarations_from, declarations, runs_past, ill_formed, declaration_check, end_check, commands_check, size_check, table_check, ValidTable, operands}
use Rattle.entity.specs.Binding.{Bound, predefined, unknown, predefined_of, body_bound, binding_in, binding, ShortBound, GoodBound}
use Rattle.entity.specs.Steps.{IsDone}
use Rattle.entity.proofs.Commands.{is_done, passes, head_checked, long_list}
use Rattle.entity.proofs.Lookup.{table_done}
use Rattle.entity.proofs.Reading.{u16_small}

-- ---- a table that was checked

-- a check that let the table pass: `r` is what it returned
pub checked_table : (list pool : List ℕ) {r : Answer} {first second : ℕ} → r ≡ table_check list pool → r ≡ Done first second → ValidTable list pool
unfolding table_check
checked_table list pool e q = go (size_check list pool) (commands_check pool 0 (mark_size list) list) (sym e ∙ q)
  where
    go : (x y : Answer) {a b : ℕ} → and_then x (and_then y (Done (length (declarations list)) 0)) ≡ Done a b
        → and_then x (and_then y (Done (length (declarations list)) 0)) ≡ Done (length (declarations list)) 0
    go (Done c d) (Done f g) h = refl
    go (Done c d) (Refused n f g) h = absurd (is_done h)
    go (Refused n f g) y h = absurd (is_done h)

-- its list is at most 49,154 bytes long: refusal 6
pub valid_short : (list pool : List ℕ) → ValidTable list pool → length list ≤ 49154
valid_short list pool e = go (ltb 49154 (length list)) refl
  where
    go : (x : Bool) → ltb 49154 (length list) ≡ x → length list ≤ 49154
    go true q = absurd (is_done (long_list list pool (ltb-true 49154 (length list) q) ∙ e))
    go false q = ltb-false 49154 (length list) q

pub empty_valid : ValidTable (0 ∷ []) []
unfolding table_check
empty_valid = refl

-- ---- bindings by declaration

-- XML 1.0, 4.2: the first declaration of a name binds it.
pub first_binds : (d : Declaration) (ds : List Declaration) (pool name : List ℕ) → same_bytes (name_of pool d) name ≡ true → binding_in (d ∷ ds) pool name ≡ body_bound pool d.body
unfolding binding_in
first_binds d ds pool name e = rw e

-- A declaration of another name binds nothing: those after it decide.
pub later_binds : (d : Declaration) (ds : List Declaration) (pool name : List ℕ) → same_bytes (name_of pool d) name ≡ false → binding_in (d ∷ ds) pool name ≡ binding_in ds pool name
unfolding binding_in
later_binds d ds pool name e = rw e

-- no declaration of the list has the name
abbrev pub Undeclared : List Declaration → List ℕ → List ℕ → Type 0
Undeclared [] pool name = Unit {0}
Undeclared (d ∷ ds) pool name = (same_bytes (name_of pool d) name ≡ false) × Undeclared ds pool name

-- XML 1.0, 4.6: a name that no declaration has is bound to one of the five predefined texts, or to nothing.
pub undeclared_binds : (ds : List Declaration) (pool name : List ℕ) → Undeclared ds pool name → binding_in ds pool name ≡ predefined_of name
unfolding binding_in
undeclared_binds [] pool name h = refl
undeclared_binds (d ∷ ds) pool name h = rw h.0 (undeclared_binds ds pool name h.1)

-- ---- what all bindings have

-- what holds of each declaration's text and of the five holds of each binding
module _ (P : Bound → Type 0) (pool : List ℕ) (five : (name : List ℕ) → P (predefined_of name)) where
  abbrev Each : List Declaration → Type 0
  Each [] = Unit {0}
  Each (d ∷ ds) = P (body_bound pool d.body) × Each ds

  each_bound : (ds : List Declaration) → Each ds → (name : List ℕ) → P (binding_in ds pool name)
  unfolding binding_in
  each_bound [] h name = five name
  each_bound (d ∷ ds) h name =
      pick_both P (same_bytes (name_of pool d) name) {a = body_bound pool d.body} {b = binding_in ds pool name} h.0 (each_bound ds h.1 name)

-- one of the five is an ASCII byte
five_all : (P : Bound → Type 0) → ((b : ℕ) → b < 128 → P (predefined (b ∷ []))) → P unknown → (name : List ℕ) → P (predefined_of name)
unfolding predefined_of
five_all P one none name =
    pick_both P (same_bytes name (108 ∷ 116 ∷ [])) {a = predefined (60 ∷ [])} (one 60 (lit< tt))
    (pick_both P (same_bytes name (103 ∷ 116 ∷ [])) {a = predefined (62 ∷ [])} (one 62 (lit< tt))
    (pick_both P (same_bytes name (97 ∷ 109 ∷ 112 ∷ [])) {a = predefined (38 ∷ [])} (one 38 (lit< tt))
    (pick_both P (same_bytes name (97 ∷ 112 ∷ 111 ∷ 115 ∷ [])) {a = predefined (39 ∷ [])} (one 39 (lit< tt))
    (pick_both P (same_bytes name (113 ∷ 117 ∷ 111 ∷ 116 ∷ [])) {a = predefined (34 ∷ [])} {b = unknown} (one 34 (lit< tt)) none))))

-- ---- well-formed texts

-- a declaration of a valid list
command_good : (pool : List ℕ) (b : ℕ) (bs : List ℕ) (offset : ℕ) → declares b ≡ true → IsDone (commands_check pool offset 0 (b ∷ bs))
    → (ill_formed pool (declaration b bs) ≡ false) × IsDone (commands_check pool (suc offset) (operands b) bs)
unfolding declaration_check
command_good pool b bs offset is h =
    let d = declaration b bs in
    let rest = commands_check pool (suc offset) (operands b) bs in
    let p = passes (ltb (length bs) (operands b)) 7 offset (declaration_check pool offset d rest) (subst IsDone (head_checked pool offset b bs is) h) in
    let q = passes (runs_past pool d) 8 offset (pick (ill_formed pool d) (Refused 9 offset 0) rest) p.1 in
    passes (ill_formed pool d) 9 offset rest q.1

body_good : (pool : List ℕ) (d : Declaration) → ill_formed pool d ≡ false → GoodBound (body_bound pool d.body)
unfolding ill_formed body_bound
body_good pool d e =
    go d.body
    (tested (text_of pool d.body)
    (not-false (well_formed (text_of pool d.body))
    (or_right (eqb d.name_length 0 || not (well_formed (name_of pool d))) (not (well_formed (text_of pool d.body))) e)))
  where
    go : (b : Body) → WellFormed (text_of pool b) → GoodBound (body_bound pool b)
    go (inside start size) h = h
    go outside h = tt

byte_good : (b : ℕ) → b < 128 → WellFormed (b ∷ [])
byte_good b h = ascii_well_formed (b ∷ []) (rw (le-leb b 0x7F (omega arith)))

five_good : (name : List ℕ) → GoodBound (predefined_of name)
five_good = five_all GoodBound byte_good tt

list_good : (pool list : List ℕ) (offset skip : ℕ) → IsDone (commands_check pool offset skip list) → Each GoodBound pool five_good (declarations_from skip list)
unfolding commands_check declarations_from
list_good pool [] offset skip h = tt
list_good pool (b ∷ bs) offset (suc skip) h = list_good pool bs (suc offset) skip h
list_good pool (b ∷ bs) offset zero h =
    pick_by (Each GoodBound pool five_good) (declares b) {a = declaration b bs ∷ declarations_from (operands b) bs} {b = []}
    (λ e.
    let p = command_good pool b bs offset e h in
    (body_good pool (declaration b bs) p.0, list_good pool bs (suc offset) (operands b) p.1))
    (λ e. tt)

-- What a valid table binds a name to is UTF-8: refusal 9 keeps other texts out.
pub binding_good : (list pool : List ℕ) → ValidTable list pool → (name : List ℕ) → GoodBound (binding list pool name)
unfolding binding declarations
binding_good list pool e name = each_bound GoodBound pool five_good (declarations list) (list_good pool list 0 (mark_size list) (table_done list pool e)) name

-- ---- lengths

text_short : (pool : List ℕ) (b : ℕ) (bs : List ℕ) → ((k : ℕ) → get_or bs k 0 < 0x100) → ShortBound (body_bound pool (declaration b bs).body)
unfolding body_bound text_of part declaration
text_short pool b bs small = go (eqb b 1)
  where
    go : (t : Bool) → ShortBound (body_bound pool (pick t (inside (little_endian bs 5 4) (little_endian bs 9 2)) outside))
    go true = rw length-take (omega (arith, u16_small bs 9 small))
    go false = tt

five_short : (name : List ℕ) → ShortBound (predefined_of name)
five_short = five_all ShortBound (λ b h. lit≤ tt) tt

list_short : (pool list : List ℕ) (skip : ℕ) → ((k : ℕ) → get_or list k 0 < 0x100) → Each ShortBound pool five_short (declarations_from skip list)
unfolding declarations_from
list_short pool [] skip small = tt
list_short pool (b ∷ bs) (suc skip) small = list_short pool bs skip (λ k. small (suc k))
list_short pool (b ∷ bs) zero small =
    pick_both (Each ShortBound pool five_short) (declares b) {a = declaration b bs ∷ declarations_from (operands b) bs} {b = []}
    (text_short pool b bs (λ k. small (suc k)), list_short pool bs (operands b) (λ k. small (suc k))) tt

-- the length of a text is written in two bytes
pub binding_short : (list pool : List ℕ) → ((k : ℕ) → get_or list k 0 < 0x100) → (name : List ℕ) → ShortBound (binding list pool name)
unfolding binding declarations
binding_short list pool small name = each_bound ShortBound pool five_short (declarations list) (list_short pool list (mark_size list) small) name

-- ---- refusals by number

-- what holds of a refusal's number
abbrev pub ByNumber : (ℕ → Type 0) → Answer → Type 0
ByNumber P (Done first second) = Unit {0}
ByNumber P (Refused number first second) = P number

module _ (P : ℕ → Type 0) (six : P 6) (seven : P 7) (eight : P 8) (nine : P 9) where
  by_end : (bs : List ℕ) (offset : ℕ) → ByNumber P (end_check bs offset)
  unfolding end_check
  by_end [] offset = tt
  by_end (b ∷ bs) offset = seven

  by_commands : (pool : List ℕ) (offset skip : ℕ) (bs : List ℕ) → ByNumber P (commands_check pool offset skip bs)
  unfolding commands_check declaration_check
  by_commands pool offset skip [] = seven
  by_commands pool offset (suc skip) (b ∷ bs) = by_commands pool (suc offset) skip bs
  by_commands pool offset zero (b ∷ bs) =
      let d = declaration b bs in
      let rest = commands_check pool (suc offset) (operands b) bs in
      let by-nine = pick_both (ByNumber P) (ill_formed pool d) {a = Refused 9 offset 0} {b = rest} nine (by_commands pool (suc offset) (operands b) bs) in
      let by-eight = pick_both (ByNumber P) (runs_past pool d) {a = Refused 8 offset 0} {b = pick (ill_formed pool d) (Refused 9 offset 0) rest} eight by-nine in
      let whole = declaration_check pool offset d rest in
      let by-cut = pick_both (ByNumber P) (ltb (length bs) (operands b)) {a = Refused 7 offset 0} {b = whole} seven by-eight in
      let cut = pick (ltb (length bs) (operands b)) (Refused 7 offset 0) whole in
      pick_both (ByNumber P) (eqb b 0) {a = end_check bs (suc offset)} {b = pick (declares b) cut (Refused 7 offset 0)} (by_end bs (suc offset))
      (pick_both (ByNumber P) (declares b) {a = cut} {b = Refused 7 offset 0} by-cut seven)

  -- a table is refused by 6 to 9
  pub table_answers : (list pool : List ℕ) → ByNumber P (table_check list pool)
  unfolding table_check size_check
  table_answers list pool = go (ltb 49154 (length list) || ltb 1048576 (length pool)) (commands_check pool 0 (mark_size list) list) (by_commands pool 0 (mark_size list) list)
    where
      go : (t : Bool) (x : Answer) → ByNumber P x → ByNumber P (and_then (pick t (Refused 6 0 0) passed) (and_then x (Done (length (declarations list)) 0)))
      go true x h = six
      go false (Done a b) h = tt
      go false (Refused n a b) h = h
