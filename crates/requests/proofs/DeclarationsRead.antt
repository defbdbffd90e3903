-- What the theorems of K3 rest on: the table that is written, command by command (`written_in_order`); the numbers that a character reference is
-- refused by (`refused_by`); a call that succeeds has read its text, and there was room (`reads`). Assumes nothing.
use mathlib.Core.Path.{◌≡◌, refl, sym, ap, ap₂, ◌∙◌}
use mathlib.Core.Bool.{true, ◌||◌}
use mathlib.Core.List.{List, [], ◌∷◌, ◌++◌}
use Prim.Native.Nat.{ℕ, zero, suc, ◌+◌, ◌-◌, ◌<◌}
use lib.Dec.{eqb, ltb}
use lib.ListN.{length}
use Rattle.text.specs.Bytes.{pick}
use Rattle.text.proofs.Bytes.{pick_by}
use Rattle.charref.specs.CharRef.{char_number, any_character, number_answer}
use Rattle.charref.specs.CharNumbers.{CharNumber}
use Rattle.charref.specs.CharNumbers.{Char, UnexpectedSign, InvalidNumber, InvalidCodepoint, IllegalCharacter, Forbidden}
use Rattle.charref.proofs.Numbers.{char_number_passes_lem}
use Rattle.entity.specs.Table.{inside, Declaration, name_of, text_of, declarations_from, declarations, mark_size}
use Rattle.entity.specs.Binding.{Bound, text, body_bound}
use Rattle.table_names.specs.NameChars.{name_length}
use Rattle.table_grammar.specs.EntityValue.{Read, read, departs, exceeds, refused, onward, literal, is_white, after_space, space, name, name_of as nameRead, numbered, char_ref_from, entity_ref, reference, value_from, entity_value}
use Rattle.table_grammar.specs.EntityDecl.{keyword, opening, declared_name, definition, Entity, entity, no_more, one_more, entities_at, entities}
use Rattle.table_grammar.specs.TableWritten.{commands_from, list_of, pool_of}
use Rattle.table_grammar.proofs.FirstBinds.{Fitting, made, operands_of, read_command, skip_operands, name_is, text_is, regroup, size_is, list_step}
use Rattle.demands.specs.CallDemands.{listed as among}
use Rattle.requests.specs.Unused.{Definition, definitions_in, definitions}
use Rattle.requests.specs.Declarations.{in_order}

-- ---- the table, command by command

abbrev listed : ℕ → List Entity → List ℕ
listed p es = commands_from p es ++ 0 ∷ []

from_place : (es : List Entity) (pre : List ℕ) → Fitting (length pre) es → definitions_in (pre ++ pool_of es) (declarations_from 0 (listed (length pre) es)) ≡ in_order es
unfolding declarations_from body_bound pool_of
from_place [] pre h = unfold commands_from in refl
from_place (e ∷ es) pre h =
    let rest = listed (length pre + length e.name + length e.value) es in
    let fits : (length e.name < 256) × (length e.value < 65536) × (length pre + length e.name < 4294967296) = (h.0, h.1, h.2) in
    let pool = pre ++ (e.name ++ (e.value ++ pool_of es)) in
    let ih : definitions_in pool (declarations_from 0 rest) ≡ in_order es =
    ap₂ (λ (n : ℕ) (l : List ℕ). definitions_in l (declarations_from 0 (listed n es))) (sym (size_is pre e (pool_of es))) (regroup pre e (pool_of es))
    ∙ from_place es ((pre ++ e.name) ++ e.value) (rw (size_is pre e (pool_of es)) h.3) in
    ap (λ (l : List ℕ). definitions_in pool (declarations_from 0 l)) (list_step (length pre) e es)
    ∙ first (length pre) rest pool fits (name_is pre e (pool_of es)) (text_is pre e (pool_of es)) ih
  where
    first : (p : ℕ) (rest pool : List ℕ) (fits : (length e.name < 256) × (length e.value < 65536) × (p + length e.name < 4294967296))
        → name_of pool (made p (length e.name) (p + length e.name) (length e.value)) ≡ e.name
        → text_of pool (inside (p + length e.name) (length e.value)) ≡ e.value → definitions_in pool (declarations_from 0 rest) ≡ in_order es
        → definitions_in pool (declarations_from 0 (1 ∷ (operands_of p e ++ rest))) ≡ in_order (e ∷ es)
    first p rest pool fits n t ih =
        ap₂ (λ (x : Declaration) (xs : List Declaration). definitions_in pool (x ∷ xs)) (read_command p e rest fits) (skip_operands p e rest fits)
        ∙ ap₂ (λ (x : List ℕ) (y : Bound). record { name = x; bound = y } ∷ definitions_in pool (declarations_from 0 rest)) n (ap text t)
        ∙ ap (λ (ds : List Definition). record { name = e.name; bound = text e.value } ∷ ds) ih

pub written_in_order : (es : List Entity) → Fitting 0 es → definitions (list_of es) (pool_of es) ≡ in_order es
unfolding list_of declarations declarations_from mark_size
written_in_order es h = from_place es [] h

-- as many as there are
pub counted_in : (pool : List ℕ) (ds : List Declaration) → length (definitions_in pool ds) ≡ length ds
counted_in pool [] = refl
counted_in pool (d ∷ ds) = ap suc (counted_in pool ds)

pub counted_out : (es : List Entity) → length (in_order es) ≡ length es
counted_out [] = refl
counted_out (e ∷ es) = ap suc (counted_out es)

-- ---- the numbers that a character reference is refused by

-- 12 to 15
abbrev pub char_ref_numbers : List ℕ
char_ref_numbers = 12 ∷ 13 ∷ 14 ∷ 15 ∷ []

abbrev OfReference : ℕ → Type 0
OfReference n = among n char_ref_numbers ≡ true

abbrev By : {A : Type 0} → Read A → Type 0
By (read a rest) = Unit {0}
By (departs rest) = Unit {0}
By (exceeds rest) = Unit {0}
By (refused number first) = OfReference number

by_onward : {A B : Type 0} (r : Read A) (more : A → List ℕ → Read B) → By r → ((a : A) (rest : List ℕ) → By (more a rest)) → By (onward r more)
by_onward (read a rest) more x f = f a rest
by_onward (departs rest) more x f = tt
by_onward (exceeds rest) more x f = tt
by_onward (refused number first) more x f = x

-- 25 is not among them: every character is allowed here
by_number : (n : CharNumber) (rest : List ℕ) → (n ≡ Forbidden → ⊥) → By (numbered (number_answer n) rest)
unfolding number_answer
by_number (Char c) rest f = tt
by_number UnexpectedSign rest f = refl
by_number InvalidNumber rest f = refl
by_number (InvalidCodepoint k) rest f = refl
by_number IllegalCharacter rest f = refl
by_number Forbidden rest f = absurd (f refl)

by_literal : (cs t : List ℕ) → By (literal cs t)
unfolding literal
by_literal [] t = tt
by_literal (c ∷ cs) [] = tt
by_literal (c ∷ cs) (b ∷ bs) = pick_by By (eqb b c) {b = departs (b ∷ bs)} (λ e. by_literal cs bs) (λ e. tt)

by_space : (t : List ℕ) → By (space t)
unfolding space
by_space [] = tt
by_space (b ∷ bs) = pick_by (By {A = List ℕ}) (is_white b) {a = read [] (after_space bs)} {b = departs (b ∷ bs)} (λ e. tt) (λ e. tt)

by_name : (t : List ℕ) → By (name t)
unfolding name
by_name t = go (name_length t)
  where
    go : (n : ℕ) → By (nameRead n t)
    go zero = tt
    go (suc n) = tt

by_char_ref : (quote : ℕ) (t digits : List ℕ) → By (char_ref_from quote digits t)
unfolding char_ref_from
by_char_ref quote [] digits = tt
by_char_ref quote (b ∷ bs) digits =
    pick_by By (eqb b 59) (λ e. by_number (char_number any_character digits) bs (char_number_passes_lem digits)) λ e.
    pick_by By (eqb b quote) {a = departs (b ∷ bs)} (λ f. tt) (λ f. by_char_ref quote bs (digits ++ b ∷ []))

by_entity_ref : (t : List ℕ) → By (entity_ref t)
unfolding entity_ref
by_entity_ref t =
    by_onward (name t) (λ n end. onward (literal (59 ∷ []) end) (λ w rest. read (38 ∷ n ++ 59 ∷ []) rest)) (by_name t) λ n end.
    by_onward (literal (59 ∷ []) end) (λ w rest. read (38 ∷ n ++ 59 ∷ []) rest) (by_literal (59 ∷ []) end) (λ w rest. tt)

by_reference : (quote : ℕ) (t : List ℕ) → By (reference quote t)
unfolding reference
by_reference quote [] = by_entity_ref []
by_reference quote (b ∷ bs) = pick_by By (eqb b 35) (λ e. by_char_ref quote bs []) (λ e. by_entity_ref (b ∷ bs))

by_value : (quote : ℕ) (t v : List ℕ) (skip : ℕ) → By (value_from quote v skip t)
unfolding value_from
by_value quote [] v skip = tt
by_value quote (b ∷ bs) v (suc skip) = by_value quote bs v skip
by_value quote (b ∷ bs) v zero =
    pick_by By (eqb b quote) (λ e. pick_by By (ltb 65535 (length v)) {a = exceeds (b ∷ bs)} {b = read v bs} (λ f. tt) (λ f. tt)) λ e.
    pick_by By (eqb b 37) {a = departs (b ∷ bs)} (λ f. tt) λ f.
    pick_by By (eqb b 38)
    (λ g. by_onward (reference quote bs) (λ w rest. value_from quote (v ++ w) (length bs - length rest) bs) (by_reference quote bs) (λ w rest. by_value quote bs (v ++ w) (length bs - length rest)))
    (λ g. by_value quote bs (v ++ b ∷ []) zero)

by_entity_value : (t : List ℕ) → By (entity_value t)
unfolding entity_value
by_entity_value [] = tt
by_entity_value (b ∷ bs) = pick_by By (eqb b 34 || eqb b 39) {b = departs (b ∷ bs)} (λ e. by_value b bs [] 0) (λ e. tt)

by_entity : (t : List ℕ) → By (entity t)
unfolding entity opening declared_name definition
by_entity t =
    by_onward (opening t) (λ w t1. onward (declared_name t1) (λ n t2. onward (definition t2) (λ v t3. read (record { name = n; value = v }) t3)))
    (by_onward (literal keyword t) (λ w rest. space rest) (by_literal keyword t) (λ w rest. by_space rest)) λ w t1.
    by_onward (declared_name t1) (λ n t2. onward (definition t2) (λ v t3. read (record { name = n; value = v }) t3))
    (by_onward (name t1) (λ n end. onward (space end) (λ w rest. pick (ltb 255 (length n)) (exceeds end) (read n rest))) (by_name t1) λ n end.
    by_onward (space end) (λ w rest. pick (ltb 255 (length n)) (exceeds end) (read n rest)) (by_space end) λ w rest.
    pick_by By (ltb 255 (length n)) {a = exceeds end} {b = read n rest} (λ e. tt) (λ e. tt)) λ n t2.
    by_onward (definition t2) (λ v t3. read (record { name = n; value = v }) t3)
    (by_onward (entity_value t2) (λ v end. onward (literal (62 ∷ []) (after_space end)) (λ w rest. read v rest)) (by_entity_value t2) λ v end.
    by_onward (literal (62 ∷ []) (after_space end)) (λ w rest. read v rest) (by_literal (62 ∷ []) (after_space end)) (λ w rest. tt)) (λ v t3. tt)

by_no_more : (t : List ℕ) → By (no_more t)
unfolding no_more
by_no_more [] = tt
by_no_more (b ∷ bs) = pick_by By (eqb b 60) {a = exceeds (b ∷ bs)} {b = departs (b ∷ bs)} (λ e. tt) (λ e. tt)

by_one_more : (more : List ℕ → Read (List Entity)) → ((t : List ℕ) → By (more t)) → (t : List ℕ) → By (one_more more t)
unfolding one_more
by_one_more more f [] = tt
by_one_more more f (b ∷ bs) =
    by_onward (entity (b ∷ bs)) (λ e rest. onward (more rest) (λ es end. read (e ∷ es) end)) (by_entity (b ∷ bs)) λ e rest.
    by_onward (more rest) (λ es end. read (e ∷ es) end) (f rest) (λ es end. tt)

by_entities : (k : ℕ) (t : List ℕ) → By (entities_at k t)
unfolding entities_at
by_entities zero t = by_no_more t
by_entities (suc k) t = by_one_more (λ rest. entities_at k (after_space rest)) (λ rest. by_entities k (after_space rest)) t

pub refused_by : (k : ℕ) (t : List ℕ) {number first : ℕ} → entities k t ≡ refused number first → among number char_ref_numbers ≡ true
refused_by k t e = rw e at (given t)
  where
    given : (t : List ℕ) → By (entities k t)
    given t = unfold entities in by_entities k (after_space t)
