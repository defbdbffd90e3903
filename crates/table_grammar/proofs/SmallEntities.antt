-- What is read fits the widths of a table's operands (`small_read`), so that looking a name up in what is written for a text equals looking it up in
-- the text's declarations (`read_look_up`). Assumes nothing.
use mathlib.Core.Path.{◌≡◌}
use mathlib.Core.Bool.{◌||◌}
use mathlib.Core.List.{List, [], ◌∷◌, ◌++◌}
use Prim.Native.Nat.{ℕ, zero, suc, ◌+◌, ◌-◌, ◌≤◌, ◌<◌, zero-le}
use native.Mathlib.Omega.{arith}
use lib.Dec.{eqb, ltb}
use lib.ListN.{length, length-append}
use lib.Seq.{length-take-le}
use borrow.Author.Tests.{ltb-false}
use Rattle.text.specs.Bytes.{pick}
use Rattle.text.specs.Version.{Rule}
use Rattle.text.proofs.Bytes.{pick_by}
use Rattle.eols.specs.LineEnds.{eols}
use Rattle.entity.specs.Binding.{binding}
use Rattle.table_names.specs.NameChars.{name_length}
use Rattle.table_grammar.specs.EntityValue.{Read, read, departs, exceeds, refused, onward, literal, after_space, space, name, name_of, reference, value_from, entity_value}
use Rattle.table_grammar.specs.EntityDecl.{opening, declared_name, definition, Entity, entity, no_more, one_more, entities_at, entities}
use Rattle.table_grammar.specs.TableWritten.{list_of, pool_of, declared, most}
use Rattle.table_names.proofs.NamesPast.{name_fits}
use Rattle.table_grammar.proofs.FirstBinds.{Fitting, lookup_declared}

-- what a reader gives has a property
abbrev Gives : {A : Type 0} → (A → Type 0) → Read A → Type 0
Gives P (read a rest) = P a
Gives P (departs rest) = Unit {0}
Gives P (exceeds rest) = Unit {0}
Gives P (refused number first) = Unit {0}

gives_onward : {A B : Type 0} (P : A → Type 0) (Q : B → Type 0) (r : Read A) (more : A → List ℕ → Read B) → Gives P r
    → ((a : A) (rest : List ℕ) → P a → Gives Q (more a rest)) → Gives Q (onward r more)
gives_onward P Q (read a rest) more p f = f a rest p
gives_onward P Q (departs rest) more p f = tt
gives_onward P Q (exceeds rest) more p f = tt
gives_onward P Q (refused number first) more p f = tt

abbrev Any : List ℕ → Type 0
Any l = Unit {0}

gives_any : (r : Read (List ℕ)) → Gives Any r
gives_any (read a rest) = tt
gives_any (departs rest) = tt
gives_any (exceeds rest) = tt
gives_any (refused number first) = tt

-- ---- names

abbrev Named : List ℕ → Type 0
Named n = (0 < length n) × (length n < 256)

abbrev Some : List ℕ → Type 0
Some n = 0 < length n

name_some : (t : List ℕ) → Gives Some (name t)
unfolding name
name_some t = go (name_length t) (name_fits t)
  where
    go : (n : ℕ) → n ≤ length t → Gives Some (name_of n t)
    go zero h = tt
    go (suc n) h = let z = length-take-le (suc n) t h in omega (arith, z)

declared_named : (t : List ℕ) → Gives Named (declared_name t)
unfolding declared_name
declared_named t =
    gives_onward Some Named (name t) (λ n end. onward (space end) (λ w rest. pick (ltb 255 (length n)) (exceeds end) (read n rest))) (name_some t) λ n end p.
    gives_onward Any Named (space end) (λ w rest. pick (ltb 255 (length n)) (exceeds end) (read n rest)) (gives_any (space end)) λ w rest q.
    pick_by (Gives Named) (ltb 255 (length n)) {a = exceeds end} {b = read n rest} (λ e. tt) (λ e. (p, let z = ltb-false 255 (length n) e in omega arith))

-- ---- values

abbrev Short : List ℕ → Type 0
Short v = length v < 65536

value_short : (quote : ℕ) (t : List ℕ) (v : List ℕ) (skip : ℕ) → Gives Short (value_from quote v skip t)
unfolding value_from
value_short quote [] v skip = tt
value_short quote (b ∷ bs) v (suc skip) = value_short quote bs v skip
value_short quote (b ∷ bs) v zero =
    pick_by (Gives Short) (eqb b quote)
    (λ e. pick_by (Gives Short) (ltb 65535 (length v)) {a = exceeds (b ∷ bs)} {b = read v bs} (λ f. tt) (λ f. let z = ltb-false 65535 (length v) f in omega arith)) λ e.
    pick_by (Gives Short) (eqb b 37) {a = departs (b ∷ bs)} (λ f. tt) λ f.
    pick_by (Gives Short) (eqb b 38)
    (λ g. gives_onward Any Short (reference quote bs) (λ w rest. value_from quote (v ++ w) (length bs - length rest) bs)
    (gives_any (reference quote bs)) (λ w rest p. value_short quote bs (v ++ w) (length bs - length rest)))
    (λ g. value_short quote bs (v ++ b ∷ []) zero)

entity_value_short : (t : List ℕ) → Gives Short (entity_value t)
unfolding entity_value
entity_value_short [] = tt
entity_value_short (b ∷ bs) = pick_by (Gives Short) (eqb b 34 || eqb b 39) {b = departs (b ∷ bs)} (λ e. value_short b bs [] 0) (λ e. tt)

definition_short : (t : List ℕ) → Gives Short (definition t)
unfolding definition
definition_short t =
    gives_onward Short Short (entity_value t) (λ v end. onward (literal (62 ∷ []) (after_space end)) (λ w rest. read v rest)) (entity_value_short t) λ v end p.
    gives_onward Any Short (literal (62 ∷ []) (after_space end)) (λ w rest. read v rest) (gives_any (literal (62 ∷ []) (after_space end))) (λ w rest q. p)

-- ---- entities

abbrev pub SmallEntity : Entity → Type 0
SmallEntity e = (0 < length e.name) × (length e.name < 256) × (length e.value < 65536)

entity_small : (t : List ℕ) → Gives SmallEntity (entity t)
unfolding entity
entity_small t =
    gives_onward Any SmallEntity (opening t) (λ w t1. onward (declared_name t1) (λ n t2. onward (definition t2) (λ v t3. read (record { name = n; value = v }) t3))) (gives_any (opening t)) λ w t1 p.
    gives_onward Named SmallEntity (declared_name t1) (λ n t2. onward (definition t2) (λ v t3. read (record { name = n; value = v }) t3)) (declared_named t1) λ n t2 q.
    gives_onward Short SmallEntity (definition t2) (λ v t3. read (record { name = n; value = v }) t3) (definition_short t2) (λ v t3 s. (q.0, q.1, s))

abbrev pub Small : List Entity → Type 0
Small [] = Unit {0}
Small (e ∷ es) = SmallEntity e × Small es

-- at most so many, each small
record Few (k : ℕ) (es : List Entity) : Type 0 where
  few : length es ≤ k
  small : Small es

few_none : (k : ℕ) → Few k []
few_none k = record { few = zero-le; small = tt }

few_more : (k : ℕ) (e : Entity) (es : List Entity) → SmallEntity e → Few k es → Few (suc k) (e ∷ es)
few_more k e es p f = record { few = omega (arith, f.few); small = (p, f.small) }

no_more_few : (t : List ℕ) → Gives (Few 0) (no_more t)
unfolding no_more
no_more_few [] = few_none 0
no_more_few (b ∷ bs) = pick_by (Gives (Few 0)) (eqb b 60) {a = exceeds (b ∷ bs)} {b = departs (b ∷ bs)} (λ e. tt) (λ e. tt)

one_more_few : (k : ℕ) (more : List ℕ → Read (List Entity)) → ((t : List ℕ) → Gives (Few k) (more t)) → (t : List ℕ) → Gives (Few (suc k)) (one_more more t)
unfolding one_more
one_more_few k more f [] = few_none (suc k)
one_more_few k more f (b ∷ bs) =
    gives_onward SmallEntity (Few (suc k)) (entity (b ∷ bs)) (λ e rest. onward (more rest) (λ es end. read (e ∷ es) end)) (entity_small (b ∷ bs)) λ e rest p.
    gives_onward (Few k) (Few (suc k)) (more rest) (λ es end. read (e ∷ es) end) (f rest) (λ es end q. few_more k e es p q)

entities_few : (k : ℕ) (t : List ℕ) → Gives (Few k) (entities_at k t)
unfolding entities_at
entities_few zero t = no_more_few t
entities_few (suc k) t = one_more_few k (λ rest. entities_at k (after_space rest)) (λ u. entities_few k (after_space u)) t

pub small_read : (t end : List ℕ) (es : List Entity) → entities most t ≡ read es end → (length es ≤ most) × Small es
small_read t end es e = let f : Few most es = rw e at (given t) in (f.few, f.small)
  where
    given : (t : List ℕ) → Gives (Few most) (entities most t)
    given t = unfold entities in entities_few most (after_space t)

pub small_fits : (es : List Entity) → Small es → (p : ℕ) → p + length (pool_of es) < 4294967296 → Fitting p es
unfolding pool_of
small_fits [] s p h = tt
small_fits (e ∷ es) s p h =
    let l = length-append e.name (e.value ++ pool_of es) in
    let m = length-append e.value (pool_of es) in
    (s.0.1, s.0.2, omega (arith, l, m, h), small_fits es s.1 (p + length e.name + length e.value) (omega (arith, l, m, h)))

-- K3: looking a name up in what is written for a text equals looking it up in its declarations, the first binding
pub read_look_up : (r : Rule) (t end : List ℕ) (es : List Entity) → entities most (eols r t) ≡ read es end → length (pool_of es) ≤ 1048576
    → (name : List ℕ) → binding (list_of es) (pool_of es) name ≡ declared es name
read_look_up r t end es e short n = lookup_declared es (small_fits es (small_read (eols r t) end es e).1 0 (omega arith)) n
