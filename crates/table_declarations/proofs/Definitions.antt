-- The definition of an entity; a declaration whole; what may stand after the most of them. Assumes nothing.
use mathlib.Core.Path.{◌≡◌, refl, sym, ap, ◌∙◌}
use mathlib.Core.Bool.{Bool, true, false, ◌||◌, ◌&&◌, not, true≢false}
use mathlib.Core.List.{List, [], ◌∷◌}
use Prim.Native.Nat.{ℕ, ◌+◌, ◌-◌, ◌≤◌, ◌<◌, min}
use native.Mathlib.Omega.{arith}
use lib.Dec.{eqb}
use lib.ListN.{length, drop, get_or}
use borrow.Author.Tests.{ne_eqb, eqb-true, eqb-false}
use borrow.Rule.Slice.PartMut.{mid_of, put_mid}
use Rattle.text.specs.Bytes.{begins}
use Rattle.output.proofs.Clip.{over_more, length_over}
use Rattle.table_grammar.specs.EntityValue.{Read, read, departs, exceeds, onward, literal, after_space, value_from, entity_value}
use Rattle.table_grammar.specs.EntityDecl.{opening, declared_name, definition, Entity, entity, no_more}
use Rattle.table_names.specs.NameTerms.{left}
use Rattle.table_values.specs.ValueSteps.{Meets, Spaced}
use Rattle.table_declarations.specs.DeclarationSteps.{MeetsEntity}
use Rattle.table_values.specs.declared.Next.{Next}
use Rattle.table_values.specs.declared.Fault.{Fault}
use Rattle.table_values.specs.declared.Fault.TheVariants.{Misplaced}
use Rattle.std.specs.Prelude.{Ok, Err}
use Rattle.table_values.proofs.LeftPlaces.{left_end, left_ascii}
use Rattle.table_values.proofs.Literals.{headed, stands_inside, literal_on, literal_off}
use Rattle.table_values.proofs.EntityValues.{fault_onward, fault_same, fault_length, put_same, going}

-- ---- the definition of an entity

literal_nothing : (t : List ℕ) → literal [] t ≡ read [] t
unfolding literal
literal_nothing t = refl

definition_by : (t : List ℕ) {r : Read (List ℕ)} → entity_value t ≡ r → definition t ≡ onward r (λ v end. onward (literal (62 ∷ []) (after_space end)) (λ w rest. read v rest))
unfolding definition
definition_by t e = ap (λ (r : Read (List ℕ)). onward r (λ v end. onward (literal (62 ∷ []) (after_space end)) (λ w rest. read v rest))) e

value_none : (t : List ℕ) → t ≡ [] → entity_value t ≡ departs t
unfolding entity_value
value_none t e = rw e

value_bare : (b : ℕ) (t bs : List ℕ) → t ≡ b ∷ bs → (b ≡ 34 → ⊥) → (b ≡ 39 → ⊥) → entity_value t ≡ departs t
unfolding entity_value
value_bare b t bs e n m = rw (e, ne_eqb b 34 n, ne_eqb b 39 m)

value_quoted : (b : ℕ) (t bs : List ℕ) → t ≡ b ∷ bs → eqb b 34 || eqb b 39 ≡ true → entity_value t ≡ value_from b [] 0 bs
unfolding entity_value
value_quoted b t bs e q = rw (e, q)

not_both : (x y : Bool) → not x && not y ≡ true → (x ≡ false) × (y ≡ false)
not_both true y e = (sym e, absurd (true≢false (sym e)))
not_both false true e = (refl, sym e)
not_both false false e = (refl, refl)

one_of : (x y : Bool) → not x && not y ≡ false → x || y ≡ true
one_of true y e = refl
one_of false true e = refl
one_of false false e = sym e

-- a quote is printable ASCII
pub quote_ascii : (b : ℕ) → not (eqb b 34) && not (eqb b 39) ≡ false → (33 ≤ b) × (b < 0x80)
quote_ascii b e = go (eqb b 34) refl (eqb b 39) refl (one_of (eqb b 34) (eqb b 39) e)
  where
    go : (x : Bool) → eqb b 34 ≡ x → (y : Bool) → eqb b 39 ≡ y → x || y ≡ true → (33 ≤ b) × (b < 0x80)
    go true f y g z = let q = eqb-true b 34 f in (omega arith, omega arith)
    go false f true g z = let q = eqb-true b 39 g in (omega arith, omega arith)
    go false f false g z = absurd (true≢false (sym z))

module _ (newer : Bool) (t : List ℕ) (i : ℕ) (old : List ℕ) where
  pub definition_over : i ≤ length t → i ≡ length t → Meets newer t i (definition (left newer t i)) old old (Err (Misplaced i))
  definition_over h e = record { value = []; is = definition_by (left newer t i) (value_none (left newer t i) (left_end newer t i (omega arith))); kept = (h, refl) }

  module _ (h : i < length t) where
    pub definition_bare : not (eqb (get_or t i 0) 34) && not (eqb (get_or t i 0) 39) ≡ true → Meets newer t i (definition (left newer t i)) old old (Err (Misplaced i))
    definition_bare e =
        let n = not_both (eqb (get_or t i 0) 34) (eqb (get_or t i 0) 39) e in
        let z = headed newer t i h in
        record {
          value = [];
          is =
              definition_by (left newer t i)
              (value_bare z.byte (left newer t i) z.rest z.is (z.other 34 (eqb-false (get_or t i 0) 34 n.0) (λ q. absurd (omega arith)))
              (z.other 39 (eqb-false (get_or t i 0) 39 n.1) (λ q. absurd (omega arith))));
          kept = (omega arith, refl);
        }

    module _ (q : not (eqb (get_or t i 0) 34) && not (eqb (get_or t i 0) 39) ≡ false) where
      opened : {r : Read (List ℕ)} → value_from (get_or t i 0) [] 0 (left newer t (i + 1)) ≡ r
          → definition (left newer t i) ≡ onward r (λ v end. onward (literal (62 ∷ []) (after_space end)) (λ w rest. read v rest))
      opened e =
          let a = quote_ascii (get_or t i 0) q in
          definition_by (left newer t i)
          (value_quoted (get_or t i 0) (left newer t i) (left newer t (i + 1)) (left_ascii newer t i h (omega (arith, a.0)) (omega (arith, a.1)))
          (one_of (eqb (get_or t i 0) 34) (eqb (get_or t i 0) 39) q) ∙ e)

      pub definition_stopped : {new : List ℕ} {f : Fault} → Meets newer t (i + 1) (value_from (get_or t i 0) [] 0 (left newer t (i + 1))) old new (Err f)
          → Meets newer t i (definition (left newer t i)) old new (Err f)
      definition_stopped {new} {f} m =
          record {
            value = [];
            is = opened m.is ∙ fault_onward newer t f (λ v end. onward (literal (62 ∷ []) (after_space end)) (λ w rest. read v rest));
            kept = m.kept;
          }

      module _ {new : List ℕ} {next : Next} {end : ℕ} (m : Meets newer t (i + 1) (value_from (get_or t i 0) [] 0 (left newer t (i + 1))) old new (Ok next)) (sp : Spaced newer t next.at end) where
        closing : {r : Read (List ℕ)} → literal (62 ∷ []) (left newer t end) ≡ r → definition (left newer t i) ≡ onward r (λ w rest. read m.value rest)
        closing e =
            opened m.is ∙ ap (λ (l : List ℕ). onward (literal (62 ∷ []) l) (λ w rest. read m.value rest)) sp.rest
            ∙ ap (λ (r : Read (List ℕ)). onward r (λ w rest. read m.value rest)) e

        pub definition_unclosed : begins (62 ∷ []) (drop end t) ≡ false → Meets newer t i (definition (left newer t i)) old new (Err (Misplaced end))
        definition_unclosed e =
            record {
              value = [];
              is = closing (literal_off newer t end 62 [] (omega arith) (omega arith) e);
              kept = (sp.to, ap length m.kept.holds ∙ length_over m.value old);
            }

        pub definition_closed : begins (62 ∷ []) (drop end t) ≡ true → Meets newer t i (definition (left newer t i)) old new (going (end + 1) next.len)
        definition_closed e =
            let k = m.kept in
            let inside = stands_inside newer t end 62 [] (omega arith) (omega arith) e in
            record {
              value = m.value;
              is = closing (literal_on newer t end 62 [] (omega arith) (omega arith) e ∙ literal_nothing (left newer t (end + 1)));
              kept =
                  record {
                    on = omega (arith, k.on, sp.from);
                    to = omega arith;
                    size = k.size;
                    small = omega (arith, k.small, sp.from);
                    holds = k.holds;
                  };
            }

-- ---- a declaration

nobody : Entity
nobody = record { name = []; value = [] }

module _ (newer : Bool) (t : List ℕ) (i : ℕ) (old : List ℕ) where
  entity_by : {r : Read (List ℕ)} → opening (left newer t i) ≡ r
      → entity (left newer t i) ≡ onward r (λ w t1. onward (declared_name t1) (λ n t2. onward (definition t2) (λ v t3. read (record { name = n; value = v }) t3)))
  entity_by e =
      unfold entity in
      ap (λ (r : Read (List ℕ)). onward r (λ w t1. onward (declared_name t1) (λ n t2. onward (definition t2) (λ v t3. read (record { name = n; value = v }) t3)))) e

  pub entity_unopened : {f : Fault} → Meets newer t i (opening (left newer t i)) old old (Err f) → MeetsEntity newer t i (entity (left newer t i)) old old (Err f)
  entity_unopened {f} m =
      record {
        entity = nobody;
        is = entity_by m.is ∙ fault_onward newer t f (λ w t1. onward (declared_name t1) (λ n t2. onward (definition t2) (λ v t3. read (record { name = n; value = v }) t3)));
        kept = m.kept;
      }

  module _ {start : Next} (o : Meets newer t i (opening (left newer t i)) old old (Ok start)) where
    named_by : {r : Read (List ℕ)} → declared_name (left newer t start.at) ≡ r
        → entity (left newer t i) ≡ onward r (λ n t2. onward (definition t2) (λ v t3. read (record { name = n; value = v }) t3))
    named_by e =
        entity_by o.is
        ∙ ap (λ (r : Read (List ℕ)). onward r (λ n t2. onward (definition t2) (λ v t3. read (record { name = n; value = v }) t3))) e

    pub entity_unnamed : {new : List ℕ} {f : Fault} → Meets newer t start.at (declared_name (left newer t start.at)) old new (Err f)
        → MeetsEntity newer t i (entity (left newer t i)) old new (Err f)
    entity_unnamed {new} {f} m =
        record {
          entity = nobody;
          is = named_by m.is ∙ fault_onward newer t f (λ n t2. onward (definition t2) (λ v t3. read (record { name = n; value = v }) t3));
          kept = m.kept;
        }

    module _ {new : List ℕ} {name : Next} {w : ℕ} (n : Meets newer t start.at (declared_name (left newer t start.at)) old new (Ok name)) (fits : w ≡ min name.len (length new)) where
      defined_by : {r : Read (List ℕ)} → definition (left newer t name.at) ≡ r → entity (left newer t i) ≡ onward r (λ v t3. read (record { name = n.value; value = v }) t3)
      defined_by e = named_by n.is ∙ ap (λ (r : Read (List ℕ)). onward r (λ v t3. read (record { name = n.value; value = v }) t3)) e

      new_length : length new ≡ length old
      new_length = ap length n.kept.holds ∙ length_over n.value old

      pub entity_undefined : {part : List ℕ} {f : Fault} → Meets newer t name.at (definition (left newer t name.at)) (mid_of w (length new - w) new) part (Err f)
          → MeetsEntity newer t i (entity (left newer t i)) old (put_mid w (length new - w) new part) (Err f)
      entity_undefined {part} {f} m =
          record {
            entity = nobody;
            is = defined_by m.is ∙ fault_onward newer t f (λ v t3. read (record { name = n.value; value = v }) t3);
            kept =
                fault_same t (mid_of w (length new - w) new) part old (put_mid w (length new - w) new part) f m.kept
                (put_same w new part (omega (arith, fits)) (fault_length t (mid_of w (length new - w) new) part f m.kept) ∙ new_length);
          }

      pub entity_declared : {part : List ℕ} {value : Next} → Meets newer t name.at (definition (left newer t name.at)) (mid_of w (length new - w) new) part (Ok value)
          → MeetsEntity newer t i (entity (left newer t i)) old (put_mid w (length new - w) new part) (Ok (record { at = value.at; name = name.len; value = value.len }))
      entity_declared {part} {value} m =
          record {
            entity = record { name = n.value; value = m.value };
            is = defined_by m.is;
            kept =
                record {
                  on = omega (arith, o.kept.on, n.kept.on, m.kept.on);
                  to = m.kept.to;
                  named = n.kept.size;
                  valued = m.kept.size;
                  small = omega (arith, o.kept.on, n.kept.small, m.kept.small);
                  holds = over_more n.value m.value old n.kept.holds n.kept.size fits m.kept.holds;
                };
          }

-- ---- after the most declarations

pub beyond_open : (newer : Bool) (t : List ℕ) (i : ℕ) → i < length t → get_or t i 0 ≡ 60 → no_more (left newer t i) ≡ exceeds (left newer t i)
beyond_open newer t i h e =
    let z : left newer t i ≡ 60 ∷ left newer t (i + 1) = rw e at (left_ascii newer t i h (omega arith) (omega arith)) in
    ap no_more z ∙ more (left newer t (i + 1)) ∙ ap (λ (l : List ℕ). exceeds l) (sym z)
  where
    more : (bs : List ℕ) → no_more (60 ∷ bs) ≡ exceeds (60 ∷ bs)
    more bs = unfold no_more in refl

pub beyond_other : (newer : Bool) (t : List ℕ) (i : ℕ) → i < length t → (get_or t i 0 ≡ 60 → ⊥) → no_more (left newer t i) ≡ departs (left newer t i)
beyond_other newer t i h n =
    let z = headed newer t i h in
    ap no_more z.is ∙ more z.byte z.rest (z.other 60 n (λ q. absurd (omega arith))) ∙ ap (λ (l : List ℕ). departs l) (sym z.is)
  where
    more : (b : ℕ) (bs : List ℕ) → (b ≡ 60 → ⊥) → no_more (b ∷ bs) ≡ departs (b ∷ bs)
    more b bs m = unfold no_more in rw (ne_eqb b 60 m)
