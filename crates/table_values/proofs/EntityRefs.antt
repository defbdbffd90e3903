-- References by their first byte (`reference_number`, `reference_entity`), and an entity's reference at a place of the text. Assumes nothing.
use mathlib.Core.Bool.{Bool, true, false}
use mathlib.Core.List.{List, [], ◌∷◌, ◌++◌}
use mathlib.Core.Path.{◌≡◌, refl, sym, ap, ◌∙◌, ap₂}
use Prim.Native.Nat.{ℕ, suc, ◌+◌, ◌-◌, ◌<◌}
use native.Mathlib.Omega.{arith}
use lib.Dec.{ltb}
use lib.ListN.{length, drop, get_or, take, length-drop}
use lib.Seq.{length-take-le, drop-drop}
use borrow.Author.Tests.{eqb-true, ne_eqb, eq-eqb, eqb-false, ltb-true, ltb-false}
use Rattle.table_values.proofs.Literals.{headed, stands_inside, literal_on, literal_off}
use Rattle.table_names.proofs.NamesPast.{NameAt, take_more}
use Rattle.table_values.proofs.LeftPlaces.{left_end, left_ascii}
use Rattle.table_grammar.specs.EntityValue.{Read, read, onward, literal, char_ref_from, entity_ref, reference, name}
use Rattle.table_names.specs.NameTerms.{left}
use Rattle.table_values.specs.ValueSteps.{Meets}
use Rattle.table_values.specs.declared.Fault.TheVariants.{Misplaced}
use Rattle.table_values.proofs.EntityValues.{going}
use Rattle.std.specs.Prelude.{Err}
use Rattle.output.specs.Over.{over}
use Rattle.text.proofs.Patterns.{at_head, begins_one}
use Rattle.text.specs.Bytes.{begins}
use Rattle.table_values.proofs.NameReads.{name_none, name_some}

-- ---- references

ref_hash : (quote b : ℕ) (t bs : List ℕ) → t ≡ b ∷ bs → b ≡ 35 → reference quote t ≡ char_ref_from quote [] bs
unfolding reference
ref_hash quote b t bs e q = rw (e, eq-eqb b 35 q)

ref_other : (quote b : ℕ) (t bs : List ℕ) → t ≡ b ∷ bs → (b ≡ 35 → ⊥) → reference quote t ≡ entity_ref t
unfolding reference
ref_other quote b t bs e q = rw (e, ne_eqb b 35 q)

ref_over : (quote : ℕ) (t : List ℕ) → t ≡ [] → reference quote t ≡ entity_ref t
unfolding reference
ref_over quote t e = rw e

module _ (quote : ℕ) (newer : Bool) (t : List ℕ) (i : ℕ) where
  pub reference_number : begins (35 ∷ []) (drop i t) ≡ true → reference quote (left newer t i) ≡ char_ref_from quote [] (left newer t (i + 1))
  reference_number e =
      let h = stands_inside newer t i 35 [] (omega arith) (omega arith) e in
      let q = eqb-true (get_or t i 0) 35 (begins_one 35 t i h ∙ e) in
      ref_hash quote (get_or t i 0) (left newer t i) (left newer t (i + 1)) (left_ascii newer t i h (omega arith) (omega arith)) q

  pub reference_entity : begins (35 ∷ []) (drop i t) ≡ false → reference quote (left newer t i) ≡ entity_ref (left newer t i)
  reference_entity e = go (ltb i (length t)) refl
    where
      go : (x : Bool) → ltb i (length t) ≡ x → reference quote (left newer t i) ≡ entity_ref (left newer t i)
      go true f =
          let h = ltb-true i (length t) f in
          let n = eqb-false (get_or t i 0) 35 (begins_one 35 t i h ∙ e) in
          let z = headed newer t i h in
          ref_other quote z.byte (left newer t i) z.rest z.is (z.other 35 n (λ q. absurd (omega arith)))
      go false f = ref_over quote (left newer t i) (left_end newer t i (ltb-false i (length t) f))

-- ---- an entity's reference, whose `&` is at i

module _ {newer : Bool} {t : List ℕ} (i : ℕ) {e : ℕ} (x : NameAt newer t (i + 1) e) (old : List ℕ) where
  ref_by : {r : Read (List ℕ)} → name (left newer t (i + 1)) ≡ r → entity_ref (left newer t (i + 1)) ≡ onward r (λ n end. onward (literal (59 ∷ []) end) (λ w rest. read (38 ∷ n ++ 59 ∷ []) rest))
  ref_by q = unfold entity_ref in ap (λ (r : Read (List ℕ)). onward r (λ n end. onward (literal (59 ∷ []) end) (λ w rest. read (38 ∷ n ++ 59 ∷ []) rest))) q

  pub ref_none : e ≡ i + 1 → Meets newer t i (entity_ref (left newer t (i + 1))) old old (Err (Misplaced e))
  ref_none q = record { value = []; is = ref_by (name_none x q); kept = (x.to, refl) }

  module _ (g : e ≡ i + 1 → ⊥) where
    some : i + 1 < e
    some = omega (arith, x.from, g)

    closed_by : {r : Read (List ℕ)} → literal (59 ∷ []) (left newer t e) ≡ r → entity_ref (left newer t (i + 1)) ≡ onward r (λ w rest. read (38 ∷ take (e - (i + 1)) (drop (i + 1) t) ++ 59 ∷ []) rest)
    closed_by q = ref_by (name_some x some) ∙ ap (λ (r : Read (List ℕ)). onward r (λ w rest. read (38 ∷ take (e - (i + 1)) (drop (i + 1) t) ++ 59 ∷ []) rest)) q

    pub ref_open : begins (59 ∷ []) (drop e t) ≡ false → Meets newer t i (entity_ref (left newer t (i + 1))) old old (Err (Misplaced e))
    ref_open q = record { value = []; is = closed_by (literal_off newer t e 59 [] (omega arith) (omega arith) q); kept = (x.to, refl) }

    module _ (h : i < length t) (amp : get_or t i 0 ≡ 38) (q : begins (59 ∷ []) (drop e t) ≡ true) where
      inside : e < length t
      inside = stands_inside newer t e 59 [] (omega arith) (omega arith) q

      -- the reference as it is written
      as_written : take (e + 1 - i) (drop i t) ≡ 38 ∷ take (e - (i + 1)) (drop (i + 1) t) ++ 59 ∷ []
      as_written =
          let n : e + 1 - i ≡ suc (e - (i + 1) + 1) = omega (arith, x.from) in
          let k : i + 1 + (e - (i + 1)) ≡ e = omega (arith, x.from) in
          let semi = eqb-true (get_or t e 0) 59 (begins_one 59 t e inside ∙ q) in
          ap₂ (λ (a : ℕ) (l : List ℕ). take a l) n (at_head t i h)
          ∙ ap₂ (λ (a : ℕ) (l : List ℕ). a ∷ l) amp (sym (take_more (e - (i + 1)) 1 (drop (i + 1) t)))
          ∙ ap (λ (l : List ℕ). 38 ∷ take (e - (i + 1)) (drop (i + 1) t) ++ take 1 l) (drop-drop (e - (i + 1)) (i + 1) t ∙ ap (λ (a : ℕ). drop a t) k ∙ at_head t e inside)
          ∙ ap (λ (a : ℕ). 38 ∷ take (e - (i + 1)) (drop (i + 1) t) ++ a ∷ []) semi

      written_size : length (take (e + 1 - i) (drop i t)) ≡ e + 1 - i
      written_size = length-take-le (e + 1 - i) (drop i t) (rw (length-drop i t) (omega (arith, inside)))

      literal_nothing : (l : List ℕ) → literal [] l ≡ read [] l
      literal_nothing l = unfold literal in refl

      pub ref_closed : {new : List ℕ} → new ≡ over (take (e + 1 - i) (drop i t)) old → Meets newer t i (entity_ref (left newer t (i + 1))) old new (going (e + 1) (e + 1 - i))
      ref_closed o =
          record {
            value = take (e + 1 - i) (drop i t);
            is =
                closed_by (literal_on newer t e 59 [] (omega arith) (omega arith) q ∙ literal_nothing (left newer t (e + 1)))
                ∙ ap (λ (l : List ℕ). read l (left newer t (e + 1))) (sym as_written);
            kept = record { on = omega (arith, x.from); to = omega (arith, inside); size = sym written_size; small = omega (arith, x.from); holds = o };
          }
