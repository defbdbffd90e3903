-- A declared name, and the white space after it, at a place of the text. Assumes nothing.
use mathlib.Core.Path.{◌≡◌, refl, sym, ap, ◌∙◌}
use mathlib.Core.Bool.{Bool}
use mathlib.Core.List.{List, []}
use Prim.Native.Nat.{ℕ, ◌-◌, ◌≤◌, ◌<◌}
use native.Mathlib.Omega.{arith}
use lib.Dec.{ltb}
use lib.ListN.{length, take, drop}
use borrow.Author.Tests.{lt-ltb, le-ltb}
use Rattle.text.specs.Bytes.{pick}
use Rattle.output.specs.Over.{over}
use Rattle.table_grammar.specs.EntityValue.{Read, read, exceeds, onward, space, name}
use Rattle.table_grammar.specs.EntityDecl.{declared_name}
use Rattle.table_names.specs.NameTerms.{left}
use Rattle.table_values.specs.ValueSteps.{Meets, Spaced}
use Rattle.table_values.specs.declared.Next.{Next}
use Rattle.table_values.specs.declared.Fault.{Fault}
use Rattle.table_values.specs.declared.Fault.TheVariants.{Misplaced, Excessive}
use Rattle.std.specs.Prelude.{Result, Err}
use Rattle.table_values.proofs.EntityValues.{going}
use Rattle.table_names.proofs.NamesPast.{NameAt}
use Rattle.table_values.proofs.NameReads.{part_size, name_none, name_some}

-- a name, and then the white space after it
abbrev spaced : List ℕ → List ℕ → Read (List ℕ) → Read (List ℕ)
spaced n end r = onward r (λ w rest. pick (ltb 255 (length n)) (exceeds end) (read n rest))

abbrev named : Read (List ℕ) → Read (List ℕ)
named r = onward r (λ n end. spaced n end (space end))

declared_by : (t : List ℕ) {r : Read (List ℕ)} → name t ≡ r → declared_name t ≡ named r
unfolding declared_name
declared_by t q = ap named q

module _ {newer : Bool} {t : List ℕ} {i e : ℕ} (x : NameAt newer t i e) where
  -- the name as it stands
  abbrev part : List ℕ
  part = take (e - i) (drop i t)

  abbrev DeclaredBy : List ℕ → List ℕ → Result Next Fault → Type 0
  DeclaredBy old new step = Meets newer t i (declared_name (left newer t i)) old new step

  pub declared_none : (old : List ℕ) → e ≡ i → DeclaredBy old old (Err (Misplaced e))
  declared_none old q = record { value = []; is = declared_by (left newer t i) (name_none x q); kept = (x.to, refl) }

  module _ (h : i < e) (old : List ℕ) {at : ℕ} (s : Spaced newer t e at) where
    spaced_by : {r : Read (List ℕ)} → space (left newer t e) ≡ r → declared_name (left newer t i) ≡ spaced part (left newer t e) r
    spaced_by q = declared_by (left newer t i) (name_some x h) ∙ ap (spaced part (left newer t e)) q

    pub declared_bare : at ≡ e → DeclaredBy old old (Err (Misplaced e))
    declared_bare q = record { value = []; is = spaced_by (s.none q); kept = (x.to, refl) }

    module _ (g : at ≡ e → ⊥) where
      gone : e < at
      gone = omega (arith, s.from, g)

      -- by whether it is too long
      sized : {long : Bool} → ltb 255 (length part) ≡ long → declared_name (left newer t i) ≡ pick long (exceeds (left newer t e)) (read part (left newer t at))
      sized q = spaced_by (s.some gone) ∙ ap (λ (long : Bool). pick long (exceeds (left newer t e)) (read part (left newer t at))) q

      pub declared_long : 255 < e - i → DeclaredBy old old (Err (Excessive e))
      declared_long l = record { value = []; is = sized (lt-ltb 255 (length part) (omega (arith, part_size x, l))); kept = (x.to, refl) }

      pub declared_done : {new : List ℕ} → e - i ≤ 255 → new ≡ over part old → DeclaredBy old new (going at (e - i))
      declared_done l o =
          record {
            value = part;
            is = sized (le-ltb 255 (length part) (omega (arith, part_size x, l)));
            kept = record { on = omega (arith, h, s.from); to = s.to; size = sym (part_size x); small = omega (arith, x.from, s.from); holds = o };
          }
