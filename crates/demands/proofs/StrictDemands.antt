-- Document 02, K8 holds of the definitions. Assumes nothing.
use mathlib.Core.Path.{◌≡◌, refl, ap, sym, subst, ◌∙◌}
use Prim.Native.Nat.{ℕ, zero, suc, ◌≤◌}
use native.Mathlib.Omega.{arith}
use mathlib.Core.Bool.{true}
use mathlib.Core.Option.{some}
use mathlib.Core.List.{List, [], ◌∷◌}
use Rattle.text.specs.Version.{Rule, xml10, xml11}
use Rattle.entity.specs.Table.{marked}
use Rattle.entity.specs.Binding.{binding}
use Rattle.entity.proofs.Tables.{binding_good}
use Rattle.legal.specs.Legal.{is_char}
use Rattle.canonical.specs.Canonical.{canonical}
use Rattle.canonical.proofs.Canonical.{canonical_well_formed}
use Rattle.tokens.specs.Outcome.{Outcome, done, refused}
use Rattle.attribute.specs.Walk.{normalize, reading_of}
use Rattle.attribute.specs.Strict.{reading_by}
use Rattle.attribute.proofs.Strict.{strict_accepted}
use Rattle.attribute.proofs.Guarded.{Barred}
use Rattle.attribute.proofs.StrictReread.{first_fault}
use Rattle.attribute.proofs.StrictValues.{Characters, strict_legal}
use Rattle.attribute.proofs.StrictForms.{unrestricted, strict_again_10, strict_again_11, strict_again_26}
use Rattle.demands.specs.Characters.{decode}
use Rattle.demands.specs.Demands.{Asked, rule_for, Accepted, Taken, form_of, EqualExactly, DefinesNone, AskedAgain}
use Rattle.demands.specs.StrictDemands.{strictly_normalized, StrictlyAccepted, AllChar, restricted_from, Rereadable, StrictlyRereads, RefusedBy26}
use Rattle.demands.proofs.Agreement.{All}
use Rattle.demands.proofs.Demands.{leaves_predefined, demand_3_equal}
use Rattle.demands.proofs.StrictValues.{decode_may}

-- ---- strictly accepted values

-- K8: what is strictly accepted is accepted by the lenient reading, with the same value and openings
pub strictly_accepted : (a : Asked) (value : List ℕ) (openings : ℕ) → StrictlyAccepted a value openings → Accepted a value openings
unfolding reading_by
strictly_accepted a value openings p =
    record { taken = p.taken; reads = strict_accepted (rule_for a) a.list a.pool a.limit a.depth a.text value openings p.reads }

-- K8: "Two strictly accepted values keep the canonical equivalence"
pub strict_equal : (a b : Asked) (v w : List ℕ) (m n : ℕ) → rule_for a ≡ rule_for b → StrictlyAccepted a v m → StrictlyAccepted b w n → EqualExactly a b v w
strict_equal a b v w m n e p q = demand_3_equal a b v w m n e (strictly_accepted a v m p) (strictly_accepted b w n q)

accepted_characters : (a : Asked) (value : List ℕ) (openings : ℕ) → StrictlyAccepted a value openings → Characters (is_char (rule_for a)) value
unfolding reading_by reading_of
accepted_characters a value openings p =
    strict_legal (rule_for a) (marked a.list) (binding a.list a.pool) a.limit a.depth a.text value openings
    (binding_good a.list a.pool p.taken.table) p.taken.utf8 p.reads

all_char : (r : Rule) (cs : List ℕ) → All (λ (c : ℕ). is_char r c ≡ true) cs → AllChar r cs
all_char r [] h = tt
all_char r (c ∷ cs) h = (h.0, all_char r cs h.1)

-- K8: their characters match Char of the version
pub strict_chars : (a : Asked) (value : List ℕ) (openings : ℕ) → StrictlyAccepted a value openings → AllChar (rule_for a) (decode value)
strict_chars a value openings p = all_char (rule_for a) (decode value) (decode_may (is_char (rule_for a)) value (accepted_characters a value openings p))

-- ---- read again

restricted_fault : (t : List ℕ) (offset : ℕ) → first_fault unrestricted offset t ≡ restricted_from offset t
unfolding first_fault restricted_from
restricted_fault [] offset = refl
restricted_fault (b ∷ bs) offset = rw (restricted_fault bs (suc offset)) refl

barred_26 : (k : ℕ) (o : Outcome) → Barred k o → RefusedBy26 o k
barred_26 k (done value m) h = absurd h
barred_26 k (refused before m why first second) h = record { before = before; openings = m; refusal = rw (h.0, h.1, h.2) refl }

module _ (list pool : List ℕ) (free : DefinesNone list pool) (limit : ℕ) (value : List ℕ) where
  abbrev again : Rule → ℕ → Outcome
  again r depth = normalize (reading_by true r list pool limit) depth (canonical r value)

  reads_again : (r : Rule) → Characters (is_char r) value → Rereadable r (canonical r value) → (depth : ℕ) → 1 ≤ depth → again r depth ≡ done value 0
  unfolding reading_by reading_of
  reads_again r c h zero s = absurd (omega arith)
  reads_again xml10 c h (suc depth) s = strict_again_10 (marked list) (binding list pool) limit depth (leaves_predefined list pool free) value c
  reads_again xml11 c h (suc depth) s =
      strict_again_11 (marked list) (binding list pool) limit depth (leaves_predefined list pool free) value c (restricted_fault (canonical xml11 value) 0 ∙ h)

  refused_again : Characters (is_char xml11) value → (k : ℕ) → restricted_from 0 (canonical xml11 value) ≡ some k → (depth : ℕ) → 1 ≤ depth → RefusedBy26 (again xml11 depth) k
  unfolding reading_by reading_of
  refused_again c k h zero s = absurd (omega arith)
  refused_again c k h (suc depth) s =
      barred_26 k (again xml11 (suc depth))
      (strict_again_26 (marked list) (binding list pool) limit depth (leaves_predefined list pool free) value c k (restricted_fault (canonical xml11 value) 0 ∙ h))

module _ (a : Asked) (value : List ℕ) (openings : ℕ) (p : StrictlyAccepted a value openings) (b : Asked) (q : AskedAgain a value b) where
  form_text : b.text ≡ form_of b value
  form_text = q.form ∙ ap (λ (r : Rule). canonical r value) (sym q.version)

  form_characters : Characters (is_char (rule_for b)) value
  form_characters = subst (λ (r : Rule). Characters (is_char r) value) (sym q.version) (accepted_characters a value openings p)

  form_taken : Taken b
  form_taken =
      record {
        size = q.size;
        deep = q.deep;
        most = q.most;
        known = q.known;
        table = q.table;
        utf8 = rw form_text (canonical_well_formed (rule_for b) value form_characters.utf8);
      }

  -- K8: a form, but for one under 2 that holds a raw RestrictedChar, is strictly accepted again, gives the value it was written from with
  -- no opening, and is its own canonical form
  pub strict_again : Rereadable (rule_for b) b.text → StrictlyRereads value b
  strict_again h =
      let e = form_text in
      record {
        accepted = record {
          taken = form_taken;
          reads = rw e (reads_again b.list b.pool q.free b.limit value (rule_for b) form_characters (rw e at h) b.depth q.shallow);
        };
        itself = sym e;
      }

  -- K8: under 2 a form that holds one gets 26, with the offset of the first
  pub strict_again_refused : rule_for b ≡ xml11 → (k : ℕ) → restricted_from 0 b.text ≡ some k → RefusedBy26 (strictly_normalized b) k
  strict_again_refused e k h =
      let u : b.text ≡ canonical xml11 value = form_text ∙ ap (λ (r : Rule). canonical r value) e in
      let c : Characters (is_char xml11) value = subst (λ (r : Rule). Characters (is_char r) value) e form_characters in
      rw (e, u) (refused_again b.list b.pool q.free b.limit value c k (rw u at h) b.depth q.shallow)
