-- The offset of a place: what is left from there on, taken off the whole. Assumes nothing.
use mathlib.Core.Path.{◌≡◌, ap, ◌∙◌}
use mathlib.Core.Bool.{Bool}
use mathlib.Core.List.{List, [], ◌∷◌}
use Prim.Native.Nat.{ℕ, ◌-◌}
use lib.ListN.{length}
use borrow.Rule.Slice.PartMut.{mid_of}
use Rattle.std.specs.Prelude.{Err}
use Rattle.text.specs.Call.{answered, call_of}
use Rattle.text.specs.Refusals.{second_of}
use Rattle.text.specs.declared.refusals.Refusal.{Refusal}
use Rattle.text.specs.Answers.{Answer}
use Rattle.text.specs.Answers.{Refused}
use Rattle.output.proofs.Laid.{rest_part}
use Rattle.eols.specs.LineEnds.{eols, eols_from}
use Rattle.eols.specs.Stops.{rule_for}
use Rattle.table_grammar.specs.TableWritten.{tabled}
use Rattle.table_names.specs.NameTerms.{left}
use Rattle.table_values.specs.ValueSteps.{fault}
use Rattle.table_values.specs.declared.Fault.{Fault}
use Rattle.table_values.specs.declared.Fault.TheVariants.{Misplaced, Excessive, Refused as Wrong}

pub whole_counts : (newer : Bool) (t : List ℕ) {n : ℕ} → n ≡ length (eols (rule_for newer) t) → n ≡ length (left newer t 0)
unfolding eols
whole_counts newer t e = e

pub rest_counts : (newer : Bool) (t : List ℕ) (at : ℕ) {n : ℕ} → n ≡ length (eols (rule_for newer) (mid_of at (length t - at) t)) → n ≡ length (left newer t at)
unfolding eols
rest_counts newer t at e = e ∙ ap (λ (l : List ℕ). length (eols_from (rule_for newer) 0 l)) (rest_part at t)

module _ (newer : Bool) (t list pool : List ℕ) where
  pub answer_misplaced : (f : Fault) (a : Answer) {at : ℕ} → f ≡ Misplaced at → a ≡ Refused 21 (length (left newer t 0) - length (left newer t at)) 0
      → call_of a (list ∷ pool ∷ []) ≡ tabled (left newer t 0) (fault newer t f) list pool
  unfolding tabled
  answer_misplaced f a e q = rw (e, q)

  pub answer_excessive : (f : Fault) (a : Answer) {at : ℕ} → f ≡ Excessive at → a ≡ Refused 22 (length (left newer t 0) - length (left newer t at)) 0
      → call_of a (list ∷ pool ∷ []) ≡ tabled (left newer t 0) (fault newer t f) list pool
  unfolding tabled
  answer_excessive f a e q = rw (e, q)

  pub answer_refused : (f : Fault) {r : Refusal} → f ≡ Wrong r → second_of r ≡ 0
      → call_of (answered (Err r)) (list ∷ pool ∷ []) ≡ tabled (left newer t 0) (fault newer t f) list pool
  unfolding tabled
  answer_refused f e q = rw (e, q)
