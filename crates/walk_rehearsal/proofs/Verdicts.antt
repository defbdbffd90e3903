-- The verdict on a value: an answer without room gives it (`verdict_read`), a simple text is its own value (`verdict_simple`), one that is not
-- UTF-8 falls by 5 (`verdict_utf8`), and every verdict is modest (`verdict_modest`, `reads_so`). Assumes nothing.
use mathlib.Core.Path.{◌≡◌, refl, sym, subst}
use mathlib.Core.Bool.{Bool, true, false}
use mathlib.Core.List.{List, []}
use Prim.Native.Nat.{ℕ, ◌≤◌, ◌<◌}
use native.Mathlib.Omega.{arith}
use lib.Dec.{ltb}
use lib.ListN.{length, get_or}
use Rattle.text.specs.Bytes.{pick}
use Rattle.text.specs.Utf8.{well_formed, WellFormed, utf8_end}
use Rattle.text.specs.Version.{Rule, rule_of}
use Rattle.text.specs.Answers.{Done, Refused}
use Rattle.text.proofs.Bytes.{pick_both}
use Rattle.text.proofs.Utf8.{tested, testable}
use Rattle.text.proofs.Longest.{whole_end}
use Rattle.entity.specs.Table.{marked}
use Rattle.entity.specs.Binding.{binding}
use Rattle.tokens.specs.Outcome.{Outcome, done, refused, answer_in}
use Rattle.attribute.specs.Walk.{Settings, normalize, reading_of}
use Rattle.attribute.specs.Strict.{reading_by}
use Rattle.attribute.proofs.Values.{table_length, openings_within}
use Rattle.normalize.specs.declared.Wanted.{Wanted}
use Rattle.normalize.specs.Calls.{outcome_for}
use Rattle.walk_rehearsal.specs.declared.Job.{Job}
use Rattle.walk_rehearsal.specs.Rehearsal.{Verdict}
use Rattle.walk_rehearsal.specs.Rehearsal.{Accepted, Fallen}
use Rattle.walk_rehearsal.specs.Rehearsal.{verdict, verdict_of}
use Rattle.walk_rehearsal.specs.Turns.{verdict_by, settings_of, Modest, Reads}
use Rattle.walk_rehearsal.proofs.WalkNumbers.{Numbered, normalize_numbered}

-- 19 is no number of the walk: without room it is acceptance
read_so : (o : Outcome) → Numbered o → verdict_by (answer_in 19 o []) ≡ verdict o
unfolding answer_in verdict
read_so (done value openings) h = go (ltb 0 (length value))
  where
    go : (b : Bool) → verdict_by (pick b (Refused 19 (length value) 0) (Done (length value) openings)) ≡ Accepted (length value)
    go true = refl
    go false = refl
read_so (refused before openings why first second) h = rw h.roomy

module _ (s : Settings) (depth : ℕ) (t : List ℕ) where
  pub verdict_read : WellFormed t → verdict_by (answer_in 19 (normalize s depth t) []) ≡ verdict_of s depth t
  unfolding verdict_of
  verdict_read w = rw (testable t w) (read_so (normalize s depth t) (normalize_numbered s depth t))

  pub verdict_simple : WellFormed t → normalize s depth t ≡ done t 0 → Accepted (length t) ≡ verdict_of s depth t
  unfolding verdict_of verdict
  verdict_simple w e = rw (testable t w, e)

  pub verdict_utf8 : (utf8_end t ≡ length t → ⊥) → Fallen 5 ≡ verdict_of s depth t
  unfolding verdict_of
  verdict_utf8 n = go (well_formed t) refl
    where
      go : (b : Bool) → well_formed t ≡ b → Fallen 5 ≡ pick b (verdict (normalize s depth t)) (Fallen 5)
      go true q = absurd (n (whole_end t (tested t q)))
      go false q = refl

module _ (r : Rule) (list pool : List ℕ) (limit depth : ℕ) (t : List ℕ) where
  few_openings : (value : List ℕ) (openings : ℕ) → normalize (reading_of r list pool limit) depth t ≡ done value openings → openings ≤ limit
  unfolding reading_of
  few_openings = openings_within r (marked list) (binding list pool) limit depth t

  pub verdict_modest : ((k : ℕ) → get_or list k 0 < 0x100) → length t ≤ 16777216 → limit ≤ 1000000 → Modest (verdict_of (reading_of r list pool limit) depth t)
  unfolding verdict_of verdict
  verdict_modest bytes short limited =
      pick_both Modest (well_formed t) {b = Fallen 5} (go (normalize s depth t) refl (normalize_numbered s depth t)) (omega arith, omega arith)
    where
      s : Settings
      s = reading_of r list pool limit

      go : (o : Outcome) → normalize s depth t ≡ o → Numbered o → Modest (verdict o)
      go (done value openings) e h =
          omega (arith, short, limited, few_openings value openings e, table_length r list pool limit depth t value openings e bytes)
      go (refused before openings why first second) e h = (omega (arith, h.from), h.upto)

-- what normalization is asked for a value
abbrev pub wanted_for : Job → Wanted
wanted_for j = record { version = j.version; strict = false; depth = j.depth; limit = j.limit }

module _ (j : Job) (list pool t : List ℕ) where
  pub lenient : outcome_for (wanted_for j) list pool t ≡ normalize (settings_of j list pool) j.depth t
  unfolding reading_by
  lenient = refl

  pub reads_so : ((k : ℕ) → get_or list k 0 < 0x100) → length t ≤ 16777216 → j.limit ≤ 1000000 → {v : Verdict} → v ≡ verdict_of (settings_of j list pool) j.depth t
      → Reads j list pool t v
  reads_so bytes short limited {v} e =
      record { is = e; modest = subst Modest (sym e) (verdict_modest (rule_of j.version) list pool j.limit j.depth t bytes short limited) }
