-- What a step answers at each kind of reference. Assumes nothing.
use mathlib.Core.Path.{◌≡◌, refl, sym, ap, subst, ◌∙◌}
use mathlib.Core.Logic.{◌≢◌}
use mathlib.Core.Bool.{true}
use mathlib.Core.List.{List}
use Prim.Native.Nat.{ℕ, ◌+◌, ◌-◌, ◌≤◌, ◌<◌}
use native.Mathlib.Omega.{arith}
use native.Mathlib.Numerals.{add-one}
use lib.ListN.{length, get_or, take, drop, set, length-drop}
use lib.Seq.{length-take-le}
use borrow.Author.Tests.{eq-eqb}
use Rattle.charref.specs.CharRef.{any_character, encode}
use Rattle.charref.specs.Reading.{Found}
use Rattle.charref.specs.declared.Quick.{Quick}
use Rattle.entity.specs.Binding.{Bound, bound_to, Lies}
use Rattle.entity.specs.declared.Binding.TheVariants.{Text, External, Predefined, Unknown}
use Rattle.output.specs.Over.{over}
use Rattle.runs.specs.RunEnds.{is_amp}
use Rattle.tokens.specs.Tokens.{stop, unterminated}
use Rattle.tokens.specs.Outcome.{Outcome, done, refused, number_outcome}
use Rattle.tokens.specs.Walking.{Copies, NameEnd, head_at, Stepped}
use Rattle.tokens.specs.Walking.{Step}
use Rattle.tokens.specs.Walking.{Next, Stopped}
use Rattle.tokens.proofs.Steps.{stepped_at, stepped_refused, stepped_byte}
use Rattle.tokens.proofs.Numbers.{Small, number_small, number_written}
use Rattle.tokens.proofs.Names.{closed_reference}
use Rattle.tokens.proofs.References.{reference, reference_none, reference_number, reference_named}
use Rattle.unescape.specs.Unescape.{text_head, copied, replaced}
use Rattle.unescape.specs.Steps.{Short, Near, Named, Referred}

-- every byte but `&` is copied
pub others_copied : Copies is_amp text_head
unfolding text_head
others_copied offset b bs e = rw e

-- ---- a name that is looked up

module _ (pool name : List ℕ) (i next : ℕ) {bound : Bound} where
  -- a text of the table
  pub named_text : (s e : ℕ) {old new : List ℕ} → bound_to pool (Text s e) ≡ bound → Lies pool (Text s e)
      → new ≡ over (take (e - s) (drop s pool)) old → Named bound name i next old new (Next next (e - s) 0)
  unfolding copied bound_to
  named_text s e {old} {new} q l w =
      let n : length (take (e - s) (drop s pool)) ≡ e - s = length-take-le (e - s) (drop s pool) (rw length-drop (omega arith)) in
      subst (λ (b : Bound). Named b name i next old new (Next next (e - s) 0)) q (record {
        step = record { answers = ap (λ (k : ℕ). Next next k 0) (sym n); writes = w };
        short = (rw n (omega arith), refl);
      })

  -- one of the five
  pub named_predefined : (b : ℕ) {old new : List ℕ} → bound_to pool (Predefined b) ≡ bound → new ≡ set old 0 b
      → Named bound name i next old new (Next next 1 0)
  unfolding copied bound_to
  named_predefined b {old} {new} q w =
      subst (λ (d : Bound). Named d name i next old new (Next next 1 0)) q
      (record { step = stepped_byte b w; short = (omega arith, refl) })

  -- refusal 27
  pub named_external : {old : List ℕ} → bound_to pool External ≡ bound → Named bound name i next old old (Stopped 27 i 0)
  unfolding copied bound_to
  named_external {old} q =
      subst (λ (d : Bound). Named d name i next old old (Stopped 27 i 0)) q
      (record { step = stepped_refused refl refl; short = tt })

  -- refusal 11
  pub named_unknown : {size : ℕ} {old : List ℕ} → length name ≡ size → bound_to pool Unknown ≡ bound
      → Named bound name i next old old (Stopped 11 (i + 1) (i + 1 + size))
  unfolding copied bound_to
  named_unknown {size} {old} n q =
      subst (λ (d : Bound). Named d name i next old old (Stopped 11 (i + 1) (i + 1 + size))) q
      (record { step = stepped_refused refl (rw (sym n, add-one i)); short = tt })

  -- a name that is looked up is what its binding stands for
  pub named_as : {b : Bound} {old new : List ℕ} {r : Step} → b ≡ bound → Named b name i next old new r → Named bound name i next old new r
  named_as {b} {old} {new} {r} q n = subst (λ (d : Bound). Named d name i next old new r) q n

-- ---- a reference

near_of : (text : List ℕ) {i next : ℕ} (o : Outcome) {old new : List ℕ} {r : Step} → Stepped next o old new r → Short o → i < next → next ≤ length text
    → Near text i r
near_of text (done value openings) s h l m = rw s.answers (l, m, h.0, h.1)
near_of text (refused before openings k first second) s h l m = rw s.answers tt

small_short : (o : Outcome) → Small 0 o → Short o
small_short (done value openings) h = (omega arith, h.1)
small_short (refused before openings k first second) h = tt

module _ (bind : List ℕ → Bound) (text : List ℕ) (i e : ℕ) (amp : get_or text i 0 ≡ 38) (n : NameEnd true text (i + 1) e) where
  at_amp : head_at text_head text i ≡ reference true text i e n
  unfolding text_head
  at_amp = rw (eq-eqb (get_or text i 0) 38 amp)

  -- refusal 10
  pub referred_none : e ≡ length text → {old : List ℕ} → Referred bind text i old old (Stopped 10 i e)
  unfolding replaced
  referred_none q = record {
    step =
        stepped_at text_head (replaced bind) text i 0 {t = stop (unterminated i e)} {next = i + 1 + 0} (at_amp ∙ reference_none true text i e n q) refl
        (stepped_refused refl refl);
    near = tt;
  }

  module _ (h : e < length text) where
    pub referred_number : {old new : List ℕ} {r : Step} → get_or text (i + 1) 0 ≡ 35
        → Stepped (e + 1) (number_outcome any_character (take (e - (i + 1 + 1)) (drop (i + 1 + 1) text)) 0) old new r
        → Referred bind text i old new r
    unfolding replaced
    referred_number b s = record {
      step =
          stepped_at text_head (replaced bind) text i 0 (at_amp ∙ reference_number true text i e n h b) (omega (arith, n.from)) s;
      near =
          near_of text (number_outcome any_character (take (e - (i + 1 + 1)) (drop (i + 1 + 1) text)) 0) s
          (small_short (number_outcome any_character (take (e - (i + 1 + 1)) (drop (i + 1 + 1) text)) 0) (number_small any_character (take (e - (i + 1 + 1)) (drop (i + 1 + 1) text)) 0))
          (omega (arith, n.from)) (omega arith);
    }

    pub referred_name : {old new : List ℕ} {r : Step} → get_or text (i + 1) 0 ≢ 35
        → Named (bind (take (e - (i + 1)) (drop (i + 1) text))) (take (e - (i + 1)) (drop (i + 1) text)) i (e + 1) old new r
        → Referred bind text i old new r
    unfolding replaced
    referred_name b s = record {
      step = stepped_at text_head (replaced bind) text i 0 (at_amp ∙ reference_named true text i e n h b) (omega (arith, n.from)) s.step;
      near =
          near_of text (copied i (take (e - (i + 1)) (drop (i + 1) text)) (bind (take (e - (i + 1)) (drop (i + 1) text))) 0) s.step s.short
          (omega (arith, n.from)) (omega arith);
    }

-- a character that is found at once
pub referred_char : (bind : List ℕ → Bound) (text : List ℕ) (i : ℕ) (q : Quick) {old new : List ℕ} {r : Step} → get_or text i 0 ≡ 38 → get_or text (i + 1) 0 ≡ 35
    → Found text (i + 1 + 1) q → Stepped (q.end + 1) (done (encode q.c) 0) old new r → Referred bind text i old new r
referred_char bind text i q amp b f s =
    referred_number bind text i q.end amp (closed_reference true text b f.closed) f.closed.inside b
    (number_written (take (q.end - (i + 1 + 1)) (drop (i + 1 + 1) text)) (q.end + 1) 0 f.character s)
