-- What a reference means (`means_none`, `means_number`, `means_quick`, `means_amp`, `means_name`, `plain_two`), by the places at which the
-- code tells.
-- Assumes nothing.
use mathlib.Core.Path.{◌≡◌, refl, sym, ap, subst, ◌∙◌}
use mathlib.Core.Logic.{◌≢◌}
use mathlib.Core.Bool.{Bool, true, false, true≢false}
use mathlib.Core.List.{List, [], ◌∷◌}
use Prim.Native.Nat.{ℕ, ◌+◌, ◌-◌, ◌≤◌, ◌<◌}
use native.Mathlib.Omega.{arith}
use lib.Dec.{eqb}
use lib.ListN.{length, get_or, take, drop}
use borrow.Author.Tests.{eqb-true, eqb-false}
use Rattle.text.specs.Bytes.{same_bytes}
use Rattle.text.proofs.Utf8.{ascii_well_formed}
use Rattle.charref.specs.CharRef.{char_number, number_answer}
use Rattle.charref.specs.Reading.{legal_by, Found, Closed}
use Rattle.charref.specs.declared.Quick.{Quick}
use Rattle.charref.specs.CharNumbers.{CharNumber}
use Rattle.charref.specs.CharNumbers.{Char}
use Rattle.charref.proofs.Encoding.{encode_1}
use Rattle.charref.proofs.Rules.{rule_character, rule_well_formed, rule_allows}
use Rattle.text.proofs.Patterns.{at_head}
use Rattle.entity.specs.Binding.{Bound, predefined, predefined_of, bound_to}
use Rattle.entity.specs.Commands.{Unhidden}
use Rattle.entity.specs.declared.Binding.TheVariants.{Predefined}
use Rattle.tokens.specs.Outcome.{done, numbered, number_outcome}
use Rattle.tokens.specs.Walking.{NameEnd, next_at}
use Rattle.tokens.proofs.Names.{closed_name, closed_reference}
use Rattle.tokens.specs.Tokens.{Heads}
use Rattle.attribute.specs.Walk.{Settings}
use Rattle.attribute.specs.Steps.{Refers, amp_or, outcome_at}
use Rattle.attribute.proofs.Single.{at_none, at_number, at_predefined, next_offset}
use Rattle.memory.specs.Levels.{settings_by}
use Rattle.flat.specs.Between.{Answers, ForPlain, name_of, Means, NumberMeans}
use Rattle.std.specs.Prelude.{Result, Ok, Err}
use Rattle.text.specs.Answers.{Answer}
use Rattle.text.specs.declared.refusals.Refusal.{Refusal}
use Rattle.text.specs.declared.refusals.Refusal.TheVariants.{UnterminatedEntity}
use Rattle.charref.specs.Errors.{read_as, refusal_for, answer_as}
use Rattle.charref.specs.declared.ParseCharRefError.{ParseCharRefError}
use Rattle.charref.proofs.Errors.{answers}
use Rattle.flat.specs.declared.Meaning.{Meaning}
use Rattle.flat.specs.declared.Meaning.TheVariants.{Name}
use Rattle.flat.specs.declared.Meaning.TheVariants.{Char as Character}

-- ---- a number

module _ (rule : ℕ) (digits : List ℕ) (next : ℕ) where
  pub number_char : {c : ℕ} → char_number (legal_by rule) digits ≡ Char c → NumberMeans rule digits next (Ok (Character c next))
  unfolding number_outcome numbered number_answer
  number_char {c} e =
      (refl, (rule_character rule digits c e).most, rule_well_formed rule digits c e, λ n. ap (λ (x : CharNumber). numbered (number_answer x) n) e)

  -- what refuses the number is passed upward as it came
  pub number_refused : {e : ParseCharRefError} → Err e ≡ read_as (char_number (legal_by rule) digits)
      → NumberMeans rule digits next (Err (refusal_for e))
  unfolding number_outcome numbered
  number_refused {e} h =
      let x = char_number (legal_by rule) digits in
      λ n. ap (λ (a : Answer). numbered a n) (sym (answers x) ∙ sym (ap answer_as h))

-- ---- the reference whose `&` is at an offset

module _ (rule : ℕ) (t : List ℕ) (at : ℕ) (amp : get_or t at 0 ≡ 38) {end : ℕ} (e : NameEnd false t (at + 1) end) where
  pub means_none : end ≡ length t → Means rule t at (Err (UnterminatedEntity at end))
  means_none q = λ heads refers s such depth deep n. at_none heads refers s depth deep t at n end amp e q

  module _ (h : end < length t) where
    goes_to : (heads : Heads) → Refers heads → next_at heads t at ≡ end + 1
    goes_to heads refers = next_offset heads refers (settings_by 0 0 [] [] 0) 1 (λ z. omega (arith, z)) t at 0 end amp e h

    -- the outcome of a number in a reading by the rule
    number_outcome_lem : (heads : Heads) → Refers heads → (s : Settings) → s.legal ≡ legal_by rule → (depth : ℕ) → depth ≢ 0 → (n : ℕ) → get_or t (at + 1) 0 ≡ 35
        → outcome_at s heads depth t at n ≡ number_outcome (legal_by rule) (take (end - (at + 1 + 1)) (drop (at + 1 + 1) t)) n
    number_outcome_lem heads refers s is depth deep n b =
        at_number heads refers s depth deep t at n end amp e h b
        ∙ ap (λ (l : ℕ → CharNumber). number_outcome l (take (end - (at + 1 + 1)) (drop (at + 1 + 1) t)) n) is

    pub means_number : get_or t (at + 1) 0 ≡ 35 → (r : Result Meaning Refusal) → NumberMeans rule (take (end - (at + 1 + 1)) (drop (at + 1 + 1) t)) (end + 1) r → Means rule t at r
    means_number b (Ok (Character c after)) m =
        let to = m.0 in
        record {
          small = m.1;
          utf8 = m.2;
          on = omega (arith, to, e.from);
          to = omega (arith, to, h);
          next_is = λ heads refers. goes_to heads refers ∙ sym to;
          given = λ heads refers s is depth deep n. number_outcome_lem heads refers s is depth deep n b ∙ m.3 n;
        }
    means_number b (Ok (Name x)) m = absurd m
    means_number b (Err why) m = λ heads refers s is depth deep n. number_outcome_lem heads refers s is depth deep n b ∙ m n

    module _ (b : get_or t (at + 1) 0 ≢ 35) where
      pub means_amp : same_bytes (name_of t at end) (97 ∷ 109 ∷ 112 ∷ []) ≡ true → Means rule t at (Ok (Character 38 (end + 1)))
      unfolding bound_to
      means_amp q =
          record {
            small = omega arith;
            utf8 = rw (encode_1 38 (omega arith)) (ascii_well_formed (38 ∷ []) refl);
            on = omega (arith, e.from);
            to = omega (arith, h);
            next_is = goes_to;
            given = λ heads refers s is depth deep n. given_amp heads refers s is depth deep n ∙ ap (λ (x : List ℕ). done x n) (sym (encode_1 38 (omega arith)));
          }
        where
          is_amp_lem : (bound : Bound) → bound_to [] (Predefined 38) ≡ amp_or (name_of t at end) bound
          is_amp_lem bound = rw q

          given_amp : Answers rule t at (λ n. done (38 ∷ []) n)
          given_amp heads refers s such depth deep n =
              at_predefined heads refers s depth deep t at n end amp e h b (s.bind (name_of t at end)) refl [] 38 (is_amp_lem (s.bind (name_of t at end)))
              (λ f g. absurd (true≢false (sym q ∙ f)))

      pub means_name : same_bytes (name_of t at end) (97 ∷ 109 ∷ 112 ∷ []) ≡ false → Means rule t at (Ok (Name end))
      means_name q = record { amp = amp; ends = e; inside = h; no_number = b; no_amp = q }

-- digits that end at the `;` by themselves
pub means_quick : (rule : ℕ) (t : List ℕ) (at : ℕ) → get_or t at 0 ≡ 38 → (q : Quick) → get_or t (at + 1) 0 ≡ 35 → Found t (at + 1 + 1) q → legal_by rule q.c ≡ Char q.c
    → Means rule t at (Ok (Character q.c (q.end + 1)))
means_quick rule t at amp q b f may =
    let e = closed_reference false t b f.closed in
    let digits = take (q.end - (at + 1 + 1)) (drop (at + 1 + 1) t) in
    means_number rule t at amp e f.closed.inside b (Ok (Character q.c (q.end + 1)))
    (number_char rule digits (q.end + 1) (rule_allows rule digits f.character may))

-- a name that begins with `#` has its end behind it
pub past_hash : (t : List ℕ) (from end : ℕ) → NameEnd false t from end → end < length t → get_or t from 0 ≡ 35 → from + 1 ≤ end
past_hash t from end e h b = go (eqb end from) refl
  where
    go : (x : Bool) → eqb end from ≡ x → from + 1 ≤ end
    go true q =
        let z : get_or t from 0 ≡ 59 = subst (λ (k : ℕ). get_or t k 0 ≡ 59) (eqb-true end from q) (e.semicolon h) in
        absurd (omega (arith, z, b))
    go false q = omega (arith, eqb-false end from q, e.from)

-- ---- a predefined name of two bytes, the second `t`, by the bytes

module _ (t list pool : List ℕ) (at : ℕ) (h : at + 4 ≤ length t) (amp : get_or t at 0 ≡ 38) {x : ℕ} (first : get_or t (at + 1) 0 ≡ x)
    (second : get_or t (at + 2) 0 ≡ 116) (third : get_or t (at + 3) 0 ≡ 59) where
  two_closed : x ≢ 59 → x ≢ 38 → Closed t (at + 1) (at + 3)
  two_closed n m =
      record { past = omega arith; inside = omega (arith, h); semicolon = third; none = λ k g l. go k (eqb k (at + 1)) refl g l }
    where
      go : (k : ℕ) (u : Bool) → eqb k (at + 1) ≡ u → at + 1 ≤ k → k < at + 3 → (get_or t k 0 ≢ 59) × (get_or t k 0 ≢ 38)
      go k true q g l =
          let z : k ≡ at + 1 = eqb-true k (at + 1) q in
          rw z ((λ y. n (sym first ∙ y)), λ y. m (sym first ∙ y))
      go k false q g l =
          let z : k ≡ at + 2 = omega (arith, eqb-false k (at + 1) q, g, l) in
          rw z ((λ y. absurd (omega (arith, second, y))), λ y. absurd (omega (arith, second, y)))

  two_name : name_of t at (at + 3) ≡ x ∷ 116 ∷ []
  two_name =
      let n : at + 3 - (at + 1) ≡ 2 = omega arith in
      let q : at + 1 + 1 ≡ at + 2 = omega arith in
      rw (n, at_head t (at + 1) (omega (arith, h)), q, at_head t (at + 2) (omega (arith, h)), first, second)

  pub plain_two : x ≢ 59 → x ≢ 38 → x ≢ 35 → same_bytes (x ∷ 116 ∷ []) (97 ∷ 109 ∷ 112 ∷ []) ≡ false → {b : ℕ}
      → predefined_of (x ∷ 116 ∷ []) ≡ predefined (b ∷ []) → Unhidden list pool b → ForPlain t list pool at b
  plain_two n m hash other is free =
      let p = ap predefined_of two_name ∙ is in
      record {
        name = record {
          amp = amp;
          ends = closed_name false t (two_closed n m);
          inside = omega (arith, h);
          no_number = λ z. hash (sym first ∙ z);
          no_amp = rw two_name other;
        };
        is = p;
        bound = free (name_of t at (at + 3)) p;
      }
