-- What stands before a name: a word of printable ASCII, byte by byte (`Matching`); the keyword, and white space. Assumes nothing.
use mathlib.Core.Bool.{Bool, true, false}
use mathlib.Core.List.{List, [], ◌∷◌}
use mathlib.Core.Path.{◌≡◌, sym, ap, ◌∙◌}
use Prim.Native.Nat.{ℕ, zero, suc, ◌+◌, ◌≤◌, ◌<◌}
use native.Mathlib.Nat.{not-suc-le-zero}
use native.Mathlib.Omega.{arith}
use lib.ListN.{length, drop, get_or, drop_of_length-le}
use Rattle.table_grammar.specs.EntityValue.{Read, read, departs, literal, onward, space}
use Rattle.table_grammar.specs.EntityDecl.{keyword, opening}
use Rattle.table_names.specs.NameTerms.{left}
use Rattle.table_declarations.specs.DeclarationSteps.{PlainWord, Literally}
use Rattle.text.proofs.Patterns.{at_head}
use Rattle.text.specs.Bytes.{begins}
use Rattle.table_values.proofs.Literals.{stands_inside, literal_on, literal_off}

-- a byte of a plain word
plain_at_lem : (word : List ℕ) (k : ℕ) → PlainWord word → k < length word → (33 ≤ get_or word k 0) × (get_or word k 0 < 0x80)
plain_at_lem [] k p h = absurd (not-suc-le-zero h)
plain_at_lem (c ∷ cs) zero p h = (p.0, p.1)
plain_at_lem (c ∷ cs) (suc k) p h = plain_at_lem cs k p.2 (omega arith)

pub record Matching (newer : Bool) (t : List ℕ) (i : ℕ) (word : List ℕ) (k : ℕ) : Type 0 where
  pub few : k ≤ length word
  pub to : i + k ≤ length t
  pub on : literal word (left newer t i) ≡ literal (drop k word) (left newer t (i + k))

module _ {newer : Bool} {t : List ℕ} {i : ℕ} {word : List ℕ} {k : ℕ} (m : Matching newer t i word k) (plain : PlainWord word) where
  pub matching_more : k < length word → begins (get_or word k 0 ∷ []) (drop (i + k) t) ≡ true → Matching newer t i word (k + 1)
  matching_more h e =
      let p = plain_at_lem word k plain h in
      let j = stands_inside newer t (i + k) (get_or word k 0) (drop (k + 1) word) p.0 p.1 e in
      let q : i + k + 1 ≡ i + (k + 1) = omega arith in
      record {
        few = omega arith;
        to = omega arith;
        on =
            m.on ∙ ap (λ (l : List ℕ). literal l (left newer t (i + k))) (at_head word k h)
            ∙ literal_on newer t (i + k) (get_or word k 0) (drop (k + 1) word) p.0 p.1 e
            ∙ ap (λ (n : ℕ). literal (drop (k + 1) word) (left newer t n)) q;
      }

  pub matching_cut : k < length word → begins (get_or word k 0 ∷ []) (drop (i + k) t) ≡ false → Literally newer t i word (i + k)
  matching_cut h e =
      let p = plain_at_lem word k plain h in
      record {
        to = m.to;
        most = omega (arith, m.few);
        whole = λ q. absurd (omega arith);
        cut = λ l. m.on ∙ ap (λ (l : List ℕ). literal l (left newer t (i + k))) (at_head word k h)
            ∙ literal_off newer t (i + k) (get_or word k 0) (drop (k + 1) word) p.0 p.1 e;
      }

pub matching_whole : {newer : Bool} {t : List ℕ} {i : ℕ} {word : List ℕ} {k : ℕ} → Matching newer t i word k → length word ≤ k → Literally newer t i word (i + length word)
unfolding literal
matching_whole {newer} {t} {i} {word} {k} m h =
    let q : k ≡ length word = omega (arith, m.few) in
    let whole : Literally newer t i word (i + k) = record {
      to = m.to;
      most = omega (arith, m.few);
      whole = λ q. m.on ∙ ap (λ (l : List ℕ). literal l (left newer t (i + k))) (drop_of_length-le word h);
      cut = λ l. absurd (omega arith);
    } in
    rw q at whole

-- ---- the keyword, and white space

pub opening_cut : (t rest : List ℕ) → literal keyword t ≡ departs rest → opening t ≡ departs rest
unfolding opening
opening_cut t rest e = ap (λ (r : Read (List ℕ)). onward r (λ w end. space end)) e

pub opening_done : (t rest : List ℕ) (end : Read (List ℕ)) → literal keyword t ≡ read [] rest → space rest ≡ end → opening t ≡ end
unfolding opening
opening_done t rest end e f = ap (λ (r : Read (List ℕ)). onward r (λ w end. space end)) e ∙ f

pub opening_space : (newer : Bool) (t text : List ℕ) (k at : ℕ) → literal keyword t ≡ read [] (left newer text k) → space (left newer text k) ≡ departs (left newer text k) → at ≡ k
    → opening t ≡ departs (left newer text at)
opening_space newer t text k at e f q = opening_done t (left newer text k) (departs (left newer text k)) e f ∙ ap (λ (i : ℕ). departs (left newer text i)) (sym q)
