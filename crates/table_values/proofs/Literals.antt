-- Bytes that have to stand there: one that does (`literal_on`), one that does not (`literal_off`). Assumes nothing.
use mathlib.Core.Path.{◌≡◌, refl, sym, ◌∙◌}
use mathlib.Core.Bool.{Bool, true, false}
use mathlib.Core.List.{List, [], ◌∷◌}
use Prim.Native.Nat.{ℕ, zero, suc, ◌+◌, ◌≤◌, ◌<◌}
use native.Mathlib.Omega.{arith}
use lib.Dec.{ltb}
use lib.ListN.{length, drop, get_or, length-drop}
use borrow.Author.Tests.{ne_eqb, eq-eqb, eqb-true, eqb-false, ltb-true, ltb-false}
use Rattle.text.specs.Bytes.{begins}
use Rattle.text.proofs.Patterns.{begins_one, begins_fits}
use Rattle.eols.specs.LineEnds.{line_end}
use Rattle.eols.specs.Stops.{rule_for}
use Rattle.table_grammar.specs.EntityValue.{departs, literal}
use Rattle.table_names.specs.NameTerms.{left}
use Rattle.table_values.proofs.LeftPlaces.{left_end, left_ascii, left_kept, left_ended}

suc_not : {k : ℕ} → suc k ≡ 0 → ⊥
suc_not q = absurd (omega arith)

literal_same : (c b : ℕ) (cs bs t : List ℕ) → t ≡ b ∷ bs → b ≡ c → literal (c ∷ cs) t ≡ literal cs bs
unfolding literal
literal_same c b cs bs t e q = rw (e, eq-eqb b c q)

literal_other : (c b : ℕ) (cs bs t : List ℕ) → t ≡ b ∷ bs → (b ≡ c → ⊥) → literal (c ∷ cs) t ≡ departs t
unfolding literal
literal_other c b cs bs t e q = rw (e, ne_eqb b c q)

literal_ended : (c : ℕ) (cs t : List ℕ) → t ≡ [] → literal (c ∷ cs) t ≡ departs t
unfolding literal
literal_ended c cs t e = rw e

-- the head of what is left is the byte there, or LF
pub record Headed (newer : Bool) (t : List ℕ) (i : ℕ) : Type 0 where
  pub byte : ℕ
  pub rest : List ℕ
  pub is : left newer t i ≡ byte ∷ rest
  pub other : (c : ℕ) → (get_or t i 0 ≡ c → ⊥) → (c ≡ 10 → ⊥) → byte ≡ c → ⊥

pub headed : (newer : Bool) (t : List ℕ) (i : ℕ) → i < length t → Headed newer t i
headed newer t i h = go (line_end (rule_for newer) (drop i t)) refl
  where
    go : (w : ℕ) → w ≡ line_end (rule_for newer) (drop i t) → Headed newer t i
    go zero e = record { byte = get_or t i 0; rest = left newer t (i + 1); is = left_kept newer t i h e; other = λ c n m q. n q }
    go (suc w) e =
        record { byte = 10; rest = left newer t (i + suc w); is = left_ended newer t i (suc w) h suc_not e; other = λ c n m q. m (sym q) }

module _ (newer : Bool) (t : List ℕ) (i c : ℕ) (cs : List ℕ) (low : 33 ≤ c) (high : c < 0x80) where
  pub stands_inside : begins (c ∷ []) (drop i t) ≡ true → i < length t
  stands_inside e = omega (arith, begins_fits (c ∷ []) (drop i t) e, length-drop i t)

  pub literal_on : begins (c ∷ []) (drop i t) ≡ true → literal (c ∷ cs) (left newer t i) ≡ literal cs (left newer t (i + 1))
  literal_on e =
      let h = stands_inside e in
      let q = eqb-true (get_or t i 0) c (begins_one c t i h ∙ e) in
      literal_same c (get_or t i 0) cs (left newer t (i + 1)) (left newer t i) (left_ascii newer t i h (omega arith) (omega arith)) q

  pub literal_off : begins (c ∷ []) (drop i t) ≡ false → literal (c ∷ cs) (left newer t i) ≡ departs (left newer t i)
  literal_off e = go (ltb i (length t)) refl
    where
      go : (x : Bool) → ltb i (length t) ≡ x → literal (c ∷ cs) (left newer t i) ≡ departs (left newer t i)
      go true f =
          let h = ltb-true i (length t) f in
          let n = eqb-false (get_or t i 0) c (begins_one c t i h ∙ e) in
          let z = headed newer t i h in
          literal_other c z.byte cs z.rest (left newer t i) z.is (z.other c n (λ q. absurd (omega arith)))
      go false f = literal_ended c cs (left newer t i) (left_end newer t i (ltb-false i (length t) f))
