-- Walks by their depth: done at one, done at every greater one (`done_on`, `normalize_on`). At the least depth and at every greater one the same
-- text and openings, at every smaller one 16 (`least_from`); a refusal is that of depth 128 (`least_refused`). What code says of a text at
-- every depth (`Enough`) gives the definition's answer (`least_enough`). Assumes nothing.
use mathlib.Core.Path.{◌≡◌, refl, ap, sym, ◌∙◌, subst}
use Prim.Native.Nat.{ℕ, zero, suc, ◌+◌, ◌-◌, ◌≤◌, ◌<◌}
use native.Mathlib.Omega.{arith}
use native.Mathlib.Nat.{zero-add, suc-add}
use mathlib.Core.Bool.{Bool, true, false, true≢false}
use mathlib.Core.List.{List, [], ◌∷◌, ◌++◌}
use lib.Dec.{eqb}
use lib.ListN.{length}
use borrow.Author.Tests.{eqb-true, eqb-false, eq-eqb}
use Rattle.text.specs.Bytes.{pick}
use Rattle.text.specs.Answers.{Answer}
use Rattle.text.specs.Answers.{Done, Refused}
use Rattle.tokens.specs.Tokens.{Heads}
use Rattle.tokens.specs.Outcome.{Outcome, done, refused}
use Rattle.attribute.specs.Walk.{Settings, walk, normalize}
use Rattle.attribute.proofs.Deeper.{deeper_done, deeper_refused}
use Rattle.walk_depths.specs.LeastDepth.{used_up, first_not, least_of, least_depth}
use Rattle.walk_depths.specs.Summary.{Enough}

-- ---- the first number of which something does not hold

pub record First (so : ℕ → Bool) (from d : ℕ) : Type 0 where
  pub reached : from ≤ d
  pub not : so d ≡ false
  pub before : (e : ℕ) → from ≤ e → e < d → so e ≡ true

same_eqb : (n : ℕ) → eqb n n ≡ true
same_eqb n = eq-eqb n n refl

pub first_is : (so : ℕ → Bool) (d count from : ℕ) → First so from d → d < from + count → first_not so from count ≡ d
unfolding first_not
first_is so d zero from f l = absurd (omega (arith, f.reached))
first_is so d (suc count) from f l = go (so from) refl (λ g. first_is so d count (suc from) g (omega (arith, l)))
  where
    go : (x : Bool) → so from ≡ x → (First so (suc from) d → first_not so (suc from) count ≡ d) → pick x (first_not so (suc from) count) from ≡ d
    go true e ih =
        let other : from ≡ d → ⊥ = λ q. true≢false (sym e ∙ ap so q ∙ f.not) in
        ih (record { reached = omega (arith, f.reached, other); not = f.not; before = λ a h k. f.before a (omega (arith, h)) k })
    go false e ih = split (eqb from d) refl
      where
        split : (y : Bool) → eqb from d ≡ y → from ≡ d
        split true q = eqb-true from d q
        split false q = absurd (true≢false (sym (f.before from (omega arith) (omega (arith, f.reached, eqb-false from d q))) ∙ e))

-- it is there, where the last of the numbers is one
pub record Found (so : ℕ → Bool) (from count d : ℕ) : Type 0 where
  pub first : First so from d
  pub most : d ≤ from + count

pub first_found : (so : ℕ → Bool) (count from : ℕ) → so (from + count) ≡ false → Found so from count (first_not so from (suc count))
unfolding first_not
first_found so zero from e = go (so from) refl
  where
    go : (x : Bool) → so from ≡ x → Found so from 0 (pick x (suc from) from)
    go true q = absurd (true≢false (sym q ∙ ap so (omega arith) ∙ e))
    go false q = record { first = record { reached = omega arith; not = q; before = λ a h k. absurd (omega (arith, h, k)) }; most = omega arith }
first_found so (suc count) from e = go (so from) refl (first_found so count (suc from) (ap so (omega arith) ∙ e))
  where
    go : (x : Bool) → so from ≡ x → Found so (suc from) count (first_not so (suc from) (suc count)) → Found so from (suc count) (pick x (first_not so (suc from) (suc count)) from)
    go false q k = record { first = record { reached = omega arith; not = q; before = λ a h l. absurd (omega (arith, h, l)) }; most = omega arith }
    go true q k =
        record {
          first =
              record {
                reached = omega (arith, k.first.reached);
                not = k.first.not;
                before = λ a h l. split a h l (eqb from a) refl;
              };
          most = omega (arith, k.most);
        }
      where
        split : (a : ℕ) → from ≤ a → a < first_not so (suc from) (suc count) → (y : Bool) → eqb from a ≡ y → so a ≡ true
        split a h l true w = ap so (sym (eqb-true from a w)) ∙ q
        split a h l false w = k.first.before a (omega (arith, h, eqb-false from a w)) l

-- ---- walks by their depth

module _ (s : Settings) (at : Heads) (t : List ℕ) (n : ℕ) where
  abbrev by_depth : ℕ → Outcome
  by_depth e = walk s at e t n

  -- a walk that is done is done at every greater depth, and at a smaller one done or used up
  pub done_on : {d e m : ℕ} {value : List ℕ} → by_depth d ≡ done value m → d ≤ e → by_depth e ≡ done value m
  done_on {d} {e} {m} {value} q le = subst (λ (k : ℕ). by_depth k ≡ done value m) (omega (arith, le)) (deeper_done s at d (e - d) t value n m q)

  pub refused_on : {d e m why first second : ℕ} {before : List ℕ} → by_depth d ≡ refused before m why first second → eqb why 16 ≡ false → d ≤ e
      → by_depth e ≡ refused before m why first second
  refused_on {d} {e} {m} {why} {first} {second} {before} q w le =
      subst (λ (k : ℕ). by_depth k ≡ refused before m why first second) (omega (arith, le)) (deeper_refused s at d (e - d) t before n m why first second w q)

  -- where it is done at a greater depth and not used up here, it is done here
  pub done_before : {d e m : ℕ} {value : List ℕ} → by_depth e ≡ done value m → d ≤ e → used_up (by_depth d) ≡ false → by_depth d ≡ done value m
  done_before {d} {e} {m} {value} q le u = go (by_depth d) refl u
    where
      go : (o : Outcome) → by_depth d ≡ o → used_up o ≡ false → by_depth d ≡ done value m
      go (done v k) w x = w ∙ sym (done_on w le) ∙ q
      go (refused before k why first second) w x = absurd (clash (sym q ∙ refused_on w x le))
        where
          clash : done value m ≡ refused before k why first second → ⊥
          clash z =
              let y : ◌≡◌ {A = ℕ} 0 1 = cc in
              omega arith

pub normalize_on : (s : Settings) (t value : List ℕ) (d e m : ℕ) → normalize s d t ≡ done value m → d ≤ e → normalize s e t ≡ done value m
unfolding normalize
normalize_on s t value d e m q le = done_on s s.outer t 0 q le

-- ---- the least depth

-- the walk at 128 is done: so it is from the least depth on, and at no smaller one
pub record LeastFrom (s : Settings) (t : List ℕ) (d m : ℕ) (value : List ℕ) : Type 0 where
  pub answer : least_depth s t ≡ Done d 0
  pub allowed : d ≤ 128
  pub from : (e : ℕ) → d ≤ e → normalize s e t ≡ done value m
  pub below : (e : ℕ) → e < d → used_up (normalize s e t) ≡ true

-- from the least depth on the same text and openings, at any smaller depth 16
pub least_from : (s : Settings) (t value : List ℕ) (m : ℕ) → normalize s 128 t ≡ done value m
    → LeastFrom s t (first_not (λ e. used_up (normalize s e t)) 0 129) m value
unfolding least_depth least_of normalize
least_from s t value m q =
    let so : ℕ → Bool = λ e. used_up (normalize s e t) in
    let k : Found so 0 128 (first_not so 0 129) = first_found so 128 0 (ap used_up q) in
    let here = done_before s s.outer t 0 q k.most k.first.not in
    record {
      answer = ap (least_of (first_not so 0 129)) q;
      allowed = k.most;
      from = λ e le. done_on s s.outer t 0 here le;
      below = λ e l. k.first.before e (omega arith) l;
    }

-- the refusal of depth 128; 32 in place of 16
pub least_refused : (s : Settings) (t before : List ℕ) (m number first second : ℕ) → normalize s 128 t ≡ refused before m number first second
    → least_depth s t ≡ pick (eqb number 16) (Refused 32 0 0) (Refused number first second)
unfolding least_depth least_of
least_refused s t before m number first second q = ap (least_of (first_not (λ e. used_up (normalize s e t)) 0 129)) q

-- what is said of the value, with the allowance 128, is the definition's answer
pub least_enough : (s : Settings) (t : List ℕ) (d m len : ℕ) → Enough 128 d m len (λ e. normalize s e t) → least_depth s t ≡ Done d 0
unfolding least_depth least_of
least_enough s t d m len k =
    let so : ℕ → Bool = λ e. used_up (normalize s e t) in
    let f : First so 0 d = record { reached = omega arith; not = ap used_up (k.from d (omega arith)); before = λ e h l. k.below e l } in
    ap (least_of (first_not so 0 129)) (k.from 128 k.within) ∙ ap (λ (n : ℕ). Done n 0) (first_is so d 129 0 f (omega (arith, k.within)))
