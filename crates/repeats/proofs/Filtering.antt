-- The filter: where a scan stands (`Scanned`), that a table which takes up a fingerprint loses none (`meets_set`), and parts (`share_below`).
-- Assumes nothing.
use Rattle.std.proofs.Common.{◌≡◌, ℕ, zero, suc, ◌+◌, ◌-◌, ◌*◌, ◌%◌, ◌<◌, ◌≤◌, Bool, true, false, eqb, List, length, get_or, set, sym, refl, ap, ◌∙◌, subst, true≢false, mul-le-mul_right, arith, length-set, get_or-set_other, get_or-set_same, eq-eqb, ne_eqb, eqb-true}
use borrow.Author.Tests.{eqb-false}
use Rattle.text.specs.Bytes.{pick}
use Rattle.text.proofs.Bytes.{contrary}
use Rattle.repeats.specs.Hash.{share}
use Rattle.repeats.specs.Filter.{meets, Seen, home_of, print_of, Suspected}

-- ---- parts

share_product : (x parts : ℕ) → x < 0x100000000 → x * parts ≤ 0xFFFFFFFF * parts
share_product x parts h = mul-le-mul_right parts (omega arith)

pub share_below : (x parts : ℕ) → x < 0x100000000 → 0 < parts → share x parts < parts
share_below x parts h k = omega (arith, share_product x parts h)

-- ---- a scan

meets_none : (table : List ℕ) (k print : ℕ) {n : ℕ} → n ≡ 0 → meets n table k print ≡ true
unfolding meets
meets_none table k print e = rw e refl

-- a table that is the same before k meets the fingerprint just where the places from k on do
pub record Scanned (table : List ℕ) (home print k : ℕ) : Type 0 where
  pub from : home ≤ k
  pub to : k ≤ home + 128
  pub is : (t : List ℕ) → ((j : ℕ) → j < k → get_or t j 0 ≡ get_or table j 0) → meets 128 t home print ≡ meets (home + 128 - k) t k print

module _ {table : List ℕ} {home print k : ℕ} (s : Scanned table home print k) where
  abbrev same_as : List ℕ → Type 0
  same_as t = (j : ℕ) → j < k → get_or t j 0 ≡ get_or table j 0

  -- the places from k on, by the first of them
  turn : k < home + 128 → (t : List ℕ)
      → meets (home + 128 - k) t k print ≡ pick (eqb (get_or t k 0) 0) false (pick (eqb (get_or t k 0) print) true (meets (home + 128 - (k + 1)) t (k + 1) print))
  unfolding meets
  turn h t = let q : home + 128 - k ≡ suc (home + 128 - (k + 1)) = omega arith in rw q refl

  pub scanned_on : k < home + 128 → (get_or table k 0 ≡ 0 → ⊥) → (get_or table k 0 ≡ print → ⊥) → Scanned table home print (k + 1)
  scanned_on h free other =
      record {
        from = omega (arith, s.from);
        to = omega arith;
        is = λ t same. (
            let here : get_or t k 0 ≡ get_or table k 0 = same k (omega arith) in
            s.is t (λ j l. same j (omega arith)) ∙ turn h t
            ∙ rw (ne_eqb (get_or t k 0) 0 (λ e. free (sym here ∙ e)), ne_eqb (get_or t k 0) print (λ e. other (sym here ∙ e))) refl
            );
      }

  -- the fingerprint is there
  pub scanned_there : k < home + 128 → (get_or table k 0 ≡ 0 → ⊥) → get_or table k 0 ≡ print → Seen table home print table true
  scanned_there h free e =
      record {
        size = refl;
        kept = λ j p m. m;
        there = s.is table (λ j l. refl) ∙ turn h table ∙ rw (ne_eqb (get_or table k 0) 0 free, eq-eqb (get_or table k 0) print e) refl;
        told = λ m. refl;
      }

  -- no place is free
  pub scanned_full : home + 128 ≤ k → Seen table home print table true
  scanned_full h =
      let q : home + 128 - k ≡ 0 = omega arith in
      record {
        size = refl;
        kept = λ j p m. m;
        there = s.is table (λ j l. refl) ∙ meets_none table k print q;
        told = λ m. refl;
      }

-- a free place that is taken leaves what was met
meets_set : (n : ℕ) (table : List ℕ) (k v j p : ℕ) → get_or table k 0 ≡ 0 → meets n table j p ≡ true → meets n (set table k v) j p ≡ true
unfolding meets
meets_set zero table k v j p free m = refl
meets_set (suc n) table k v j p free m = go (eqb j k) refl (λ q. meets_set n table k v (j + 1) p free q)
  where
    go : (t : Bool) → eqb j k ≡ t → (meets n table (j + 1) p ≡ true → meets n (set table k v) (j + 1) p ≡ true) → meets (suc n) (set table k v) j p ≡ true
    go true e ih =
        let q : get_or table j 0 ≡ 0 = ap (λ (i : ℕ). get_or table i 0) (eqb-true j k e) ∙ free in
        absurd (true≢false (sym (rw q at m)))
    go false e ih = rw (get_or-set_other table k j v 0 (eqb-false j k e)) (free_or (eqb (get_or table j 0) 0) refl)
      where
        print_or : (u : Bool) → eqb (get_or table j 0) p ≡ u → eqb (get_or table j 0) 0 ≡ false → pick u true (meets n (set table k v) (j + 1) p) ≡ true
        print_or true w z = refl
        print_or false w z = ih (rw (z, w) at m)

        free_or : (u : Bool) → eqb (get_or table j 0) 0 ≡ u → pick u false (pick (eqb (get_or table j 0) p) true (meets n (set table k v) (j + 1) p)) ≡ true
        free_or true z = absurd (true≢false (sym (rw z at m)))
        free_or false z = print_or (eqb (get_or table j 0) p) refl z

module _ {table : List ℕ} {home print k : ℕ} (s : Scanned table home print k) where
  -- the fingerprint takes the first free place
  pub scanned_free : k < home + 128 → k < length table → 0 < print → get_or table k 0 ≡ 0 → Seen table home print (set table k print) false
  scanned_free h l some e =
      let t = set table k print in
      let here : get_or t k 0 ≡ print = get_or-set_same table k print 0 l in
      let none : meets 128 table home print ≡ false
      = s.is table (λ j l. refl) ∙ turn s h table ∙ rw (eq-eqb (get_or table k 0) 0 e) refl in
      record {
        size = length-set table k print;
        kept = λ j p m. meets_set 128 table k print j p e m;
        there =
            s.is t (λ j m. get_or-set_other table k j print 0 (λ q. omega (arith, q)))
            ∙ turn s h t ∙ rw (ne_eqb (get_or t k 0) 0 (λ q. omega (arith, q, here)), eq-eqb (get_or t k 0) print here) refl;
        told = λ m. contrary m none;
      }

-- ---- the same of a hash

pub suspected : (table after : List ℕ) (hash : ℕ) {home print : ℕ} {r : Bool} → home ≡ home_of table hash → print ≡ print_of hash → Seen table home print after r
    → Suspected table hash after r
suspected table after hash {home} {print} {r} p q s =
    let As : ℕ → ℕ → Type 0 = λ n h. meets 128 after (share (h % 0x100000000) (n - 128)) (print_of h) ≡ true in
    let z = sym s.size in
    let there : meets 128 after (home_of table hash) (print_of hash) ≡ true
    = subst (λ (k : ℕ). meets 128 after k (print_of hash) ≡ true) p (subst (λ (k : ℕ). meets 128 after home k ≡ true) q s.there) in
    record {
      size = s.size;
      kept = λ h m. subst (λ (n : ℕ). As n h) z (s.kept (home_of table h) (print_of h) m);
      there = subst (λ (n : ℕ). As n hash) z there;
      told = λ m. s.told (subst (λ (k : ℕ). meets 128 table k print ≡ true) (sym p) (subst (λ (k : ℕ). meets 128 table (home_of table hash) k ≡ true) (sym q) m));
    }
