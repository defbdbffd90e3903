-- Counts and forms of entries: what `recount` and a new entry at the end change of them, and what they leave. Assumes nothing.
use mathlib.Core.Path.{◌≡◌, refl, ap, sym, ◌∙◌, subst}
use Prim.Native.Nat.{ℕ, ◌≤◌, ◌<◌}
use native.Mathlib.Omega.{arith}
use mathlib.Core.Bool.{Bool, true, false, not, ◌&&◌}
use mathlib.Core.List.{List, [], ◌∷◌, ◌++◌}
use lib.Dec.{eqb}
use borrow.Author.Tests.{eqb-true, eqb-false, ne_eqb, not-true}
use Rattle.text.specs.Bytes.{pick, same_bytes}
use Rattle.text.specs.Utf8.{well_formed}
use Rattle.text.proofs.Bytes.{pick_both, pick_by, same_equal, equal_same, and_left, and_right, contrary}
use Rattle.register.specs.Entries.{Entry, entry, cost, count_in, recount, good, absent, distinct}
use Rattle.register.specs.Places.{Narrow, Absent, Distinct, Good}

-- ---- the tests of entries as types

pub absent_true : (f : List ℕ) (es : List Entry) → absent f es ≡ true → Absent f es
unfolding absent
absent_true f [] h = tt
absent_true f (e ∷ es) h =
    (not-true _ (and_left (not (same_bytes e.form f)) (absent f es) h), absent_true f es (and_right (not (same_bytes e.form f)) (absent f es) h))

pub true_absent : (f : List ℕ) (es : List Entry) → Absent f es → absent f es ≡ true
unfolding absent
true_absent f [] h = refl
true_absent f (e ∷ es) h = rw h.0 (true_absent f es h.1)

pub distinct_true : (es : List Entry) → distinct es ≡ true → Distinct es
unfolding distinct
distinct_true [] h = tt
distinct_true (e ∷ es) h =
    (absent_true e.form es (and_left (absent e.form es) (distinct es) h), distinct_true es (and_right (absent e.form es) (distinct es) h))

pub true_distinct : (es : List Entry) → Distinct es → distinct es ≡ true
unfolding distinct
true_distinct [] h = refl
true_distinct (e ∷ es) h = rw (true_absent e.form es h.0) (true_distinct es h.1)

pub good_true : (es : List Entry) → good es ≡ true → Good es
unfolding good
good_true [] h = tt
good_true (e ∷ es) h =
    let counts = not (eqb e.count 0) in
    let r = and_right counts (well_formed e.form && good es) h in (
      eqb-false e.count 0 (not-true _ (and_left counts (well_formed e.form && good es) h)),
      and_left (well_formed e.form) (good es) r,
      good_true es (and_right (well_formed e.form) (good es) r),
    )

pub true_good : (es : List Entry) → Good es → good es ≡ true
unfolding good
true_good [] h = refl
true_good (e ∷ es) h = rw (ne_eqb e.count 0 h.0, h.1) (true_good es h.2)

-- two forms that the test tells apart, either way round
pub apart : (f g : List ℕ) → same_bytes f g ≡ false → same_bytes g f ≡ false
apart f g h = go (same_bytes g f) refl
  where
    go : (t : Bool) → same_bytes g f ≡ t → same_bytes g f ≡ false
    go true q = contrary (ap (λ (x : List ℕ). same_bytes x g) (sym (same_equal g f q)) ∙ equal_same g) h
    go false q = q

other_form : (e : Entry) (f g : List ℕ) → same_bytes e.form f ≡ true → same_bytes f g ≡ false → same_bytes e.form g ≡ false
other_form e f g h k = ap (λ (x : List ℕ). same_bytes x g) (same_equal e.form f h) ∙ k

-- ---- a form is absent just where its count is 0

pub absent_zero : (f : List ℕ) (es : List Entry) → Absent f es → count_in f es ≡ 0
unfolding count_in
absent_zero f [] h = refl
absent_zero f (e ∷ es) h = rw h.0 (absent_zero f es h.1)

pub zero_absent : (f : List ℕ) (es : List Entry) → Good es → count_in f es ≡ 0 → Absent f es
unfolding count_in
zero_absent f [] g h = tt
zero_absent f (e ∷ es) g h = go (same_bytes e.form f) refl (λ q. zero_absent f es g.2 q)
  where
    go : (t : Bool) → same_bytes e.form f ≡ t → (count_in f es ≡ 0 → Absent f es) → Absent f (e ∷ es)
    go true q ih = absurd (g.0 (rw q at h))
    go false q ih = (q, ih (rw q at h))

-- ---- another count

module _ (f : List ℕ) (n : ℕ) where
  pub recount_same : (es : List Entry) → Distinct es → (count_in f es ≡ 0 → ⊥) → count_in f (recount f n es) ≡ n
  unfolding count_in recount
  recount_same [] d h = absurd (h refl)
  recount_same (e ∷ es) d h = go (same_bytes e.form f) refl (λ q. recount_same es d.1 q)
    where
      last : same_bytes e.form f ≡ true → (u : Bool) → eqb n 0 ≡ u → count_in f (pick u es (entry e.form n ∷ es)) ≡ n
      last q true z = absent_zero f es (subst (λ (x : List ℕ). Absent x es) (same_equal e.form f q) d.0) ∙ sym (eqb-true n 0 z)
      last q false z = rw q refl

      go : (t : Bool) → same_bytes e.form f ≡ t → ((count_in f es ≡ 0 → ⊥) → count_in f (recount f n es) ≡ n) → count_in f (recount f n (e ∷ es)) ≡ n
      go true q ih = rw q (last q (eqb n 0) refl)
      go false q ih = rw (q, q) (ih (rw q at h))

  pub recount_other : (g : List ℕ) → same_bytes f g ≡ false → (es : List Entry) → count_in g (recount f n es) ≡ count_in g es
  unfolding count_in recount
  recount_other g k [] = refl
  recount_other g k (e ∷ es) = go (same_bytes e.form f) refl (recount_other g k es)
    where
      last : same_bytes e.form g ≡ false → (u : Bool) → count_in g (pick u es (entry e.form n ∷ es)) ≡ count_in g es
      last q true = refl
      last q false = rw q refl

      go : (t : Bool) → same_bytes e.form f ≡ t → count_in g (recount f n es) ≡ count_in g es → count_in g (recount f n (e ∷ es)) ≡ count_in g (e ∷ es)
      go true q ih = rw (q, other_form e f g q k) (last (other_form e f g q k) (eqb n 0))
      go false q ih = rw (q, ih) refl

  -- what holds of each entry's form, of the rest and of the new count holds of the entries after it
  recount_keeps : (P : List Entry → Type 0) (e : Entry) (es : List Entry) → (eqb n 0 ≡ true → P es) → (eqb n 0 ≡ false → P (entry e.form n ∷ es))
      → P (e ∷ recount f n es) → P (recount f n (e ∷ es))
  unfolding recount
  recount_keeps P e es gone other later =
      pick_both P (same_bytes e.form f) {a = pick (eqb n 0) es (entry e.form n ∷ es)} {b = e ∷ recount f n es}
      (pick_by P (eqb n 0) {a = es} {b = entry e.form n ∷ es} gone other) later

  pub recount_absent : (g : List ℕ) (es : List Entry) → Absent g es → Absent g (recount f n es)
  recount_absent g [] h = unfold recount in tt
  recount_absent g (e ∷ es) h = recount_keeps (Absent g) e es (λ z. h.1) (λ z. h) (h.0, recount_absent g es h.1)

  pub recount_distinct : (es : List Entry) → Distinct es → Distinct (recount f n es)
  recount_distinct [] h = unfold recount in tt
  recount_distinct (e ∷ es) h =
      recount_keeps Distinct e es (λ z. h.1) (λ z. h) (recount_absent e.form es h.0, recount_distinct es h.1)

  pub recount_good : (es : List Entry) → Good es → Good (recount f n es)
  recount_good [] h = unfold recount in tt
  recount_good (e ∷ es) h =
      recount_keeps Good e es (λ z. h.2) (λ z. (eqb-false n 0 z, h.1, h.2)) (h.0, h.1, recount_good es h.2)

  pub recount_narrow : n < 0x100000000 → (es : List Entry) → Narrow es → Narrow (recount f n es)
  recount_narrow s [] h = unfold recount in tt
  recount_narrow s (e ∷ es) h =
      recount_keeps Narrow e es (λ z. h.2) (λ z. (h.0, s, h.2)) (h.0, h.1, recount_narrow s es h.2)

  pub recount_cost : (es : List Entry) → cost (recount f n es) ≤ cost es
  unfolding cost
  recount_cost [] = unfold recount in omega arith
  recount_cost (e ∷ es) =
      recount_keeps (λ (l : List Entry). cost l ≤ cost (e ∷ es)) e es (λ z. omega arith) (λ z. omega arith) (omega (arith, recount_cost es))

-- K10: a form whose count is zero uses no space
pub recount_gone : (f : List ℕ) (es : List Entry) → Distinct es → Absent f (recount f 0 es)
unfolding recount
recount_gone f [] d = tt
recount_gone f (e ∷ es) d = go (same_bytes e.form f) refl (recount_gone f es d.1)
  where
    go : (t : Bool) → same_bytes e.form f ≡ t → Absent f (recount f 0 es) → Absent f (recount f 0 (e ∷ es))
    go true q ih = rw q (subst (λ (x : List ℕ). Absent x es) (same_equal e.form f q) d.0)
    go false q ih = rw q (q, ih)

-- ---- a new form at the end

module _ (f : List ℕ) where
  abbrev new : List Entry
  new = entry f 1 ∷ []

  pub end_same : (es : List Entry) → Absent f es → count_in f (es ++ new) ≡ 1
  unfolding count_in
  end_same [] h = rw (equal_same f)
  end_same (e ∷ es) h = rw h.0 (end_same es h.1)

  pub end_other : (g : List ℕ) → same_bytes f g ≡ false → (es : List Entry) → count_in g (es ++ new) ≡ count_in g es
  unfolding count_in
  end_other g n [] = rw n
  end_other g n (e ∷ es) = rw (end_other g n es)

  end_absent : (g : List ℕ) → same_bytes f g ≡ false → (es : List Entry) → Absent g es → Absent g (es ++ new)
  end_absent g n [] h = (n, tt)
  end_absent g n (e ∷ es) h = (h.0, end_absent g n es h.1)

  pub end_distinct : (es : List Entry) → Absent f es → Distinct es → Distinct (es ++ new)
  end_distinct [] h d = (tt, tt)
  end_distinct (e ∷ es) h d = (end_absent e.form (apart e.form f h.0) es d.0, end_distinct es h.1 d.1)

  pub end_good : well_formed f ≡ true → (es : List Entry) → Good es → Good (es ++ new)
  end_good w [] g = ((λ z. let y : ◌≡◌ {A = ℕ} 1 0 = z in omega (arith, y)), w, tt)
  end_good w (e ∷ es) g = (g.0, g.1, end_good w es g.2)
