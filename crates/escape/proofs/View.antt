-- A byte by cases: one of the eight that some level replaces, or another, with each test's answer. Assumes nothing.
use mathlib.Core.Path.{◌≡◌, refl, subst⁻¹}
use Prim.Native.Nat.{ℕ}
use mathlib.Core.Bool.{Bool, true, false}
use lib.Dec.{eqb}
use borrow.Author.Tests.{eqb-true}

pub record Other (b : ℕ) : Type 0 where
  pub no_lt : eqb b 60 ≡ false
  pub no_gt : eqb b 62 ≡ false
  pub no_amp : eqb b 38 ≡ false
  pub no_apos : eqb b 39 ≡ false
  pub no_quot : eqb b 34 ≡ false
  pub no_cr : eqb b 13 ≡ false
  pub no_lf : eqb b 10 ≡ false
  pub no_tab : eqb b 9 ≡ false

pub data Kind : ℕ → Type 0 where
  is_lt : Kind 60
  is_gt : Kind 62
  is_amp_lem : Kind 38
  is_apos : Kind 39
  is_quot : Kind 34
  is_cr_lem : Kind 13
  is_lf : Kind 10
  is_tab : Kind 9
  is_other : {b : ℕ} → Other b → Kind b

-- the byte x where the test passes, else what the failed test helps to prove
pub or_else : (P : ℕ → Type 0) (b x : ℕ) → P x → (eqb b x ≡ false → P b) → P b
or_else P b x here other = go (eqb b x) refl
  where
    go : (t : Bool) → eqb b x ≡ t → P b
    go true e = subst⁻¹ P (eqb-true b x e) here
    go false e = other e

pub kind : (b : ℕ) → Kind b
kind b =
    or_else Kind b 60 is_lt λ lt.
    or_else Kind b 62 is_gt λ gt.
    or_else Kind b 38 is_amp_lem λ amp.
    or_else Kind b 39 is_apos λ apos.
    or_else Kind b 34 is_quot λ quot.
    or_else Kind b 13 is_cr_lem λ cr.
    or_else Kind b 10 is_lf λ lf.
    or_else Kind b 9 is_tab λ tab.
    is_other (record { no_lt = lt; no_gt = gt; no_amp = amp; no_apos = apos; no_quot = quot; no_cr = cr; no_lf = lf; no_tab = tab })
