-- A well-formed text is whole characters, one after the other (`characters`). Assumes nothing.
use mathlib.Core.Path.{◌≡◌, refl, sym, ap, ◌∙◌}
use mathlib.Core.Bool.{Bool, true, false, true≢false}
use mathlib.Core.Logic.{◌≢◌}
use mathlib.Core.List.{List, [], ◌∷◌, ◌++◌}
use Prim.Native.Nat.{ℕ, zero, suc, ◌≤◌, ◌<◌}
use native.Mathlib.Omega.{arith}
use lib.Dec.{eqb, ltb}
use lib.ListN.{length}
use borrow.Author.Tests.{eqb-true, eqb-false, ltb-true, ltb-false}
use Rattle.text.specs.Bytes.{pick, within}
use Rattle.text.specs.Utf8.{State, between, one, two, three, after_e0, after_ed, after_f0, after_f4, broken, first, next, after, is_between, WellFormed}
use Rattle.text.proofs.Bytes.{within_low, within_top}
use Rattle.text.proofs.Utf8.{never_between}
use Rattle.text.proofs.FirstByte.{first_ascii, first_low, first_one, first_e0, first_ed, first_two, first_f0, first_three, first_f4, first_high}
use Rattle.canonical.specs.FormEnds.{Single}
use Rattle.canonical.specs.FormEnds.Single.{one as single-one, two as single-two, three as single-three, four as single-four}

pub data Characters : List ℕ → Type 0 where
  none : Characters []
  more : {w rest : List ℕ} → Single w → Characters rest → Characters (w ++ rest)

less : {P : Type 0} (a b : ℕ) → (a < b → P) → (b ≤ a → P) → P
less {P} a b f g = go (ltb a b) refl
  where
    go : (t : Bool) → ltb a b ≡ t → P
    go true e = f (ltb-true a b e)
    go false e = g (ltb-false a b e)

equal : {P : Type 0} (a b : ℕ) → (a ≡ b → P) → (a ≢ b → P) → P
equal {P} a b f g = go (eqb a b) refl
  where
    go : (t : Bool) → eqb a b ≡ t → P
    go true e = f (eqb-true a b e)
    go false e = g (eqb-false a b e)

-- a reader in a character that wants one byte more at least
take_tail : {P : Type 0} (s t : State) (lo hi : ℕ) → ((x : ℕ) → next s x ≡ pick (within lo hi x) t broken) → is_between s ≡ false → 0x80 ≤ lo → hi ≤ 0xBF
    → (l : List ℕ) → after s l ≡ between
    → ((c : ℕ) (rest : List ℕ) → l ≡ c ∷ rest → 0x80 ≤ c → c < 0xC0 → after t rest ≡ between → P) → P
unfolding after is_between
take_tail s t lo hi n i low high [] e k = absurd (true≢false (sym (ap is_between e) ∙ i))
take_tail {P} s t lo hi n i low high (c ∷ rest) e k = go (within lo hi c) refl (ap (λ (x : State). after x rest) (sym (n c)) ∙ e)
  where
    go : (b : Bool) → within lo hi c ≡ b → after (pick b t broken) rest ≡ between → P
    go true q f =
        let above = within_low lo hi c q in
        let under = within_top lo hi c q in
        k c rest refl (omega arith) (omega arith) f
    go false q f = absurd (never_between rest f)

module _ (n : ℕ) (rec : (t : List ℕ) → length t ≤ n → after between t ≡ between → Characters t) where
  -- the last byte of a character, and the characters after it
  last_tail : {P : Type 0} (l : List ℕ) → after one l ≡ between
      → ((c : ℕ) (rest : List ℕ) → l ≡ c ∷ rest → 0x80 ≤ c → c < 0xC0 → after between rest ≡ between → P) → P
  unfolding next is_between
  last_tail l e k = take_tail one between 0x80 0xBF (λ x. refl) refl (omega arith) (omega arith) l e k

  of_two : (a : ℕ) (l : List ℕ) → length l ≤ n → 0xC2 ≤ a → a < 0xE0 → after one l ≡ between → Characters (a ∷ l)
  of_two a l h g k e =
      last_tail l e (λ c rest q x y f. rw q (more (single-two g k x y) (rec rest (omega (arith, ap length q, h)) f)))

  of_three : (a : ℕ) (l : List ℕ) (s : State) (lo hi : ℕ) → ((x : ℕ) → next s x ≡ pick (within lo hi x) one broken) → is_between s ≡ false → 0x80 ≤ lo → hi ≤ 0xBF
      → length l ≤ n → 0xE0 ≤ a → a < 0xF0 → after s l ≡ between → Characters (a ∷ l)
  of_three a l s lo hi t i low high h g k e =
      take_tail s one lo hi t i low high l e (λ b rest q x y f.
      last_tail rest f (λ c rest2 q2 z w f2.
      rw (q, q2) (more (single-three g k x y z w) (rec rest2 (omega (arith, ap length q, ap length q2, h)) f2))))

  of_four : (a : ℕ) (l : List ℕ) (s : State) (lo hi : ℕ) → ((x : ℕ) → next s x ≡ pick (within lo hi x) two broken) → is_between s ≡ false → 0x80 ≤ lo → hi ≤ 0xBF
      → length l ≤ n → 0xF0 ≤ a → after s l ≡ between → Characters (a ∷ l)
  unfolding next is_between
  of_four a l s lo hi t i low high h g e =
      take_tail s two lo hi t i low high l e (λ b rest q x y f.
      take_tail two one 0x80 0xBF (λ x. refl) refl (omega arith) (omega arith) rest f (λ c rest2 q2 z w f2.
      last_tail rest2 f2 (λ d rest3 q3 u v f3.
      rw (q, q2, q3) (more (single-four g x y z w u v) (rec rest3 (omega (arith, ap length q, ap length q2, ap length q3, h)) f3)))))

  step : (a : ℕ) (l : List ℕ) → length l ≤ n → after (first a) l ≡ between → Characters (a ∷ l)
  unfolding next is_between
  step a l h e =
      less a 0x80 (λ x. more (single-one x) (rec l h (rw (first_ascii a x) at e))) λ x.
      less a 0xC2 (λ y. absurd (never_between l (rw (first_low a x y) at e))) λ y.
      less a 0xE0 (λ z. of_two a l h y z (rw (first_one a y z) at e)) λ z.
      less a 0xF0
      (λ k.
      equal a 0xE0 (λ q. of_three a l after_e0 0xA0 0xBF (λ x. refl) refl (omega arith) (omega arith) h z k (rw (first_e0 a q) at e)) λ n0.
      equal a 0xED (λ q. of_three a l after_ed 0x80 0x9F (λ x. refl) refl (omega arith) (omega arith) h z k (rw (first_ed a q) at e)) λ nd.
      of_three a l two 0x80 0xBF (λ x. refl) refl (omega arith) (omega arith) h z k (rw (first_two a (omega arith) k nd) at e)) λ k.
      equal a 0xF0 (λ q. of_four a l after_f0 0x90 0xBF (λ x. refl) refl (omega arith) (omega arith) h k (rw (first_f0 a q) at e)) λ n0.
      less a 0xF4 (λ w. of_four a l three 0x80 0xBF (λ x. refl) refl (omega arith) (omega arith) h k (rw (first_three a (omega arith) w) at e)) λ w.
      equal a 0xF4 (λ q. of_four a l after_f4 0x80 0x8F (λ x. refl) refl (omega arith) (omega arith) h k (rw (first_f4 a q) at e)) λ n4.
      absurd (never_between l (rw (first_high a (omega arith)) at e))

characters_upto : (n : ℕ) (t : List ℕ) → length t ≤ n → after between t ≡ between → Characters t
unfolding after next
characters_upto zero [] h e = none
characters_upto zero (a ∷ l) h e = absurd (omega arith)
characters_upto (suc n) [] h e = none
characters_upto (suc n) (a ∷ l) h e = step n (λ t x y. characters_upto n t x y) a l (omega arith) e

pub characters : (t : List ℕ) → WellFormed t → Characters t
unfolding WellFormed
characters t h = characters_upto (length t) t (omega arith) h
