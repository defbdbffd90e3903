-- Names of two to four bytes, by the tests of the code. Assumes nothing.
use mathlib.Core.Path.{◌≡◌, refl, ap, ap₂, sym, ◌∙◌}
use mathlib.Core.Bool.{Bool, true, false}
use mathlib.Core.List.{List, [], ◌∷◌, ◌++◌}
use Prim.Native.Nat.{ℕ, ◌+◌, ◌*◌, ◌<◌}
use native.Mathlib.Omega.{arith}
use lib.Dec.{lit<}
use lib.ListN.{length, get_or}
use Rattle.text.specs.Bytes.{same_bytes}
use Rattle.text.proofs.Bytes.{same_equal}
use Rattle.entity.specs.Table.{little_endian}
use Rattle.entity.specs.Binding.{predefined_of, bound_to}
use Rattle.entity.specs.declared.Binding.TheVariants.{Predefined, Unknown}
use Rattle.entity.proofs.Reading.{u16_sum, u32_sum}
use Rattle.entity.proofs.Words.{lowest}

pub not_same : (a b : List ℕ) → (a ≡ b → ⊥) → same_bytes a b ≡ false
not_same a b other = go (same_bytes a b) refl
  where
    go : (t : Bool) → same_bytes a b ≡ t → same_bytes a b ≡ false
    go true e = absurd (other (same_equal a b e))
    go false e = e

-- names of different lengths
pub unlike : (a b : List ℕ) → (length a ≡ length b → ⊥) → same_bytes a b ≡ false
unlike a b other = not_same a b (λ e. other (ap length e))

-- two and four bytes as one number
two_bytes : (a b : ℕ) → a < 0x100 → (name : List ℕ) → ((k : ℕ) → get_or name k 0 < 0x100) → length name ≡ 2 → little_endian name 0 2 ≡ a + b * 0x100 → name ≡ a ∷ b ∷ []
two_bytes a b h [] small n e = absurd (omega arith)
two_bytes a b h (x ∷ []) small n e = absurd (omega arith)
two_bytes a b h (x ∷ y ∷ []) small n e =
    let q : x + y * 0x100 ≡ a + b * 0x100 = sym (u16_sum (x ∷ y ∷ []) 0) ∙ e in
    let s = lowest x a y b (small 0) h q in
    ap₂ (λ (u v : ℕ). u ∷ v ∷ []) s.0 s.1
two_bytes a b h (x ∷ y ∷ z ∷ rest) small n e = absurd (omega arith)

four_bytes : (a b c d : ℕ) → a < 0x100 → b < 0x100 → c < 0x100 → (name : List ℕ) → ((k : ℕ) → get_or name k 0 < 0x100) → length name ≡ 4
    → little_endian name 0 4 ≡ a + b * 0x100 + c * 0x10000 + d * 0x1000000 → name ≡ a ∷ b ∷ c ∷ d ∷ []
four_bytes a b c d ha hb hc [] small n e = absurd (omega arith)
four_bytes a b c d ha hb hc (x ∷ []) small n e = absurd (omega arith)
four_bytes a b c d ha hb hc (x ∷ y ∷ []) small n e = absurd (omega arith)
four_bytes a b c d ha hb hc (x ∷ y ∷ z ∷ []) small n e = absurd (omega arith)
four_bytes a b c d ha hb hc (x ∷ y ∷ z ∷ w ∷ []) small n e =
    let sum : x + y * 0x100 + z * 0x10000 + w * 0x1000000 ≡ a + b * 0x100 + c * 0x10000 + d * 0x1000000 = sym (u32_sum (x ∷ y ∷ z ∷ w ∷ []) 0) ∙ e in
    let q : x + (y + (z + w * 0x100) * 0x100) * 0x100 ≡ a + (b + (c + d * 0x100) * 0x100) * 0x100 = omega arith in
    let s0 = lowest x a (y + (z + w * 0x100) * 0x100) (b + (c + d * 0x100) * 0x100) (small 0) ha q in
    let s1 = lowest y b (z + w * 0x100) (c + d * 0x100) (small 1) hb s0.1 in
    let s2 = lowest z c w d (small 2) hc s1.1 in
    ap₂ (λ (l m : List ℕ). l ++ m) (ap₂ (λ (u v : ℕ). u ∷ v ∷ []) s0.0 s1.0) (ap₂ (λ (u v : ℕ). u ∷ v ∷ []) s2.0 s2.1)
four_bytes a b c d ha hb hc (x ∷ y ∷ z ∷ w ∷ v ∷ rest) small n e = absurd (omega arith)

-- ---- the five, by the tests of the code

module _ (name pool : List ℕ) where
  pub is_amp_lem : same_bytes name (97 ∷ 109 ∷ 112 ∷ []) ≡ true → bound_to pool (Predefined 38) ≡ predefined_of name
  unfolding predefined_of bound_to
  is_amp_lem e = sym (ap predefined_of (same_equal name (97 ∷ 109 ∷ 112 ∷ []) e))

  pub none_else : (length name ≡ 2 → ⊥) → (length name ≡ 4 → ⊥) → same_bytes name (97 ∷ 109 ∷ 112 ∷ []) ≡ false → bound_to pool Unknown ≡ predefined_of name
  unfolding predefined_of bound_to
  none_else two four amp =
      simp (
        unlike name (108 ∷ 116 ∷ []) two,
        unlike name (103 ∷ 116 ∷ []) two,
        amp,
        unlike name (97 ∷ 112 ∷ 111 ∷ 115 ∷ []) four,
        unlike name (113 ∷ 117 ∷ 111 ∷ 116 ∷ []) four,
      )

  pub none_two : length name ≡ 2 → (little_endian name 0 2 ≡ 0x746c → ⊥) → (little_endian name 0 2 ≡ 0x7467 → ⊥) → bound_to pool Unknown ≡ predefined_of name
  unfolding predefined_of bound_to little_endian
  none_two n lt gt =
      simp (
        not_same name (108 ∷ 116 ∷ []) (λ e. lt (ap (λ (t : List ℕ). little_endian t 0 2) e)),
        not_same name (103 ∷ 116 ∷ []) (λ e. gt (ap (λ (t : List ℕ). little_endian t 0 2) e)),
        unlike name (97 ∷ 109 ∷ 112 ∷ []) (λ e. omega arith),
        unlike name (97 ∷ 112 ∷ 111 ∷ 115 ∷ []) (λ e. omega arith),
        unlike name (113 ∷ 117 ∷ 111 ∷ 116 ∷ []) (λ e. omega arith),
      )

  pub none_four : length name ≡ 4 → (little_endian name 0 4 ≡ 0x736f7061 → ⊥) → (little_endian name 0 4 ≡ 0x746f7571 → ⊥) → bound_to pool Unknown ≡ predefined_of name
  unfolding predefined_of bound_to little_endian
  none_four n apos quot =
      simp (
        unlike name (108 ∷ 116 ∷ []) (λ e. omega arith),
        unlike name (103 ∷ 116 ∷ []) (λ e. omega arith),
        unlike name (97 ∷ 109 ∷ 112 ∷ []) (λ e. omega arith),
        not_same name (97 ∷ 112 ∷ 111 ∷ 115 ∷ []) (λ e. apos (ap (λ (t : List ℕ). little_endian t 0 4) e)),
        not_same name (113 ∷ 117 ∷ 111 ∷ 116 ∷ []) (λ e. quot (ap (λ (t : List ℕ). little_endian t 0 4) e)),
      )

  module _ (small : (k : ℕ) → get_or name k 0 < 0x100) where
    pub is_lt : length name ≡ 2 → little_endian name 0 2 ≡ 0x746c → bound_to pool (Predefined 60) ≡ predefined_of name
    unfolding predefined_of bound_to
    is_lt n e = sym (ap predefined_of (two_bytes 108 116 (lit< tt) name small n e))

    pub is_gt : length name ≡ 2 → little_endian name 0 2 ≡ 0x7467 → bound_to pool (Predefined 62) ≡ predefined_of name
    unfolding predefined_of bound_to
    is_gt n e = sym (ap predefined_of (two_bytes 103 116 (lit< tt) name small n e))

    pub is_apos : length name ≡ 4 → little_endian name 0 4 ≡ 0x736f7061 → bound_to pool (Predefined 39) ≡ predefined_of name
    unfolding predefined_of bound_to
    is_apos n e = sym (ap predefined_of (four_bytes 97 112 111 115 (lit< tt) (lit< tt) (lit< tt) name small n e))

    pub is_quot : length name ≡ 4 → little_endian name 0 4 ≡ 0x746f7571 → bound_to pool (Predefined 34) ≡ predefined_of name
    unfolding predefined_of bound_to
    is_quot n e = sym (ap predefined_of (four_bytes 113 117 111 116 (lit< tt) (lit< tt) (lit< tt) name small n e))
