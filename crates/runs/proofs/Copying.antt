-- A block of a run that is copied where there is room for the whole run. Assumes nothing.
use mathlib.Core.Path.{◌≡◌, ◌∙◌}
use mathlib.Core.Bool.{Bool}
use mathlib.Core.List.{List}
use Prim.Native.Nat.{ℕ, ◌+◌, ◌-◌, ◌≤◌}
use native.Mathlib.Omega.{arith}
use lib.ListN.{length}
use borrow.Rule.Slice.PartMut.{mid_of, put_mid}
use Rattle.text.specs.Call.{laid}
use Rattle.output.specs.Runs.{Plain, Copied, Room}
use Rattle.output.proofs.Runs.{part_length, part_room, copied_more}

-- what a copy of `n` bytes asks
pub copied_fits : {stop : ℕ → Bool} {t old out : List ℕ} {i : ℕ} → Copied stop t old out i → Room stop t old → (n : ℕ) → Plain stop t i (i + n)
    → (length (mid_of i (i + n - i) t) ≡ n) × (n ≤ length (mid_of i (length out - i) out))
copied_fits {stop} {t} {old} {i = i} c room n p =
    let q : i + n - i ≡ n = omega arith in
    (part_length stop t old c room p ∙ q, rw q at (part_room stop t old c room p))

-- ---- 32 bytes at a time

-- the halves of a run of 32 bytes
module _ {stop : ℕ → Bool} {t : List ℕ} {i : ℕ} (p : Plain stop t i (i + 32)) where
  pub first_half : Plain stop t i (i + 16)
  first_half = record { from = omega arith; to = omega (arith, p.to); none = λ k g h. p.none k g (omega (arith, h)) }

  pub second_half : Plain stop t (i + 16) (i + 16 + 16)
  second_half =
      record { from = omega arith; to = omega (arith, p.to); none = λ k g h. p.none k (omega (arith, g)) (omega (arith, h)) }

-- each is copied by a call that is lent the rest of the output
module _ (stop : ℕ → Bool) (t old : List ℕ) {out : List ℕ} {i : ℕ} (c : Copied stop t old out i) (room : Room stop t old)
    (p : Plain stop t i (i + 32)) {one : List ℕ} (e : one ≡ laid (mid_of i (i + 16 - i) t) (mid_of i (length out - i) out)) where
  pub half_copied : Copied stop t old (put_mid i (length out - i) out one) (i + 16)
  half_copied = copied_more stop t old c room (first_half p) e

  pub both_copied : {two : List ℕ}
      → two ≡ laid (mid_of (i + 16) (i + 16 + 16 - (i + 16)) t) (mid_of (i + 16) (length (put_mid i (length out - i) out one) - (i + 16)) (put_mid i (length out - i) out one))
      → Copied stop t old (put_mid (i + 16) (length (put_mid i (length out - i) out one) - (i + 16)) (put_mid i (length out - i) out one) two) (i + 32)
  both_copied f =
      let q : i + 16 + 16 ≡ i + 32 = omega arith in
      rw q at (copied_more stop t old half_copied room (second_half p) f)
