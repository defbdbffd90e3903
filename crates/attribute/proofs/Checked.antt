-- What the checks of a walk's settings let pass. Assumes nothing.
use mathlib.Core.Path.{◌≡◌, refl}
use mathlib.Core.Bool.{Bool, true, false}
use Prim.Native.Nat.{ℕ, ◌≤◌}
use native.Mathlib.Omega.{arith}
use lib.Dec.{ltb}
use borrow.Author.Tests.{ltb-false}
use Rattle.text.specs.Bytes.{pick}
use Rattle.text.specs.Call.{version_check}
use Rattle.text.specs.Answers.{Done, Refused}
use Rattle.attribute.specs.Checks.{settings_check}

module _ (version depth limit : ℕ) {first second : ℕ} (e : settings_check version depth limit ≡ Done first second) where
  pub checked_settings : (depth ≤ 128) × (limit ≤ 1000000) × (version_check version ≡ Done first second)
  unfolding settings_check
  checked_settings = go (ltb 128 depth) (ltb 1000000 limit) refl refl e
    where
      go : (a b : Bool) → ltb 128 depth ≡ a → ltb 1000000 limit ≡ b → pick a (Refused 2 0 0) (pick b (Refused 3 0 0) (version_check version)) ≡ Done first second
          → (depth ≤ 128) × (limit ≤ 1000000) × (version_check version ≡ Done first second)
      go true b p q k = let z : ◌≡◌ {A = ℕ} 0 1 = cc in absurd (omega arith)
      go false true p q k = let z : ◌≡◌ {A = ℕ} 0 1 = cc in absurd (omega arith)
      go false false p q k = (ltb-false 128 depth p, ltb-false 1000000 limit q, k)
