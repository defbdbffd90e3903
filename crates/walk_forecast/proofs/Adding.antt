-- A pair with the opening of its own text, by the code's cases: the limit does not allow it (`placed_late`), its text has a length
-- (`placed_sized`), it is refused (`placed_fails`). Assumes nothing.
use mathlib.Core.Path.{◌≡◌, refl}
use mathlib.Core.Bool.{Bool, true, false, true≢false}
use Prim.Native.Nat.{ℕ, ◌+◌, ◌-◌, ◌≤◌, ◌<◌}
use native.Mathlib.Omega.{arith}
use lib.Dec.{eqb, leb}
use borrow.Author.Tests.{ne_eqb, le-leb, lt-leb}
use Rattle.text.specs.Bytes.{pick}
use Rattle.walk_pairs.specs.Forecast.{sized, fails}
use Rattle.walk_pairs.specs.PairSums.{placed, from_words}
use Rattle.walk_forecast.specs.Surveys.{Addable}

module _ {first second openings limit : ℕ} (a : Addable first second openings limit) where
  pub placed_late : limit < openings + 1 + second → fails 17 limit ≡ placed limit (openings + 1) (from_words first second)
  unfolding placed from_words
  placed_late late = go (eqb second 1000001) (leb 9223372036854775808 first)
    where
      over : leb (openings + 1 + second) limit ≡ false
      over = lt-leb (openings + 1 + second) limit late

      refusal : (x y : Bool) → y ≡ false → fails 17 limit ≡ pick x (fails 17 limit) (pick y (fails (first - 9223372036854775808) (openings + 1 + second)) (fails 17 limit))
      refusal true y e = refl
      refusal false true e = absurd (true≢false e)
      refusal false false e = refl

      go : (held refused : Bool)
          → fails 17 limit ≡ placed limit (openings + 1) (pick held (fails 17 1000000) (pick refused (fails (first - 9223372036854775808) second) (sized first second)))
      go true refused = refl
      go false true = refusal (eqb (first - 9223372036854775808) 17) (leb (openings + 1 + second) limit) over
      go false false = rw over

  few : openings + 1 + second ≤ limit → eqb second 1000001 ≡ false
  few h = ne_eqb second 1000001 (λ e. omega (arith, e, h, a.most))

  pub placed_sized : openings + 1 + second ≤ limit → first < 9223372036854775808
      → sized first (openings + 1 + second) ≡ placed limit (openings + 1) (from_words first second)
  unfolding placed from_words
  placed_sized h low = rw (few h, lt-leb 9223372036854775808 first low, le-leb (openings + 1 + second) limit h)

  pub placed_fails : openings + 1 + second ≤ limit → 9223372036854775808 ≤ first
      → fails (first - 9223372036854775808) (openings + 1 + second) ≡ placed limit (openings + 1) (from_words first second)
  unfolding placed from_words
  placed_fails h high =
      let other : eqb (first - 9223372036854775808) 17 ≡ false = ne_eqb (first - 9223372036854775808) 17 (λ e. a.other (omega (arith, e, high))) in
      rw (few h, le-leb 9223372036854775808 first high, other, le-leb (openings + 1 + second) limit h)
