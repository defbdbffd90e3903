-- Bytes told apart by one comparison (`common_plain`). Assumes nothing.
use mathlib.Core.Path.{◌≡◌, refl}
use mathlib.Core.Bool.{Bool, true, false, ◌&&◌}
use Prim.Native.Nat.{ℕ, ◌<◌}
use native.Mathlib.Omega.{arith}
use lib.Dec.{eqb, leb}
use borrow.Author.Tests.{ne_eqb, leb-true}
use Rattle.text.proofs.Bytes.{and_left, and_right}
use Rattle.runs.specs.RunEnds.{line_stop}

-- the bounds are asked by themselves, so that a wrong one is refused as a number
pub common_plain : {low high : ℕ} (b : ℕ) → leb low b && leb b high ≡ true → 13 < low → high < 0xC2 → (newer : Bool) → line_stop newer b ≡ false
common_plain {low} {high} b e past-cr before_lead newer =
    let from = leb-true low b (and_left (leb low b) (leb b high) e) in
    let to = leb-true b high (and_right (leb low b) (leb b high) e) in
    let cr : eqb b 13 ≡ false = ne_eqb b 13 (λ q. omega (arith, from, past-cr, q)) in
    let lead : (c : ℕ) → 0xC1 < c → eqb b c ≡ false = λ c h. ne_eqb b c (λ q. omega (arith, to, before_lead, h, q)) in
    rw (cr, lead 0xC2 (omega arith), lead 0xE2 (omega arith)) (no newer)
  where
    no : (n : Bool) → n && false ≡ false
    no true = refl
    no false = refl
