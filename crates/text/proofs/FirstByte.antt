-- The state after a character's first byte, range by range. Assumes nothing.
use mathlib.Core.Path.{◌≡◌}
use Prim.Native.Nat.{ℕ, ◌≤◌, ◌<◌}
use native.Mathlib.Omega.{arith}
use borrow.Author.Tests.{le-leb, lt-leb, eq-eqb, ne_eqb}
use Rattle.text.specs.Utf8.{between, one, two, three, after_e0, after_ed, after_f0, after_f4, broken, first}
use Rattle.text.proofs.Bytes.{inside, above, below}

pub first_ascii : (b : ℕ) → b < 0x80 → first b ≡ between
unfolding first
first_ascii b h = rw (le-leb b 0x7F (omega arith))

pub first_low : (b : ℕ) → 0x80 ≤ b → b < 0xC2 → first b ≡ broken
unfolding first
first_low b g h =
    rw (lt-leb b 0x7F (omega arith), below 0xC2 0xDF b (omega arith), ne_eqb b 0xE0 (λ q. omega arith), ne_eqb b 0xED (λ q. omega arith), below 0xE1 0xEF b (omega arith), ne_eqb b 0xF0 (λ q. omega arith), below 0xF1 0xF3 b (omega arith), ne_eqb b 0xF4 (λ q. omega arith))

pub first_one : (b : ℕ) → 0xC2 ≤ b → b < 0xE0 → first b ≡ one
unfolding first
first_one b g h = rw (lt-leb b 0x7F (omega arith), inside 0xC2 0xDF b (omega arith) (omega arith))

pub first_e0 : (b : ℕ) → b ≡ 0xE0 → first b ≡ after_e0
unfolding first
first_e0 b e = rw (lt-leb b 0x7F (omega arith), above 0xC2 0xDF b (omega arith), eq-eqb b 0xE0 e)

pub first_ed : (b : ℕ) → b ≡ 0xED → first b ≡ after_ed
unfolding first
first_ed b e = rw (lt-leb b 0x7F (omega arith), above 0xC2 0xDF b (omega arith), ne_eqb b 0xE0 (λ q. omega arith), eq-eqb b 0xED e)

pub first_two : (b : ℕ) → 0xE0 < b → b < 0xF0 → (b ≡ 0xED → ⊥) → first b ≡ two
unfolding first
first_two b g h n =
    rw (lt-leb b 0x7F (omega arith), above 0xC2 0xDF b (omega arith), ne_eqb b 0xE0 (λ q. omega arith), ne_eqb b 0xED n, inside 0xE1 0xEF b (omega arith) (omega arith))

pub first_f0 : (b : ℕ) → b ≡ 0xF0 → first b ≡ after_f0
unfolding first
first_f0 b e =
    rw (lt-leb b 0x7F (omega arith), above 0xC2 0xDF b (omega arith), ne_eqb b 0xE0 (λ q. omega arith), ne_eqb b 0xED (λ q. omega arith), above 0xE1 0xEF b (omega arith), eq-eqb b 0xF0 e)

pub first_three : (b : ℕ) → 0xF0 < b → b < 0xF4 → first b ≡ three
unfolding first
first_three b g h =
    rw (lt-leb b 0x7F (omega arith), above 0xC2 0xDF b (omega arith), ne_eqb b 0xE0 (λ q. omega arith), ne_eqb b 0xED (λ q. omega arith), above 0xE1 0xEF b (omega arith), ne_eqb b 0xF0 (λ q. omega arith), inside 0xF1 0xF3 b (omega arith) (omega arith))

pub first_f4 : (b : ℕ) → b ≡ 0xF4 → first b ≡ after_f4
unfolding first
first_f4 b e =
    rw (lt-leb b 0x7F (omega arith), above 0xC2 0xDF b (omega arith), ne_eqb b 0xE0 (λ q. omega arith), ne_eqb b 0xED (λ q. omega arith), above 0xE1 0xEF b (omega arith), ne_eqb b 0xF0 (λ q. omega arith), above 0xF1 0xF3 b (omega arith), eq-eqb b 0xF4 e)

pub first_high : (b : ℕ) → 0xF4 < b → first b ≡ broken
unfolding first
first_high b g =
    rw (lt-leb b 0x7F (omega arith), above 0xC2 0xDF b (omega arith), ne_eqb b 0xE0 (λ q. omega arith), ne_eqb b 0xED (λ q. omega arith), above 0xE1 0xEF b (omega arith), ne_eqb b 0xF0 (λ q. omega arith), above 0xF1 0xF3 b (omega arith), ne_eqb b 0xF4 (λ q. omega arith))
