-- Names in ASCII: the ranges above U+007F have no say (`start_ascii`, `char_ascii`), and a character there is one byte. Assumes nothing.
use mathlib.Core.Path.{◌≡◌, refl, sym, ap, ◌∙◌}
use mathlib.Core.Bool.{Bool, true, false, ◌||◌}
use Prim.Native.Nat.{ℕ, ◌<◌}
use native.Mathlib.Omega.{arith}
use lib.Dec.{eqb}
use borrow.Author.Tests.{ne_eqb}
use Rattle.text.specs.Bytes.{within}
use Rattle.text.proofs.Bytes.{below, within_top}
use Rattle.table_names.specs.NameChars.{is_name_start, is_name_char}

twelve : (x : Bool) → x || false || false || false || false || false || false || false || false || false || false || false || false ≡ x
twelve true = refl
twelve false = refl

three : (x : Bool) → x || false || false || false ≡ x
three true = refl
three false = refl

pub start_ascii : (b : ℕ) → b < 0x80 → eqb b 0x3A || within 0x41 0x5A b || eqb b 0x5F || within 0x61 0x7A b ≡ is_name_start b
unfolding is_name_start
start_ascii b h =
    rw (
      below 0xC0 0xD6 b (omega arith),
      below 0xD8 0xF6 b (omega arith),
      below 0xF8 0x2FF b (omega arith),
      below 0x370 0x37D b (omega arith),
      below 0x37F 0x1FFF b (omega arith),
      below 0x200C 0x200D b (omega arith),
      below 0x2070 0x218F b (omega arith),
      below 0x2C00 0x2FEF b (omega arith),
      below 0x3001 0xD7FF b (omega arith),
      below 0xF900 0xFDCF b (omega arith),
      below 0xFDF0 0xFFFD b (omega arith),
      below 0x10000 0xEFFFF b (omega arith),
    )
    (sym (twelve (eqb b 0x3A || within 0x41 0x5A b || eqb b 0x5F || within 0x61 0x7A b)))

pub char_ascii : (b : ℕ) → b < 0x80 → is_name_start b || eqb b 0x2D || eqb b 0x2E || within 0x30 0x39 b ≡ is_name_char b
unfolding is_name_char
char_ascii b h =
    rw (ne_eqb b 0xB7 (λ q. omega arith), below 0x300 0x36F b (omega arith), below 0x203F 0x2040 b (omega arith))
    (sym (three (is_name_start b || eqb b 0x2D || eqb b 0x2E || within 0x30 0x39 b)))

or_last : (x : Bool) → x || true ≡ true
or_last true = refl
or_last false = refl

-- a small letter is a name character
pub letter_char : (b : ℕ) → within 0x61 0x7A b ≡ true → is_name_char b ≡ true
letter_char b e =
    let l : b < 0x80 = omega (arith, within_top 0x61 0x7A b e) in
    let s : is_name_start b ≡ true = sym (start_ascii b l) ∙ ap (λ (x : Bool). eqb b 0x3A || within 0x41 0x5A b || eqb b 0x5F || x) e ∙ or_last (eqb b 0x3A || within 0x41 0x5A b || eqb b 0x5F) in
    sym (char_ascii b l) ∙ ap (λ (x : Bool). x || eqb b 0x2D || eqb b 0x2E || within 0x30 0x39 b) s
