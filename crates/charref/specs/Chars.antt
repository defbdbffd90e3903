-- The characters of each XML version (XML 1.0 and XML 1.1, 2.2). Assumes nothing.
use Rattle.std.specs.Prelude.{ℕ, Bool, ◌||◌, eqb}
use Rattle.text.specs.Bytes.{within}
use Rattle.text.specs.Version.{Rule, xml10, xml11}

-- 2.2, Char
unfoldable pub is_char : Rule → ℕ → Bool
is_char xml10 n = eqb n 9 || eqb n 0xA || eqb n 0xD || within 0x20 0xD7FF n || within 0xE000 0xFFFD n || within 0x10000 0x10FFFF n
is_char xml11 n = within 1 0xD7FF n || within 0xE000 0xFFFD n || within 0x10000 0x10FFFF n
