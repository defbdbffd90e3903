-- The test for one byte: the term in which the searches are proved. Assumes nothing.
use Rattle.std.specs.Prelude.{ℕ, Bool, eqb}

abbrev pub is_byte : ℕ → ℕ → Bool
is_byte b c = eqb c b
