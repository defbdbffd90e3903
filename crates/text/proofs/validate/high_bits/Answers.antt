use mathlib.Core.Path.{sym, ap, ◌∙◌}
use Prim.Native.Nat.{ℕ}
use native.Mathlib.Omega.{arith}
use lib.Bits.{bit_and}
use Rattle.text.proofs.Words.{low_word}
use Rattle.text.proofs.validate.high_bits.Goals as goal

pub returns : goal.returns
returns c =
    let given = c.args in
    λ e. low_word given.text.now given.i (λ k. omega (arith, c.type_inv.text k)) (ap (λ (n : ℕ). bit_and n 0x8080808080808080) (sym c.word.ensures) ∙ e)
