-- `last_word` meets its contract: what is left is a part of the last word, and so ASCII. Assumes nothing.
use native.Mathlib.Omega.{arith}
use Rattle.text.proofs.Blocks.{ascii_end}
use Rattle.text.proofs.validate.last_word.Goals as goal

pub returns-then-text-lt8 : goal.returns-then-text-lt8
returns-then-text-lt8 c = c.requires

pub overflow_sub-last : goal.overflow_sub-last
overflow_sub-last c = omega (arith, c.if-text-lt8.false)

pub returns-then-from-last : goal.returns-then-from-last
returns-then-from-last c = c.requires

pub high_bits-requires : goal.high_bits-requires
high_bits-requires c = omega (arith, c.if-text-lt8.false)

pub returns-then-high_bits-ne0 : goal.returns-then-high_bits-ne0
returns-then-high_bits-ne0 c = c.requires

pub returns : goal.returns
returns c =
    let given = c.args in
    ascii_end given.text.now given.from 8 c.requires (omega arith) (omega arith) (c.high_bits.ensures c.if-high_bits-ne0.false)
