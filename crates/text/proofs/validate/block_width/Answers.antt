-- `block_width`, return by return: ASCII is whole; 0 bytes always are; else the three bytes before are an edge (`edge_of`), and the
-- block fits, so that `whole_part` tells how far it is whole.
use native.Mathlib.Omega.{arith}
use Prim.Native.Nat.{◌+◌}
use Rattle.text.proofs.Blocks.{ascii_whole, whole_none, edge_of}
use Rattle.text.proofs.validate.block_width.Goals as goal

pub returns-then-top-lt128 : goal.returns-then-top-lt128
returns-then-top-lt128 c =
    let given = c.args in
    ascii_whole given.text.now (given.j + 3) 32 given.top c.requires.at_most c.if-top-lt128.true (omega (arith, c.requires.j_in_bounds))

pub returns-then-text-j : goal.returns-then-text-j
returns-then-text-j c =
    let given = c.args in
    whole_none given.text.now (given.j + 3) (omega (arith, c.requires.j_in_bounds))

pub unfit-requires : goal.unfit-requires
unfit-requires c =
    record { j_in_bounds = c.requires.j_in_bounds; edge = edge_of _ _ c.if-text-j.false; at_most = c.requires.at_most }

pub returns-then-unfit : goal.returns-then-unfit
returns-then-unfit c =
    let given = c.args in
    whole_none given.text.now (given.j + 3) (omega (arith, c.requires.j_in_bounds))

pub whole_part-requires : goal.whole_part-requires
whole_part-requires c = record { j_in_bounds = c.requires.j_in_bounds; edge = edge_of _ _ c.if-text-j.false; fitting = c.unfit.ensures c.if-unfit.false }
