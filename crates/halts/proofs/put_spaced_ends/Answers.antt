-- `put_spaced_ends`: the first piece reaches the last one, which starts among its bytes or at their end. Assumes nothing.
use Rattle.std.proofs.Common.{◌+◌, arith, zero-le}
use Rattle.halts.proofs.Spaces.{laying_none, piece_more, piece_last}
use Rattle.halts.proofs.put_spaced_ends.Goals as goal

pub loop-i-init : goal.loop-i-init
loop-i-init g c =
    let given = c.args in
    (zero-le, record { upto = 0; reaches = zero-le; ends = zero-le; laying = laying_none given.src.now given.out.now })

pub shape_of-out-then-last-i : goal.shape_of-out-then-last-i
shape_of-out-then-last-i g c = (piece_more c.loop-i.invariant.1 c.put_spaced_piece.ensures).size

pub returns-then-last-i : goal.returns-then-last-i
returns-then-last-i g c =
    piece_last c.loop-i.invariant.1 c.put_spaced_piece.ensures (omega (arith, c.if-last-i.true))

pub loop-i-preserved : goal.loop-i-preserved
loop-i-preserved g c =
    let more = piece_more c.loop-i.invariant.1 c.put_spaced_piece.ensures in
    (omega arith, record { upto = c.loop-i.i + g.row.N; reaches = omega (arith, c.requires.covers); ends = omega (arith, c.loop-i.invariant.0); laying = more })
