-- `put_spaced_blocks`: all before i is laid; the last block starts before i where the run is no multiple of 16. Assumes nothing.
use mathlib.Core.Path.{◌≡◌}
use native.Mathlib.Omega.{arith}
use Rattle.halts.proofs.Spaces.{Reaching, laying_none, piece_more, piece_last}
use Rattle.halts.proofs.put_spaced_blocks.Goals as goal
use Rattle.halts.proofs.put_spaced_blocks.Goals.{After-put_spaced_piece}

-- the block starts at i, or before it where it is the last one, so that what is laid reaches it
reached : (c : After-put_spaced_piece) → Reaching c.args.src.now c.args.out.now c.loop-i.out 16 c.min.result
reached c =
    record {
      upto = c.loop-i.i;
      reaches = omega (arith, c.min.ensures);
      ends = omega (arith, c.min.ensures, c.loop-i.invariant.0);
      laying = c.loop-i.invariant.1;
    }

pub loop-i-init : goal.loop-i-init
loop-i-init c =
    let given = c.args in
    (omega arith, laying_none given.src.now given.out.now)

pub shape_of-out-then-last-i : goal.shape_of-out-then-last-i
shape_of-out-then-last-i c = (piece_more (reached (goal.at.shape_of-out-then-last-i c).After-put_spaced_piece) c.put_spaced_piece.ensures).size

pub returns-then-last-i : goal.returns-then-last-i
returns-then-last-i c =
    piece_last (reached (goal.at.returns-then-last-i c).After-put_spaced_piece) c.put_spaced_piece.ensures
    (omega (arith, c.min.ensures, c.if-last-i.true))

pub loop-i-preserved : goal.loop-i-preserved
loop-i-preserved c =
    let here : c.min.result ≡ c.loop-i.i = omega (arith, c.min.ensures, c.if-last-i.false) in
    (omega (arith, c.if-last-i.false), rw here at (piece_more (reached (goal.at.loop-i-preserved c).After-put_spaced_piece) c.put_spaced_piece.ensures))
