-- `put_ends` lays the whole run: its first `size` bytes, then its last `size`, which meet or overlap them (`laid_ends`).
use mathlib.Core.Path.{◌≡◌, sym}
use Prim.Native.Nat.{◌-◌}
use lib.ListN.{length, take}
use lib.Seq.{length-take-le}
use native.Mathlib.Omega.{arith}
use Rattle.output.proofs.Laid.{laid_ends}
use Rattle.output.proofs.put_ends.Goals as goal
use Rattle.output.proofs.put_ends.Goals.{Start}

-- the first piece is `size` bytes long
piece : (s : Start) → length (take s.args.size s.args.src.now) ≡ s.args.size
piece s = length-take-le s.args.size s.args.src.now s.requires.reaches

pub slice_bounds-put_piece-end : goal.slice_bounds-put_piece-end
slice_bounds-put_piece-end c = sym (piece (goal.at.slice_bounds-put_piece-end c).Start)

pub put_piece-requires : goal.put_piece-requires
put_piece-requires c =
    rw (piece (goal.at.put_piece-requires c).Start) (c.requires.small, omega (arith, c.requires.reaches, c.requires.room))

pub returns : goal.returns
returns c =
    let src = c.args.src.now in
    let size = c.args.size in
    laid_ends src c.args.out.now size (length src - size) (omega (arith, c.requires.covers)) c.requires.reaches c.put_piece.ensures
    c.put_piece-2.ensures
