-- `put_spaced_block`: a piece of 16 bytes from 0 on is the run. Assumes nothing.
use native.Mathlib.Omega.{arith}
use Rattle.halts.specs.Halts.{Laying}
use Rattle.halts.proofs.Spaces.{laying_none, laying_all}
use Rattle.halts.proofs.put_spaced_block.Goals as goal
use Rattle.halts.proofs.put_spaced_block.Goals.{After-put_spaced_piece}

laid_block : (c : After-put_spaced_piece) → Laying c.args.src.now c.args.out.now c.put_spaced_piece.new.out 16
laid_block c =
    let given = c.args in
    c.put_spaced_piece.ensures given.out.now 0 (omega arith) (omega arith) (laying_none given.src.now given.out.now)

pub shape_of-out : goal.shape_of-out
shape_of-out c = (laid_block (goal.at.shape_of-out c).After-put_spaced_piece).size

pub returns : goal.returns
returns c =
    laying_all c.args.src.now c.args.out.now (laid_block (goal.at.returns c).After-put_spaced_piece) (omega (arith, c.requires.src_len))
