-- `put_two_blocks` lays the whole run: its first 16 bytes, then its last 16 (`laid_ends`).
use mathlib.Core.Path.{◌≡◌, sym}
use native.Mathlib.Omega.{arith}
use lib.ListN.{length, take}
use lib.Seq.{length-take-le}
use Rattle.output.proofs.Laid.{laid_ends}
use Rattle.runs.proofs.put_two_blocks.Goals as goal
use Rattle.runs.proofs.put_two_blocks.Goals.{Start}

-- the first block is 16 bytes long
first_block : (s : Start) → length (take 16 s.args.src.now) ≡ 16
first_block s = length-take-le 16 s.args.src.now (omega (arith, s.requires.src_len))

pub slice_bounds-put_block-end : goal.slice_bounds-put_block-end
slice_bounds-put_block-end c = sym (first_block (goal.at.slice_bounds-put_block-end c).Start)

pub put_block-requires : goal.put_block-requires
put_block-requires c =
    record { src_len = first_block (goal.at.put_block-requires c).Start; in_bounds = omega (arith, c.requires.in_bounds) }

pub returns : goal.returns
returns c =
    laid_ends c.args.src.now c.args.out.now 16 16 (omega arith) (omega (arith, c.requires.src_len)) c.put_block.ensures c.put_block-2.ensures
