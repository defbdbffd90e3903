-- `put_spaced_piece`: the array is filled with the piece, blanks as spaces, and then stored byte by byte. Assumes nothing.
use Rattle.std.proofs.Common.{◌≡◌, arith}
use Rattle.halts.proofs.Spaces.{stored_none, stored_next, stored_all}
use Rattle.halts.proofs.put_spaced_piece.Goals as goal

pub loop-k-2-init : goal.loop-k-2-init
loop-k-2-init g c =
    let s = c.args in
    let all : c.loop-k.k ≡ g.row.N = omega (arith, c.loop-k.invariant.within) in
    stored_none s.src.now s.from g.row.N s.out.now (rw all at c.loop-k.invariant)

pub loop-k-2-preserved : goal.loop-k-2-preserved
loop-k-2-preserved g c =
    let s = c.args in
    stored_next s.src.now s.from g.row.N c.requires.0 c.requires.1 c.loop-k-2.invariant c.loop-k-2-test.true

pub returns : goal.returns
returns g c =
    let s = c.args in
    stored_all s.src.now s.from g.row.N c.requires.0 c.requires.1 c.loop-k-2.invariant c.loop-k-2-test.false
