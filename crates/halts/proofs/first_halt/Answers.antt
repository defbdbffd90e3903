-- `first_halt`: what was passed before the search is smooth. Assumes nothing.
use native.Mathlib.Omega.{arith}
use lib.Dec.{leb, ltb}
use lib.ListN.{length}
use borrow.Author.Tests.{leb-true, ltb-true}
use Rattle.text.proofs.Bytes.{and_left, and_right}
use Rattle.halts.proofs.Smooth.{halt_over, halt_join}
use Rattle.halts.proofs.first_halt.Goals as goal

pub returns-then-newer : goal.returns-then-newer
returns-then-newer c = rw c.if-newer.true c.newer_halt.ensures

pub clear_short-requires : goal.clear_short-requires
clear_short-requires c =
    let n = length c.args.text.now in
    (leb-true 8 n (and_left (leb 8 n) (ltb n 16) c.if-n.true), omega (arith, ltb-true n 16 (and_right (leb 8 n) (ltb n 16) c.if-n.true)))

pub returns-then-clear_short : goal.returns-then-clear_short
returns-then-clear_short c = rw c.if-newer.false (halt_over (c.clear_short.ensures c.if-clear_short.true))

pub returns : goal.returns
returns c = rw c.if-newer.false (halt_join c.clear_wide.result c.clear_wide.ensures c.older_halt.ensures)
