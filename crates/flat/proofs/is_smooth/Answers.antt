-- A text of 8 to 15 bytes under XML 1.0 is told by its words, any other by its next halt from 0 on.
use mathlib.Core.Path.{sym, subst}
use mathlib.Core.Bool.{Bool, not, ◌&&◌}
use native.Mathlib.Omega.{arith}
use lib.Dec.{leb, ltb}
use lib.ListN.{length}
use borrow.Author.Tests.{leb-true, ltb-true, eqb-true, not-true}
use Rattle.text.proofs.Bytes.{and_left, and_right}
use Rattle.halts.specs.Halts.{Smooth}
use Rattle.flat.proofs.is_smooth.Goals as goal

pub clear_short-requires : goal.clear_short-requires
clear_short-requires c =
    let a = c.args in
    let n = length a.text.now in
    let sized = and_left (leb 8 n && ltb n 16) (not a.newer) c.if-n-newer.true in
    (leb-true 8 n (and_left (leb 8 n) (ltb n 16) sized), omega (arith, ltb-true n 16 (and_right (leb 8 n) (ltb n 16) sized)))

pub returns-then-n-newer : goal.returns-then-n-newer
returns-then-n-newer c = λ q.
    let a = c.args in
    let n = length a.text.now in
    subst (λ (x : Bool). Smooth x a.text.now 0 n) (sym (not-true a.newer (and_right (leb 8 n && ltb n 16) (not a.newer) c.if-n-newer.true)))
    (c.clear_short.ensures q)

pub returns : goal.returns
returns c = λ q.
    let a = c.args in
    subst (Smooth a.newer a.text.now 0) (eqb-true c.next_halt.result (length a.text.now) q) c.next_halt.ensures.smooth
