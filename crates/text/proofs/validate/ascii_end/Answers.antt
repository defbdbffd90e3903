use mathlib.Core.Path.{◌≡◌}
use lib.ListN.{length}
use native.Mathlib.Omega.{arith}
use Prim.Native.Nat.{zero-le}
use Rattle.text.proofs.Blocks.{ascii_none, ascii_next, run_ascii}
use Rattle.text.proofs.validate.ascii_end.Goals as goal

pub ascii_blocks-requires : goal.ascii_blocks-requires
ascii_blocks-requires c = record { inside = zero-le; words_nonzero = (omega arith, omega arith) }

pub ascii_blocks-i-requires : goal.ascii_blocks-i-requires
ascii_blocks-i-requires c = record { inside = c.ascii_blocks.ensures.fits; words_nonzero = (omega arith, omega arith) }

pub loop-i-init : goal.loop-i-init
loop-i-init c =
    let t = c.args.text.now in
    run_ascii t _ _ (run_ascii t 0 _ (ascii_none t) c.ascii_blocks.ensures) c.ascii_blocks-i.ensures

pub returns-then-text-i-gt127 : goal.returns-then-text-i-gt127
returns-then-text-i-gt127 c = c.loop-i.invariant

pub loop-i-preserved : goal.loop-i-preserved
loop-i-preserved c =
    ascii_next c.args.text.now c.loop-i.i c.loop-i.invariant c.loop-i-test.true c.if-text-i-gt127.false

pub returns : goal.returns
returns c =
    let all : c.loop-i.i ≡ length c.args.text.now = omega (arith, c.loop-i.invariant.fits, c.loop-i-test.false) in
    rw all at c.loop-i.invariant
