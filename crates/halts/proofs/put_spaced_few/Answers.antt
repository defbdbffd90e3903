-- `put_spaced_few`: after k turns the first k bytes are laid, or all where there are fewer. Assumes nothing.
use native.Mathlib.Omega.{arith}
use Prim.Native.Nat.{zero-le}
use Rattle.halts.proofs.Spaces.{laying_none, laying_next, laying_past, laying_all}
use Rattle.halts.proofs.put_spaced_few.Goals as goal
use Rattle.halts.proofs.put_spaced_few.Goals.{then-k-n, else-k-n}

pub loop-k-init : goal.loop-k-init
loop-k-init c =
    let given = c.args in
    (zero-le, laying_none given.src.now given.out.now)

pub loop-k-preserved : goal.loop-k-preserved
loop-k-preserved c =
    let given = c.args in
    let src = given.src.now in
    let old = given.out.now in (
      omega (arith, c.loop-k-test.true),
      elim c.if-k-n.branch [
        | then-k-n w ↦ rw w.out-is (laying_next src old c.loop-k.invariant.1 (omega (arith, c.loop-k.invariant.1.size, c.requires.1)) w.if-k-n.true w.spaced_byte.ensures)
        | else-k-n w ↦ rw w.out-is (laying_past src old c.loop-k.invariant.1 w.if-k-n.false)
      ],
    )

pub returns : goal.returns
returns c =
    let given = c.args in
    laying_all given.src.now given.out.now c.loop-k.invariant.1 (omega (arith, c.loop-k-test.false, c.requires.0))
