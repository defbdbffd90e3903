-- `put_held`: a short value at once; else the blocks before the last keep `Holding`, and the last one ends it.
use mathlib.Core.Path.{refl, ap, ◌∙◌}
use native.Mathlib.Omega.{arith}
use Prim.Native.Nat.{◌+◌, ◌-◌}
use lib.ListN.{length}
use Rattle.output.proofs.Clip.{over_fits}
use Rattle.output.proofs.Laid.{laid_length}
use Rattle.normalize.proofs.Held.{holding_start, holding_block, holding_room, holding_next, holding_end}
use Rattle.normalize.proofs.put_held.Goals as goal

pub put_over-requires : goal.put_over-requires
put_over-requires c = tt

pub shape_of-out-then-n-lt16 : goal.shape_of-out-then-n-lt16
shape_of-out-then-n-lt16 c = c.put_over.auto.out

pub returns-then-n-lt16 : goal.returns-then-n-lt16
returns-then-n-lt16 c =
    c.put_over.ensures ∙ over_fits c.args.src.now c.args.out.now c.requires

pub loop-i-init : goal.loop-i-init
loop-i-init c =
    let a = c.args in
    holding_start a.src.now a.out.now (omega (arith, c.if-n-lt16.false))

pub overflow_add-i : goal.overflow_add-i
overflow_add-i c = omega (arith, c.loop-i.invariant.ends, c.loop-i-test.true)

pub slice_bounds-put_block-count : goal.slice_bounds-put_block-count
slice_bounds-put_block-count c = omega arith

pub slice_bounds-put_block-start : goal.slice_bounds-put_block-start
slice_bounds-put_block-start c = omega arith

pub slice_bounds-put_block-end : goal.slice_bounds-put_block-end
slice_bounds-put_block-end c = omega (arith, c.loop-i.invariant.ends, c.loop-i-test.true)

pub slice_bounds-put_block-count-in-loop-i : goal.slice_bounds-put_block-count-in-loop-i
slice_bounds-put_block-count-in-loop-i c =
    omega (arith, c.loop-i.invariant.ends, c.loop-i.invariant.size, c.loop-i-test.true, c.requires)

pub slice_bounds-put_block-start-in-loop-i : goal.slice_bounds-put_block-start-in-loop-i
slice_bounds-put_block-start-in-loop-i c =
    omega (arith, c.loop-i.invariant.ends, c.loop-i.invariant.size, c.loop-i-test.true, c.requires)

pub slice_bounds-put_block-end-in-loop-i : goal.slice_bounds-put_block-end-in-loop-i
slice_bounds-put_block-end-in-loop-i c = omega arith

pub put_block-requires : goal.put_block-requires
put_block-requires c =
    record { src_len = holding_block c.loop-i.invariant c.requires c.loop-i.i (c.loop-i.i + 16) refl (omega (arith, c.loop-i.invariant.ends, c.loop-i-test.true)); in_bounds = holding_room c.loop-i.invariant c.requires c.loop-i.i (omega (arith, c.loop-i.invariant.ends, c.loop-i-test.true)) }

pub overflow_add-i-in-loop-i : goal.overflow_add-i-in-loop-i
overflow_add-i-in-loop-i c = omega (arith, c.loop-i.invariant.ends, c.loop-i-test.true)

pub loop-i-smaller : goal.loop-i-smaller
loop-i-smaller c = omega (arith, c.loop-i.invariant.ends, c.loop-i-test.true)

pub loop-i-preserved : goal.loop-i-preserved
loop-i-preserved c =
    holding_next c.loop-i.invariant c.requires c.loop-i-test.true c.put_block.ensures

pub slice_bounds-put_block-count-2 : goal.slice_bounds-put_block-count-2
slice_bounds-put_block-count-2 c = omega (arith, c.loop-i.invariant.ends)

pub slice_bounds-put_block-start-2 : goal.slice_bounds-put_block-start-2
slice_bounds-put_block-start-2 c = omega (arith, c.loop-i.invariant.ends)

pub slice_bounds-put_block-end-2 : goal.slice_bounds-put_block-end-2
slice_bounds-put_block-end-2 c = omega arith

pub slice_bounds-put_block-count-3 : goal.slice_bounds-put_block-count-3
slice_bounds-put_block-count-3 c =
    omega (arith, c.loop-i.invariant.ends, c.loop-i.invariant.size, c.requires)

pub slice_bounds-put_block-start-3 : goal.slice_bounds-put_block-start-3
slice_bounds-put_block-start-3 c =
    omega (arith, c.loop-i.invariant.ends, c.loop-i.invariant.size, c.requires)

pub slice_bounds-put_block-end-3 : goal.slice_bounds-put_block-end-3
slice_bounds-put_block-end-3 c = omega arith

pub put_block-requires-2 : goal.put_block-requires-2
put_block-requires-2 c =
    let n = length c.args.src.now in
    record { src_len = holding_block c.loop-i.invariant c.requires (n - 16) n (omega (arith, c.loop-i.invariant.ends)) (omega arith); in_bounds = holding_room c.loop-i.invariant c.requires (n - 16) (omega (arith, c.loop-i.invariant.ends)) }

pub shape_of-out : goal.shape_of-out
shape_of-out c =
    ap length (holding_end c.loop-i.invariant c.requires (omega (arith, c.loop-i-test.false)) c.put_block-2.ensures)
    ∙ laid_length c.args.src.now c.args.out.now c.requires

pub returns : goal.returns
returns c =
    holding_end c.loop-i.invariant c.requires (omega (arith, c.loop-i-test.false)) c.put_block-2.ensures
