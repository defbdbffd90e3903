-- `put_wide`: at each turn the first i bytes are a run, and are laid over the output (`Copied`); the next 32, a block without a stop, are copied by
-- two calls (`half_copied`, `both_copied`).
use mathlib.Core.List.{List}
use Prim.Native.Nat.{ℕ, ◌+◌, ◌-◌}
use native.Mathlib.Omega.{arith}
use lib.ListN.{length}
use borrow.Rule.Slice.PartMut.{put_mid}
use Rattle.output.specs.Runs.{Plain, Copied}
use Rattle.output.proofs.Runs.{copied_none, copied_length, run_room}
use Rattle.runs.specs.RunEnds.{line_stop}
use Rattle.runs.proofs.Copying.{copied_fits, first_half, second_half, half_copied, both_copied}
use Rattle.runs.proofs.lines.put_wide.Goals as goal
use Rattle.runs.proofs.lines.put_wide.Goals.{After-put_block, Else-any_stop}

-- the 32 bytes of this turn have no stop
block : (c : Else-any_stop) → Plain (line_stop c.args.newer) c.args.text.now c.loop-i.i (c.loop-i.i + 32)
block c = c.any_stop.ensures c.if-any_stop.false

-- what the output holds after the first copy
abbrev held : After-put_block → List ℕ
held c =
    put_mid c.loop-i.i (length c.loop-i.out - c.loop-i.i) c.loop-i.out c.put_block.new.out

half : (c : After-put_block) → Copied (line_stop c.args.newer) c.args.text.now c.args.out.now (held c) (c.loop-i.i + 16)
half c =
    half_copied _ _ _ c.loop-i.invariant.0 c.loop-i.invariant.1 (c.any_stop.ensures c.if-any_stop.false) c.put_block.ensures

pub loop-i-init : goal.loop-i-init
loop-i-init c = (copied_none _ _ _, c.requires)

pub overflow_sub-text : goal.overflow_sub-text
overflow_sub-text c = c.loop-i.invariant.0.run.to

pub any_stop-requires : goal.any_stop-requires
any_stop-requires c = omega (arith, c.loop-i.invariant.0.run.to)

pub shape_of-out-then-any_stop : goal.shape_of-out-then-any_stop
shape_of-out-then-any_stop c =
    copied_length _ _ _ c.loop-i.invariant.0 c.loop-i.invariant.1

pub returns-then-any_stop : goal.returns-then-any_stop
returns-then-any_stop c = c.loop-i.invariant.0

pub overflow_add-half : goal.overflow_add-half
overflow_add-half c = omega (arith, (block c).to)

pub slice_bounds-put_block-count : goal.slice_bounds-put_block-count
slice_bounds-put_block-count c = omega arith

pub slice_bounds-put_block-start : goal.slice_bounds-put_block-start
slice_bounds-put_block-start c = omega arith

pub slice_bounds-put_block-end : goal.slice_bounds-put_block-end
slice_bounds-put_block-end c = (first_half (block c)).to

pub slice_bounds-put_block-count-in-loop-i : goal.slice_bounds-put_block-count-in-loop-i
slice_bounds-put_block-count-in-loop-i c =
    omega (arith, run_room _ _ _ c.loop-i.invariant.0 c.loop-i.invariant.1 (block (goal.at.slice_bounds-put_block-count-in-loop-i c).Else-any_stop))

pub slice_bounds-put_block-start-in-loop-i : goal.slice_bounds-put_block-start-in-loop-i
slice_bounds-put_block-start-in-loop-i c =
    omega (arith, run_room _ _ _ c.loop-i.invariant.0 c.loop-i.invariant.1 (block (goal.at.slice_bounds-put_block-start-in-loop-i c).Else-any_stop))

pub put_block-requires : goal.put_block-requires
put_block-requires c =
    let both = copied_fits c.loop-i.invariant.0 c.loop-i.invariant.1 16 (first_half (block (goal.at.put_block-requires c).Else-any_stop)) in
    record { src_len = both.0; in_bounds = both.1 }

pub overflow_add-half-in-loop-i : goal.overflow_add-half-in-loop-i
overflow_add-half-in-loop-i c = omega (arith, (block (goal.at.overflow_add-half-in-loop-i c).Else-any_stop).to)

pub slice_bounds-put_block-count-in-loop-i-2 : goal.slice_bounds-put_block-count-in-loop-i-2
slice_bounds-put_block-count-in-loop-i-2 c = omega arith

pub slice_bounds-put_block-start-in-loop-i-2 : goal.slice_bounds-put_block-start-in-loop-i-2
slice_bounds-put_block-start-in-loop-i-2 c = omega arith

pub slice_bounds-put_block-end-in-loop-i-2 : goal.slice_bounds-put_block-end-in-loop-i-2
slice_bounds-put_block-end-in-loop-i-2 c = (second_half (block (goal.at.slice_bounds-put_block-end-in-loop-i-2 c).Else-any_stop)).to

pub slice_bounds-put_block-count-in-loop-i-3 : goal.slice_bounds-put_block-count-in-loop-i-3
slice_bounds-put_block-count-in-loop-i-3 c =
    omega (arith, run_room _ _ _ (half (goal.at.slice_bounds-put_block-count-in-loop-i-3 c).After-put_block) c.loop-i.invariant.1 (second_half (block (goal.at.slice_bounds-put_block-count-in-loop-i-3 c).Else-any_stop)))

pub slice_bounds-put_block-start-in-loop-i-3 : goal.slice_bounds-put_block-start-in-loop-i-3
slice_bounds-put_block-start-in-loop-i-3 c =
    omega (arith, run_room _ _ _ (half (goal.at.slice_bounds-put_block-start-in-loop-i-3 c).After-put_block) c.loop-i.invariant.1 (second_half (block (goal.at.slice_bounds-put_block-start-in-loop-i-3 c).Else-any_stop)))

pub put_block-requires-in-loop-i : goal.put_block-requires-in-loop-i
put_block-requires-in-loop-i c =
    let both = copied_fits (half (goal.at.put_block-requires-in-loop-i c).After-put_block) c.loop-i.invariant.1 16 (second_half (block (goal.at.put_block-requires-in-loop-i c).Else-any_stop)) in
    record { src_len = both.0; in_bounds = both.1 }

pub overflow_add-i : goal.overflow_add-i
overflow_add-i c = omega (arith, (block (goal.at.overflow_add-i c).Else-any_stop).to)

pub loop-i-smaller : goal.loop-i-smaller
loop-i-smaller c = omega (arith, (block (goal.at.loop-i-smaller c).Else-any_stop).to)

pub loop-i-preserved : goal.loop-i-preserved
loop-i-preserved c =
    (both_copied _ _ _ c.loop-i.invariant.0 c.loop-i.invariant.1 (block (goal.at.loop-i-preserved c).Else-any_stop) c.put_block.ensures c.put_block-in-loop-i.ensures, c.loop-i.invariant.1)

pub shape_of-out : goal.shape_of-out
shape_of-out c = copied_length _ _ _ c.loop-i.invariant.0 c.loop-i.invariant.1

pub returns : goal.returns
returns c = c.loop-i.invariant.0
