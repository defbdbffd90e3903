-- `put_collapsed` keeps `Collapsing`: a run is copied whole (`collapsing_run`), of the spaces after it the last one at most comes next
-- (`collapsing_skip`), and where nothing follows all is written (`collapsing_end`).
use Prim.Native.Nat.{ℕ, ◌+◌, ◌-◌, ◌<◌}
use native.Mathlib.Omega.{arith}
use mathlib.Core.List.{List}
use lib.ListN.{length}
use borrow.Rule.Slice.PartMut.{put_mid}
use Rattle.collapse.proofs.Stage.{Collapsing, collapsing_start, collapsing_run, collapsing_skip, collapsing_end, collapsing_length}
use Rattle.collapse.proofs.put_collapsed.Goals as goal
use Rattle.collapse.proofs.put_collapsed.Goals.{After-put_over, Else-next-value}

-- what the output holds after the copy
abbrev held : After-put_over → List ℕ
held c =
    let room = c.min-room.result in
    put_mid room (length c.loop-at.out - room) c.loop-at.out c.put_over.new.out

-- after the copy
ran : (c : After-put_over) → let end = c.stay_end-end.result in Collapsing c.args.value.now c.args.out.now (held c) (c.loop-at.at + (end - c.loop-at.i)) end
ran c = collapsing_run c.loop-at.invariant c.stay_end-end.ensures.run c.min-room.ensures c.put_over.ensures

-- after the spaces that follow, where the value goes on
skipped : (c : Else-next-value) → let end = c.stay_end-end.result in let i = c.skip_spaces-next.result - 1 in
    (end < i) × Collapsing c.args.value.now c.args.out.now (held (goal.at.loop-at-preserved c).After-put_over) (c.loop-at.at + (end - c.loop-at.i)) i
skipped c = collapsing_skip (ran (goal.at.loop-at-preserved c).After-put_over) c.stay_end-end.ensures.stops c.skip_spaces-next.ensures c.if-next-value.false

pub loop-at-init : goal.loop-at-init
loop-at-init c = collapsing_start _ _ c.skip_spaces-i.ensures

pub stay_end-end-requires : goal.stay_end-end-requires
stay_end-end-requires c = c.loop-at.invariant.to

pub slice_bounds-put_over-count : goal.slice_bounds-put_over-count
slice_bounds-put_over-count c = c.stay_end-end.ensures.run.from

pub slice_bounds-put_over-start : goal.slice_bounds-put_over-start
slice_bounds-put_over-start c = c.stay_end-end.ensures.run.from

pub slice_bounds-put_over-end : goal.slice_bounds-put_over-end
slice_bounds-put_over-end c = c.stay_end-end.ensures.run.to

pub slice_bounds-put_over-count-in-loop-at : goal.slice_bounds-put_over-count-in-loop-at
slice_bounds-put_over-count-in-loop-at c = omega (arith, c.min-room.ensures)

pub slice_bounds-put_over-start-in-loop-at : goal.slice_bounds-put_over-start-in-loop-at
slice_bounds-put_over-start-in-loop-at c = omega (arith, c.min-room.ensures)

pub overflow_sub-at : goal.overflow_sub-at
overflow_sub-at c = c.stay_end-end.ensures.run.from

pub overflow_add-at : goal.overflow_add-at
overflow_add-at c =
    let r = ran (goal.at.overflow_add-at c).After-put_over in
    omega (arith, r.under, r.to)

pub skip_spaces-next-requires : goal.skip_spaces-next-requires
skip_spaces-next-requires c = (ran (goal.at.skip_spaces-next-requires c).After-put_over).to

pub shape_of-out-then-next-value : goal.shape_of-out-then-next-value
shape_of-out-then-next-value c = collapsing_length (ran (goal.at.shape_of-out-then-next-value c).After-put_over)

pub returns-then-next-value : goal.returns-then-next-value
returns-then-next-value c =
    let both = collapsing_end (ran (goal.at.returns-then-next-value c).After-put_over) c.skip_spaces-next.ensures c.if-next-value.true in
    record { value = both.0; out_after = both.1 }

pub overflow_sub-i : goal.overflow_sub-i
overflow_sub-i c = omega (arith, (skipped c).0)

pub loop-at-smaller : goal.loop-at-smaller
loop-at-smaller c = omega (arith, (skipped c).0, (skipped c).1.to, c.stay_end-end.ensures.run.from)

pub loop-at-preserved : goal.loop-at-preserved
loop-at-preserved c = (skipped c).1
