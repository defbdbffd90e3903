-- `build` keeps `Building`: each command is inserted (`building_more`). At the list's end the index is whole (`building_over`); it is given up
-- where too many slots were wanted in vain (`building_vain`). Which state is written is asked of `omega`, so that another is refused as a number.
use Rattle.std.proofs.Common.{◌+◌, ◌-◌, ◌/◌, ◌≤◌, [], length, get_or, refl, ◌∙◌, arith, length-set}
use Rattle.entity.proofs.Commands.{size_some}
use Rattle.table_index.specs.Index.{home_of, slot_of}
use Rattle.table_index.proofs.Filing.{index_none}
use Rattle.table_index.proofs.BuildingPlaces.{building_inside, building_short, building_declared, building_more, building_over, building_vain, inserted_size}
use Rattle.table_index.proofs.build.Goals as goal
use Rattle.table_index.proofs.build.Goals.{then-not-insert+else-most-vain, else-not-insert}

pub overflow_sub-most : goal.overflow_sub-most
overflow_sub-most c = omega (arith, c.requires.sized.0.least)

pub mark_size-at-requires : goal.mark_size-at-requires
mark_size-at-requires c = tt

pub loop-at-init : goal.loop-at-init
loop-at-init c =
    let a = c.args in
    let none = index_none a.list.now a.pool.now (home_of (length a.index.now)) (slot_of a.index.now) c.requires.sized.1 in
    (record { valid = c.requires.valid_table; sized = c.requires.sized.0; commands = []; passed = c.mark_size-at.ensures; indexes = none }, refl, omega arith)

pub bounds-list-at : goal.bounds-list-at
bounds-list-at c = building_inside _ _ c.loop-at.invariant.0

pub insert-requires : goal.insert-requires
insert-requires c =
    let b = c.loop-at.invariant.0 in
    let d = building_declared _ _ b c.loop-at-test.true in
    let list = c.args.list.now in
    let fits : c.loop-at.at + 6 ≤ length list = omega (arith, d.fits, size_some (get_or list c.loop-at.at 0)) in
    record { at_bound = (omega (arith, building_short _ _ b), b.sized); at_in_bounds = fits; at_in_bounds_2 = d.name }

pub overflow_add-vain : goal.overflow_add-vain
overflow_add-vain c = omega (arith, c.loop-at.invariant.2, c.requires.sized.0.large)

pub bounds-index-0 : goal.bounds-index-0
bounds-index-0 c = omega (arith, c.loop-at.invariant.0.sized.least, c.insert.ensures.size)

pub shape_of-index-then-most-vain : goal.shape_of-index-then-most-vain
shape_of-index-then-most-vain c = inserted_size _ c.insert.ensures c.loop-at.invariant.1

pub returns-then-most-vain : goal.returns-then-most-vain
returns-then-most-vain c =
    let l = c.loop-at.invariant in
    building_vain _ _ l.0 l.1 c.insert.ensures (omega arith)

pub bounds-list-at-in-loop-at : goal.bounds-list-at-in-loop-at
bounds-list-at-in-loop-at c = building_inside _ _ c.loop-at.invariant.0

pub command_size-at-requires : goal.command_size-at-requires
command_size-at-requires c = tt

pub overflow_add-at : goal.overflow_add-at
overflow_add-at c = omega (arith, building_short _ _ c.loop-at.invariant.0, c.command_size-at.ensures.1)

pub loop-at-smaller : goal.loop-at-smaller
loop-at-smaller c =
    omega (arith, building_inside _ _ c.loop-at.invariant.0, c.command_size-at.ensures.0, size_some (get_or c.args.list.now c.loop-at.at 0))

pub loop-at-preserved : goal.loop-at-preserved
loop-at-preserved c =
    let kept = c.loop-at.invariant in
    let more = building_more _ _ kept.0 c.loop-at-test.true c.insert.ensures c.command_size-at.ensures.0 refl in
    let few : c.if-not-insert.vain ≤ (length c.args.index.now - 1) / 4 =
    elim c.if-not-insert.branch [ then-not-insert+else-most-vain w ↦ omega arith | else-not-insert w ↦ omega arith ] in
    (more, c.insert.ensures.size ∙ kept.1, few)

pub bounds-index-0-2 : goal.bounds-index-0-2
bounds-index-0-2 c = omega (arith, c.loop-at.invariant.0.sized.least)

pub shape_of-index : goal.shape_of-index
shape_of-index c = length-set c.loop-at.index 0 _ ∙ c.loop-at.invariant.1

pub returns : goal.returns
returns c = building_over _ _ c.loop-at.invariant.0 c.loop-at.invariant.1 c.loop-at-test.false (omega arith)
