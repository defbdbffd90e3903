-- The first definition with the command's name: the search keeps `Seeking`, and ends, since the name is bound to a text (`lent_bound`).
use mathlib.Core.Path.{sym, ◌∙◌}
use native.Mathlib.Omega.{arith}
use lib.ListN.{get_or}
use Prim.Native.Nat.{◌+◌}
use Rattle.entity.proofs.Commands.{size_some}
use Rattle.flat.proofs.Halting.{valid_short}
use Rattle.walk_forecast.proofs.Standing.{standing_inside}
use Rattle.walk_forecast.proofs.Seeking.{lent_bound, seeking_start, seeking_named, seeking_next, seeking_found}
use Rattle.walk_forecast.proofs.number_by_name.Goals as goal

pub overflow_add-command : goal.overflow_add-command
overflow_add-command c = omega (arith, c.requires.defines.fits)

pub u32_at-start-requires : goal.u32_at-start-requires
u32_at-start-requires c = omega (arith, c.requires.defines.fits)

pub overflow_add-command-2 : goal.overflow_add-command-2
overflow_add-command-2 c = omega (arith, c.requires.defines.fits)

pub bounds-list-command : goal.bounds-list-command
bounds-list-command c = omega (arith, c.requires.defines.fits)

pub overflow_add-end : goal.overflow_add-end
overflow_add-end c = omega (arith, c.from.ensures, c.type_inv.list (c.args.command + 5), c.u32_at-start.ensures)

pub mark_size-at-requires : goal.mark_size-at-requires
mark_size-at-requires c = tt

pub loop-command-init : goal.loop-command-init
loop-command-init c = seeking_start _ _ _ c.requires.valid_table c.mark_size-at.ensures

pub slice_bounds-is_named-count : goal.slice_bounds-is_named-count
slice_bounds-is_named-count c = omega arith

pub slice_bounds-is_named-start : goal.slice_bounds-is_named-start
slice_bounds-is_named-start c = omega arith

pub slice_bounds-is_named-end : goal.slice_bounds-is_named-end
slice_bounds-is_named-end c =
    omega (arith, c.requires.defines.name, c.u32_at-start.ensures, c.from.ensures, c.type_inv.list (c.args.command + 5))

pub is_named-requires : goal.is_named-requires
is_named-requires c =
    let a = c.args in
    let b = lent_bound a.list.now a.pool.now a.command c.requires.defines c.u32_at-start.ensures.0 c.from.ensures in
    let named = seeking_named c.loop-command.invariant b in
    record { at_in_bounds = omega (arith, named.fits, size_some (get_or a.list.now c.loop-command.at 0)); at_in_bounds_2 = named.name }

pub returns-then-is_named : goal.returns-then-is_named
returns-then-is_named c =
    let a = c.args in
    let b = lent_bound a.list.now a.pool.now a.command c.requires.defines c.u32_at-start.ensures.0 c.from.ensures in
    let found = seeking_found c.loop-command.invariant b (sym c.is_named.ensures ∙ c.if-is_named.true) in
    record { there = found.0; gives = found.1 }

pub bounds-list-at : goal.bounds-list-at
bounds-list-at c = standing_inside c.loop-command.invariant.standing

pub command_size-at-requires : goal.command_size-at-requires
command_size-at-requires c = tt

pub overflow_add-at : goal.overflow_add-at
overflow_add-at c =
    let a = c.args in
    omega (arith, c.command_size-at.ensures, standing_inside c.loop-command.invariant.standing, valid_short a.list.now a.pool.now c.requires.valid_table)

pub overflow_add-number : goal.overflow_add-number
overflow_add-number c =
    let a = c.args in
    omega (arith, c.loop-command.invariant.standing.wide, standing_inside c.loop-command.invariant.standing, valid_short a.list.now a.pool.now c.requires.valid_table)

pub loop-command-smaller : goal.loop-command-smaller
loop-command-smaller c =
    let a = c.args in
    omega (arith, c.command_size-at.ensures, size_some (get_or a.list.now c.loop-command.at 0), standing_inside c.loop-command.invariant.standing)

pub loop-command-preserved : goal.loop-command-preserved
loop-command-preserved c =
    let a = c.args in
    let b = lent_bound a.list.now a.pool.now a.command c.requires.defines c.u32_at-start.ensures.0 c.from.ensures in
    seeking_next c.loop-command.invariant b c.command_size-at.ensures.0 (sym c.is_named.ensures ∙ c.if-is_named.false)
