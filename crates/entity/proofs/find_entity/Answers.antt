-- `find_entity` looks in the list itself (`begin`), or in the rest after the mark (`begin_rest`), and counts a command of the rest from the mark
-- on (`refers_moved`).
use mathlib.Core.Path.{◌≡◌, sym, ◌∙◌}
use native.Mathlib.Omega.{arith}
use Rattle.entity.specs.Table.{mark_size}
use Rattle.entity.proofs.Commands.{mark_fits, mark_is}
use Rattle.entity.proofs.Lookup.{begin, begin_rest}
use Rattle.entity.proofs.Referents.{refers_moved, moved_fits}
use Rattle.entity.proofs.find_entity.Goals as goal
use Rattle.entity.proofs.find_entity.Goals.{Else-not-is_marked}

-- the mark takes up one byte
one : (c : Else-not-is_marked) → 1 ≡ mark_size c.args.list.now
one c = mark_is c.args.list.now (sym c.if-not-is_marked.false ∙ c.is_marked.ensures)

pub find_unmarked-requires : goal.find_unmarked-requires
find_unmarked-requires c =
    let list = c.args.list.now in
    begin list c.args.pool.now c.args.name.now c.requires (mark_is list (sym c.if-not-is_marked.true ∙ c.is_marked.ensures))

pub slice_bounds-find_unmarked-count : goal.slice_bounds-find_unmarked-count
slice_bounds-find_unmarked-count c = omega (arith, one c, mark_fits c.args.list.now)

pub slice_bounds-find_unmarked-start : goal.slice_bounds-find_unmarked-start
slice_bounds-find_unmarked-start c = omega (arith, one c, mark_fits c.args.list.now)

pub find_unmarked-requires-2 : goal.find_unmarked-requires-2
find_unmarked-requires-2 c =
    begin_rest c.args.list.now c.args.pool.now c.requires c.args.name.now (one (goal.at.find_unmarked-requires-2 c).Else-not-is_marked)

pub overflow_add-result : goal.overflow_add-result
overflow_add-result c =
    omega (
      arith,
      moved_fits c.args.list.now c.args.pool.now c.requires c.args.name.now (one (goal.at.overflow_add-result c).Else-not-is_marked)
          c.find_unmarked-2.result c.find_unmarked-2.ensures c.in-Text.is,
    )

pub returns-in-Text : goal.returns-in-Text
returns-in-Text c =
    refers_moved c.args.list.now c.args.pool.now c.requires c.args.name.now (one (goal.at.returns-in-Text c).Else-not-is_marked) c.find_unmarked-2.result
    c.find_unmarked-2.ensures c.in-Text.is

pub returns-in-Predefined : goal.returns-in-Predefined
returns-in-Predefined c =
    refers_moved c.args.list.now c.args.pool.now c.requires c.args.name.now (one (goal.at.returns-in-Predefined c).Else-not-is_marked) c.find_unmarked-2.result
    c.find_unmarked-2.ensures c.in-Predefined.is

pub returns-in-External : goal.returns-in-External
returns-in-External c =
    refers_moved c.args.list.now c.args.pool.now c.requires c.args.name.now (one (goal.at.returns-in-External c).Else-not-is_marked) c.find_unmarked-2.result
    c.find_unmarked-2.ensures c.in-External.is

pub returns-in-Unknown : goal.returns-in-Unknown
returns-in-Unknown c =
    refers_moved c.args.list.now c.args.pool.now c.requires c.args.name.now (one (goal.at.returns-in-Unknown c).Else-not-is_marked) c.find_unmarked-2.result
    c.find_unmarked-2.ensures c.in-Unknown.is
