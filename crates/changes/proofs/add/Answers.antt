-- `add`: a form that is not found goes to the end; else its count is one more, if that is not the largest.
use mathlib.Core.Path.{◌≡◌, refl, sym, ◌∙◌}
use Prim.Native.Nat.{◌<◌}
use native.Mathlib.Omega.{arith}
use lib.ListN.{length}
use Rattle.register.specs.Entries.{count_in}
use Rattle.changes.specs.Leaving.{present}
use Rattle.changes.proofs.Cases.{left_as, add_more, add_full}
use Rattle.changes.proofs.Leaves.{Placed, placed}
use Rattle.changes.proofs.add.Goals as goal
use Rattle.changes.proofs.add.Goals.{In-Some, After-u32_at-count}

entry : (c : In-Some) → Placed c.args.buffer.now c.args.used c.args.form.now c.in-Some.at
entry c = placed c.args.buffer.now c.args.used c.requires c.in-Some.ensures

-- the number that was read is the form's count
is : (c : After-u32_at-count) → count_in c.args.form.now (present c.args.buffer.now c.args.used) ≡ c.u32_at-count.result
is c = (placed c.args.buffer.now c.args.used c.requires c.in-Some.ensures).is ∙ sym c.u32_at-count.ensures.0

some : (c : After-u32_at-count) → 0 < c.u32_at-count.result
some c = let p = placed c.args.buffer.now c.args.used c.requires c.in-Some.ensures in omega (arith, c.u32_at-count.ensures.0)

pub overflow_add-at : goal.overflow_add-at
overflow_add-at c = let p = entry c in omega arith

pub u32_at-count-requires : goal.u32_at-count-requires
u32_at-count-requires c = let p = entry c in omega arith

pub returns-then-count-eq4294967295 : goal.returns-then-count-eq4294967295
returns-then-count-eq4294967295 c =
    let read = (goal.at.returns-then-count-eq4294967295 c).After-u32_at-count in
    let buffer = c.args.buffer.now in
    let es = present buffer c.args.used in
    left_as buffer c.args.used refl (add_full (length buffer) c.args.form.now es c.u32_at-count.result (is read) (some read)
    (omega (arith, c.if-count-eq4294967295.true)))

pub change_count-requires : goal.change_count-requires
change_count-requires c = let p = entry (goal.at.change_count-requires c).In-Some in (omega arith, omega arith)

pub returns : goal.returns
returns c =
    let read = (goal.at.returns c).After-u32_at-count in
    let buffer = c.args.buffer.now in
    let es = present buffer c.args.used in
    left_as buffer c.args.used (c.change_count.ensures c.args.form.now c.requires c.in-Some.ensures)
    (add_more (length buffer) c.args.form.now es c.u32_at-count.result (is read) (some read)
    (omega (arith, c.if-count-eq4294967295.false, c.u32_at-count.ensures.1)))
