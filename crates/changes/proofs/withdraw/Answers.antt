-- `withdraw`: a form that is not found is refused; else its count is one less, and at 1 its entry goes.
use mathlib.Core.Path.{◌≡◌, refl, sym, ◌∙◌}
use Prim.Native.Nat.{◌<◌}
use native.Mathlib.Omega.{arith}
use Rattle.register.specs.Entries.{count_in}
use Rattle.register.proofs.Counts.{absent_zero}
use Rattle.changes.specs.Leaving.{present}
use Rattle.changes.proofs.Cases.{left_as, withdraw_absent, withdraw_one}
use Rattle.changes.proofs.Leaves.{Placed, placed}
use Rattle.changes.proofs.withdraw.Goals as goal
use Rattle.changes.proofs.withdraw.Goals.{In-Some, After-u32_at-count}

entry : (c : In-Some) → Placed c.args.buffer.now c.args.used c.args.form.now c.in-Some.at
entry c = placed c.args.buffer.now c.args.used c.requires c.in-Some.ensures

-- the number that was read is the form's count
is : (c : After-u32_at-count) → count_in c.args.form.now (present c.args.buffer.now c.args.used) ≡ c.u32_at-count.result
is c = (placed c.args.buffer.now c.args.used c.requires c.in-Some.ensures).is ∙ sym c.u32_at-count.ensures.0

some : (c : After-u32_at-count) → 0 < c.u32_at-count.result
some c = let p = placed c.args.buffer.now c.args.used c.requires c.in-Some.ensures in omega (arith, c.u32_at-count.ensures.0)

pub returns-in_default : goal.returns-in_default
returns-in_default c =
    let buffer = c.args.buffer.now in
    let es = present buffer c.args.used in
    left_as buffer c.args.used refl (withdraw_absent c.args.form.now es (absent_zero c.args.form.now es c.in_default.ensures))

pub overflow_add-at : goal.overflow_add-at
overflow_add-at c = let p = entry c in omega arith

pub u32_at-count-requires : goal.u32_at-count-requires
u32_at-count-requires c = let p = entry c in omega arith

pub remove-requires : goal.remove-requires
remove-requires c = let p = entry (goal.at.remove-requires c).In-Some in (p.within, p.fits)

pub returns-then-count-eq1 : goal.returns-then-count-eq1
returns-then-count-eq1 c =
    let read = (goal.at.returns-then-count-eq1 c).After-u32_at-count in
    let es = present c.args.buffer.now c.args.used in
    left_as c.args.buffer.now c.args.used (c.remove.ensures c.args.form.now c.requires c.in-Some.ensures)
    (withdraw_one c.args.form.now es 1 (omega (arith, is read, c.if-count-eq1.true)) (omega arith))

pub overflow_sub-count : goal.overflow_sub-count
overflow_sub-count c = some (goal.at.overflow_sub-count c).After-u32_at-count

pub change_count-requires : goal.change_count-requires
change_count-requires c =
    let at = goal.at.change_count-requires c in
    let p = entry at.In-Some in
    (omega (arith, some at.After-u32_at-count, c.if-count-eq1.false), omega arith)

pub returns : goal.returns
returns c =
    let read = (goal.at.returns c).After-u32_at-count in
    let es = present c.args.buffer.now c.args.used in
    left_as c.args.buffer.now c.args.used (c.change_count.ensures c.args.form.now c.requires c.in-Some.ensures)
    (withdraw_one c.args.form.now es c.u32_at-count.result (is read) (some read))
