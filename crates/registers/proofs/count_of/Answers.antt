-- `count_of`: a form that is not found has the count 0; else its count stands four bytes after its entry's start.
use mathlib.Core.Path.{sym}
use native.Mathlib.Omega.{arith}
use Rattle.register.specs.Places.{entries_in}
use Rattle.register.proofs.Counts.{absent_zero}
use Rattle.registers.proofs.Counting.{filled_fits, filled_count}
use Rattle.registers.proofs.count_of.Goals as goal

pub returns-in_default : goal.returns-in_default
returns-in_default c = sym (absent_zero c.args.form.now (entries_in c.args.register.now) c.in_default.ensures)

pub overflow_add-at : goal.overflow_add-at
overflow_add-at c = omega (arith, filled_fits c.args.register.now c.requires c.in-Some.ensures)

pub u32_at-requires : goal.u32_at-requires
u32_at-requires c = omega (arith, filled_fits c.args.register.now c.requires c.in-Some.ensures)

pub returns : goal.returns
returns c = omega (arith, c.u32_at.ensures.0, filled_count c.args.register.now c.requires c.in-Some.ensures)
