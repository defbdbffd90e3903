-- `name_end`: no character to start with (`length_over`, `length_stop`), or the width of one and then name characters (`length_on`).
use native.Mathlib.Omega.{arith}
use Rattle.text.specs.Version.{xml10}
use Rattle.table_names.proofs.NamesPast.{length_over, length_stop, length_on}
use Rattle.table_names.proofs.name_end.Goals as goal

pub returns-then-from-text : goal.returns-then-from-text
returns-then-from-text c = (c.requires, omega (arith, length_over c.args.text.now c.args.from (omega (arith, c.if-from-text.true))))

pub returns-then-width-eq0 : goal.returns-then-width-eq0
returns-then-width-eq0 c = (
  c.requires,
  omega (
    arith,
    length_stop xml10 c.args.text.now c.args.from (omega (arith, c.requires, c.if-from-text.false))
        c.name_start_width-width.ensures c.if-width-eq0.true,
  ),
)

pub overflow_add-from : goal.overflow_add-from
overflow_add-from c =
    let given = c.args in
    omega (
      arith,
      (length_on xml10 given.text.now given.from (omega (arith, c.requires, c.if-from-text.false))
          c.name_start_width-width.result c.name_start_width-width.ensures c.if-width-eq0.false).fits,
    )

pub name_chars_end-requires : goal.name_chars_end-requires
name_chars_end-requires c =
    let given = c.args in
    (length_on xml10 given.text.now given.from (omega (arith, c.requires, c.if-from-text.false)) c.name_start_width-width.result
    c.name_start_width-width.ensures c.if-width-eq0.false).fits

pub returns : goal.returns
returns c =
    let given = c.args in (
      c.name_chars_end.ensures.0,
      omega (
        arith,
        c.name_chars_end.ensures.1,
        (length_on xml10 given.text.now given.from (omega (arith, c.requires, c.if-from-text.false)) c.name_start_width-width.result
            c.name_start_width-width.ensures c.if-width-eq0.false).on,
      ),
    )
