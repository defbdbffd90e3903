-- `name_chars_end`: the name characters passed and those to come are the same at each turn (`chars_on`).
use native.Mathlib.Omega.{arith}
use lib.ListN.{drop}
use Rattle.text.specs.Version.{xml10}
use Rattle.table_names.specs.NameChars.{name_chars}
use Rattle.table_names.proofs.NamesPast.{On, chars_stop, chars_on, chars_over}
use Rattle.table_names.proofs.name_chars_end.Goals as goal
use Rattle.table_names.proofs.name_chars_end.Goals.{Else-width-eq0}

pub returns-then-width-eq0 : goal.returns-then-width-eq0
returns-then-width-eq0 c = (
  c.loop-i.invariant.0,
  omega (
    arith,
    c.loop-i.invariant.1,
    chars_stop xml10 c.args.text.now c.loop-i.i c.loop-i-test.true
        c.name_char_width-width.ensures c.if-width-eq0.true,
  ),
)

on : (c : Else-width-eq0) → On xml10 c.args.text.now c.loop-i.i c.loop-i-test.true (name_chars 0 (drop c.loop-i.i c.args.text.now)) c.name_char_width-width.result
on c =
    chars_on xml10 c.args.text.now c.loop-i.i c.loop-i-test.true c.name_char_width-width.result
    c.name_char_width-width.ensures c.if-width-eq0.false

pub overflow_add-i : goal.overflow_add-i
overflow_add-i c = omega (arith, (on c).fits)

pub loop-i-preserved : goal.loop-i-preserved
loop-i-preserved c = ((on c).fits, omega (arith, c.loop-i.invariant.1, (on c).on))

pub returns : goal.returns
returns c =
    (c.loop-i.invariant.0, omega (arith, c.loop-i.invariant.1, chars_over c.args.text.now c.loop-i.i c.loop-i-test.false))
