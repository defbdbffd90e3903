-- `charref::digits` reads the number. The invariant: with the value so far, what is left writes the whole text's number. Assumes nothing.
use Rattle.charref.proofs.Numbers.{at_digit, at_none, at_end, too_large, product}
use lib.ListN.{drop}
use Prim.Native.Nat.{◌+◌, ◌*◌}
use native.Mathlib.Omega.{arith}
use mathlib.Core.Path.{sym, ◌∙◌, ap}
use Rattle.charref.specs.CharRef.{small}
use Rattle.charref.specs.Errors.{parsed_as}
use Rattle.charref.proofs.digits.Goals as goal

pub loop-i-init : goal.loop-i-init
loop-i-init c = (omega arith, omega arith, ap small (c.skip_zeros-i.ensures.same c.args.base (omega arith)))

pub returns-then-base-d : goal.returns-then-base-d
returns-then-base-d c =
    let given = c.args in
    ap parsed_as (
    sym (at_none given.base c.loop-i.value c.loop-i.i given.text.now (omega arith) c.digit-d.result c.digit-d.ensures c.if-base-d.true)
    ∙ c.loop-i.invariant.2)

pub overflow_mul-value : goal.overflow_mul-value
overflow_mul-value c = omega (arith, product c.args.base c.loop-i.value (omega arith) (omega arith))

pub overflow_add-value : goal.overflow_add-value
overflow_add-value c = omega (arith, product c.args.base c.loop-i.value (omega arith) (omega arith))

pub returns-then-value-gt4294967295 : goal.returns-then-value-gt4294967295
returns-then-value-gt4294967295 c =
    let given = c.args in
    let base = given.base in
    let text = given.text.now in
    let d = c.digit-d.result in
    ap parsed_as (
    sym (too_large base (base * c.loop-i.value + d) (drop (c.loop-i.i + 1) text) (omega arith) c.if-value-gt4294967295.true)
    ∙ ap small (sym (at_digit base c.loop-i.value c.loop-i.i text (omega arith) d c.digit-d.ensures (omega arith))) ∙ c.loop-i.invariant.2)

pub loop-i-preserved : goal.loop-i-preserved
loop-i-preserved c =
    let given = c.args in (
      omega arith,
      omega arith,
      ap small (sym (at_digit given.base c.loop-i.value c.loop-i.i given.text.now (omega arith) c.digit-d.result c.digit-d.ensures (omega arith)))
          ∙ c.loop-i.invariant.2,
    )

pub returns : goal.returns
returns c =
    let given = c.args in
    ap parsed_as (sym (at_end given.base c.loop-i.value c.loop-i.i given.text.now (omega arith) (omega arith)) ∙ c.loop-i.invariant.2)
