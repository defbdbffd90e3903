-- `charref::quick_digits` reads the number up to the `;`. The invariant: the bytes passed are digits, and write the value so far. Assumes nothing.
use native.Mathlib.Omega.{arith}
use Rattle.charref.proofs.Numbers.{product}
use Rattle.charref.proofs.Reading.{read_start, read_digit, read_end}
use Rattle.charref.proofs.quick_digits.Goals as goal

pub loop-i-init : goal.loop-i-init
loop-i-init c = read_start c.args.base c.args.text.now c.args.from c.requires.from_in_bounds

pub overflow_cast-result : goal.overflow_cast-result
overflow_cast-result c = omega (arith, c.loop-i.invariant.low)

pub returns-then-b-eq59 : goal.returns-then-b-eq59
returns-then-b-eq59 c =
    let given = c.args in
    (λ z. c.if-value-eq0.false z, read_end given.base given.text.now given.from c.loop-i.invariant c.loop-i-test.true (omega arith) c.if-b-eq59.true c.if-value-eq0.false)

pub overflow_mul-value : goal.overflow_mul-value
overflow_mul-value c =
    omega (arith, product c.args.base c.loop-i.value (omega arith) (omega (arith, c.loop-i.invariant.low)))

pub overflow_add-value : goal.overflow_add-value
overflow_add-value c =
    omega (arith, product c.args.base c.loop-i.value (omega arith) (omega (arith, c.loop-i.invariant.low)))

pub loop-i-preserved : goal.loop-i-preserved
loop-i-preserved c =
    let given = c.args in
    read_digit given.base given.text.now given.from c.loop-i.invariant c.loop-i-test.true
    c.digit-d.result c.digit-d.ensures (omega arith) (omega arith)
