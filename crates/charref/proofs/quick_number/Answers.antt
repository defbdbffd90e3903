-- `charref::quick_number` meets its contract: after x the digits of base 16, else those of base 10. Assumes nothing.
use Rattle.charref.proofs.Reading.{quickly_hex, quickly_decimal}
use Rattle.charref.proofs.quick_number.Goals as goal

pub returns-then-text-from-eq120 : goal.returns-then-text-from-eq120
returns-then-text-from-eq120 c =
    let given = c.args in
    quickly_hex given.text.now given.from c.quick_digits.result c.if-text-from-eq120.true c.quick_digits.ensures

pub returns : goal.returns
returns c =
    let given = c.args in
    quickly_decimal given.text.now given.from c.quick_digits-2.result c.quick_digits-2.ensures
