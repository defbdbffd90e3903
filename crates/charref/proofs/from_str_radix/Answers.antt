-- `charref::from_str_radix` meets its contract: the three cases of `in_base`. Assumes nothing.
use Rattle.charref.proofs.Numbers.{base_none, base_sign, base_digits}
use mathlib.Core.Path.{◌∙◌, ap}
use Rattle.charref.specs.Errors.{parsed_as}
use Rattle.charref.proofs.from_str_radix.Goals as goal

pub returns-then-text-eq0 : goal.returns-then-text-eq0
returns-then-text-eq0 c =
    let given = c.args in
    ap parsed_as (base_none given.base given.text.now c.if-text-eq0.true)

pub returns-in-43 : goal.returns-in-43
returns-in-43 c =
    let given = c.args in
    ap parsed_as (base_sign given.base given.text.now c.if-text-eq0.false c.in-43.is)

pub returns-in_default : goal.returns-in_default
returns-in_default c =
    let given = c.args in
    c.digits.ensures ∙ ap parsed_as (base_digits given.base given.text.now c.if-text-eq0.false c.in_default.in_default-own.rest.1)
