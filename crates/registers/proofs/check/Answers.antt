-- `check`: the checks of the form, then that of the register.
use mathlib.Core.Path.{ap, sym, ◌∙◌}
use Rattle.text.specs.Call.{answered}
use Rattle.text.proofs.Call.{goes_on}
use Rattle.registers.specs.Guarding.{held_check}
use Rattle.registers.proofs.Answering.{held_passes, held_refuses}
use Rattle.registers.proofs.check.Goals as goal

pub returns-then-is_intact : goal.returns-then-is_intact
returns-then-is_intact c =
    let a = c.args in
    held_passes a.buffer.now a.used (sym c.is_intact.ensures ∙ c.if-is_intact.true)
    ∙ goes_on (held_check a.buffer.now a.used) c.check_text.ensures (ap answered c.in_ok-check_text.was)

pub returns : goal.returns
returns c =
    let a = c.args in
    held_refuses a.buffer.now a.used (sym c.is_intact.ensures ∙ c.if-is_intact.false)
    ∙ goes_on (held_check a.buffer.now a.used) c.check_text.ensures (ap answered c.in_ok-check_text.was)
