-- `is_register`: a fault, or entries without a fault, of which no form repeats (`plausible_sound`).
use mathlib.Core.Path.{sym, ap, ◌∙◌}
use mathlib.Core.Bool.{not}
use Rattle.registers.proofs.Answering.{plausible_sound}
use Rattle.registers.proofs.is_register.Goals as goal

pub returns-in_default : goal.returns-in_default
returns-in_default c = sym c.in_default.ensures

pub repeats-requires : goal.repeats-requires
repeats-requires c = c.in-Some.ensures.filled

pub returns : goal.returns
returns c = ap not c.repeats.ensures ∙ plausible_sound c.args.register.now c.in-Some.ensures
