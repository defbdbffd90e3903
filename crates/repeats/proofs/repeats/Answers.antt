-- `repeats`: one class has every form (`passes_one`).
use Rattle.repeats.proofs.Clearing.{passes_one}
use Rattle.repeats.proofs.repeats.Goals as goal

pub returns-then-number-le256 : goal.returns-then-number-le256
returns-then-number-le256 c = passes_one c.args.register.now c.class_repeats.result c.class_repeats.ensures
