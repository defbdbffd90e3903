-- `check_escape` hands the check of its byte to that of the arguments.
use mathlib.Core.Path.{ap, ◌∙◌}
use Rattle.text.specs.Call.{argument_check}
use Rattle.checks.proofs.check_escape.Goals as goal

pub returns : goal.returns
returns c = c.check_arguments.ensures ∙ ap (argument_check c.args.text.now) c.check_level.ensures
