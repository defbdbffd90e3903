-- `is_utf8`: the test of the end is the test of the text (`utf8_tested`).
use Rattle.register.proofs.Comparing.{utf8_tested}
use Rattle.register.proofs.is_utf8.Goals as goal

pub returns : goal.returns
returns c = utf8_tested c.args.form.now c.utf8_end.ensures
