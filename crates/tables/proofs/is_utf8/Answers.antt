use Rattle.tables.proofs.Parts.{utf8_tested}
use Rattle.tables.proofs.is_utf8.Goals as goal

pub returns : goal.returns
returns c = utf8_tested c.args.text.now c.utf8_end.ensures
