-- `is_changed` tests the bytes in another order than the definition (`changed_byte`). Assumes nothing.
use Rattle.escape.proofs.View.{kind}
use Rattle.canonical.proofs.Own.{changed_byte}
use Rattle.canonical.proofs.is_changed.Goals as goal

pub returns : goal.returns
returns c = changed_byte c.args.newer c.args.b (kind c.args.b)
