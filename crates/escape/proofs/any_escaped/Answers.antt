-- `any_escaped` tests 16 bytes with no branch: where nothing hit, none of them is escaped. Assumes nothing.
use Rattle.std.proofs.Common.{arith}
use Rattle.output.proofs.Runs.{plain_of}
use Rattle.escape.proofs.any_escaped.Goals as goal

pub returns : goal.returns
returns c = λ e. plain_of _ _ _ 16 c.requires (λ m h. c.loop-b.invariant e m (omega arith))
