use mathlib.Core.Path.{sym}
use lib.Seq.{set_out}
use Rattle.output.proofs.put_byte.Goals as goal

pub returns-else-at-out : goal.returns-else-at-out
returns-else-at-out c = sym (set_out c.args.out.now c.args.at c.args.b c.if-at-out.false)
