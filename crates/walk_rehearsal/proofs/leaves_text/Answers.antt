-- `leaves_text` compares without the sum of start and length (`leaves_so`).
use mathlib.Core.Path.{sym}
use native.Mathlib.Omega.{arith}
use borrow.Author.Tests.{lt-ltb}
use Prim.Native.Nat.{◌+◌}
use Rattle.walk_rehearsal.proofs.Spans.{leaves_so}
use Rattle.walk_rehearsal.proofs.leaves_text.Goals as goal

-- src/lib.rt:55:9
pub returns-then-end-span : goal.returns-then-end-span
returns-then-end-span c = sym (lt-ltb c.args.size (c.args.span.start + c.args.span.length) (omega (arith, c.if-end-span.true)))

-- src/lib.rt:50:1
pub returns : goal.returns
returns c =
    let a = c.args in
    leaves_so a.size a.span.start a.span.length (omega (arith, c.if-end-span.false))
