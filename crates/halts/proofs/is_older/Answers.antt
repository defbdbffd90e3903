-- `is_older`: a byte past `&` is neither `&` nor CR. Assumes nothing.
use native.Mathlib.Omega.{arith}
use borrow.Author.Tests.{ne_eqb}
use Rattle.halts.proofs.is_older.Goals as goal

pub returns-then-b-gt38 : goal.returns-then-b-gt38
returns-then-b-gt38 c =
    let b = c.args.b in
    rw (ne_eqb b 38 (λ q. omega (arith, q, c.if-b-gt38.true)), ne_eqb b 13 (λ q. omega (arith, q, c.if-b-gt38.true)))
