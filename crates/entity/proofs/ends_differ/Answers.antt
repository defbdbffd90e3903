use mathlib.Core.Path.{sym, ◌∙◌}
use mathlib.Core.Bool.{true≢false}
use native.Mathlib.Omega.{arith}
use borrow.Author.Tests.{not-true, eqb-false}
use lib.ListN.{length}
use Prim.Native.Nat.{◌-◌}
use Rattle.entity.proofs.Lookup.{differ_u32}
use Rattle.entity.proofs.ends_differ.Goals as goal

pub returns-then-name-lt4 : goal.returns-then-name-lt4
returns-then-name-lt4 c = λ e. absurd (true≢false (sym e))

pub returns : goal.returns
returns c =
    let given = c.args in
    let n = length given.name.now in
    λ e.
    differ_u32 given.pool.now given.start given.name.now n (n - 4) (omega arith)
    (λ q. eqb-false c.u32_at.result c.u32_at-2.result (not-true _ e) (c.u32_at.ensures.0 ∙ q ∙ sym c.u32_at-2.ensures.0))
