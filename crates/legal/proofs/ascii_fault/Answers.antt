-- `ascii_fault`: each return is the branch of `ascii_fault` that its tests name (`ascii_may`). Assumes nothing.
use mathlib.Core.Path.{◌≡◌, sym, ◌∙◌}
use mathlib.Core.Bool.{true, false}
use native.Mathlib.Omega.{arith}
use lib.Dec.{eqb, leb}
use borrow.Author.Tests.{eq-eqb, ne_eqb, le-leb, lt-leb}
use Rattle.legal.proofs.Numbers.{ascii_may}
use Rattle.legal.proofs.ascii_fault.Goals as goal

pub returns-then-b-eq127 : goal.returns-then-b-eq127
returns-then-b-eq127 c =
    let given = c.args in
    let e : eqb given.b 0x7F ≡ true = eq-eqb given.b 0x7F (omega (arith, c.if-b-eq127.true)) in
    sym (ascii_may given.rule given.b c.requires ∙ (rw e))

pub returns-then-rule-ge2 : goal.returns-then-rule-ge2
returns-then-rule-ge2 c =
    let given = c.args in
    let e : eqb given.b 0x7F ≡ false = ne_eqb given.b 0x7F (λ q. omega (arith, q, c.if-b-eq127.false)) in
    let f : leb 2 given.rule ≡ true = le-leb 2 given.rule (omega (arith, c.if-rule-ge2.true)) in
    sym (ascii_may given.rule given.b c.requires ∙ (rw (e, f)))

pub returns : goal.returns
returns c =
    let given = c.args in
    let e : eqb given.b 0x7F ≡ false = ne_eqb given.b 0x7F (λ q. omega (arith, q, c.if-b-eq127.false)) in
    let f : leb 2 given.rule ≡ false = lt-leb 2 given.rule (omega (arith, c.if-rule-ge2.false)) in
    sym (ascii_may given.rule given.b c.requires ∙ (rw (e, f)))
