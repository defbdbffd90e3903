-- `skip_spaces`: each space that is passed is counted (`space_on`), up to another byte (`space_stop`) or the end (`space_over`).
use native.Mathlib.Omega.{arith}
use mathlib.Core.Path.{refl, sym, ◌∙◌}
use lib.ListN.{get_or}
use borrow.Author.Tests.{eq-eqb, ne_eqb}
use Rattle.collapse.proofs.Spaces.{space_on, space_stop, space_over}
use Rattle.collapse.proofs.skip_spaces.Goals as goal

pub loop-i-init : goal.loop-i-init
loop-i-init c = (c.requires, refl)

pub returns-then-text-i-ne32 : goal.returns-then-text-i-ne32
returns-then-text-i-ne32 c =
    let given = c.args in
    sym (space_stop given.text.now c.loop-i.i c.loop-i-test.true (ne_eqb (get_or given.text.now c.loop-i.i 0) 32 (λ q. omega (arith, q, c.if-text-i-ne32.true)))) ∙ c.loop-i.invariant.1

pub loop-i-preserved : goal.loop-i-preserved
loop-i-preserved c =
    let given = c.args in
    let less = c.loop-i-test.true in
    (omega (arith, less), sym (space_on given.text.now c.loop-i.i less (eq-eqb (get_or given.text.now c.loop-i.i 0) 32 (omega (arith, c.if-text-i-ne32.false)))) ∙ c.loop-i.invariant.1)

pub returns : goal.returns
returns c =
    sym (space_over c.args.text.now c.loop-i.i c.loop-i-test.false) ∙ c.loop-i.invariant.1
