use mathlib.Core.Path.{subst}
use Prim.Native.Nat.{ℕ, ◌+◌, ◌-◌, ◌≤◌}
use native.Mathlib.Omega.{arith}
use native.Mathlib.Nat.{le_trans}
use lib.ListN.{get_or, drop}
use Rattle.std.proofs.Common.{length-take}
use borrow.Author.Count.{below_none, below_more}
use borrow.Author.Rules.{rules}
use Rattle.text.proofs.Bytes.{part_byte}
use Rattle.text.proofs.validate.highest.Goals as goal

pub loop-b-init : goal.loop-b-init
loop-b-init c = (search rules, record { at_most = below_none _ })

pub loop-b-preserved : goal.loop-b-preserved
loop-b-preserved c =
    let a = c.args in
    let k = c.loop-b.b-index in
    let byte : get_or a.text.now (a.i + k) 0 ≤ c.max-top.result =
    subst (λ (b : ℕ). b ≤ c.max-top.result) (part_byte a.text.now a.i 32 k c.loop-b-test.true) (omega (arith, c.max-top.ensures)) in (
      omega (arith, c.loop-b-test.true, length-take (a.i + 32 - a.i) (drop a.i a.text.now)),
      record { at_most = below_more _ _ (λ m h. le_trans (c.loop-b.invariant.1.at_most m h) (omega (arith, c.max-top.ensures))) byte },
    )

pub returns : goal.returns
returns c =
    let a = c.args in
    record { at_most = λ m h. c.loop-b.invariant.1.at_most m (omega (arith, h, c.loop-b-test.false, c.requires, length-take (a.i + 32 - a.i) (drop a.i a.text.now))) }
