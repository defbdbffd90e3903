-- `empty_slot` keeps that the slots before it are taken.
use Rattle.std.proofs.Common.{◌+◌, ◌≢◌, ℕ, sym, ◌∙◌, arith, below_more}
use Rattle.table_index.specs.Index.{slot_of}
use Rattle.table_index.proofs.empty_slot.Goals as goal

pub returns-then-slot_at-eq0 : goal.returns-then-slot_at-eq0
returns-then-slot_at-eq0 c =
    let l = c.loop-k.invariant in
    (omega arith, record { within = l.within; taken = l.taken; empty = λ h. sym c.slot_at.ensures.0 ∙ c.if-slot_at-eq0.true })

pub loop-k-preserved : goal.loop-k-preserved
loop-k-preserved c =
    let given = c.args in
    let Full : ℕ → Type 0 = λ i. slot_of given.index.now (given.from + i) ≢ 0 in
    record {
      within = omega (arith, c.loop-k-test.true);
      taken = below_more Full c.loop-k.k c.loop-k.invariant.taken (λ e. c.if-slot_at-eq0.false (c.slot_at.ensures.0 ∙ e));
    }

pub returns : goal.returns
returns c =
    let l = c.loop-k.invariant in
    record { within = omega arith; taken = λ i h. l.taken i (omega (arith, h, c.loop-k-test.false)); empty = λ h. absurd (omega (arith, h)) }
