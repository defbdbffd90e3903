-- `bottom_step` is refused at a fault that `bottom_fault` finds (`bottom_refused_26`), and where `has_stop` finds a stop; else the text is
-- written (`bottom_written`). Without such a fault the heads are those below (`unbarred`).
use mathlib.Core.Path.{sym, ◌∙◌}
use Rattle.cycle.proofs.Exhausted.{bottom_same, bottom_refused_26, bottom_refused, bottom_written}
use Rattle.cycle.proofs.bottom_step.Goals as goal

pub bottom_fault-fault-requires : goal.bottom_fault-fault-requires
bottom_fault-fault-requires c = tt

pub returns-then-fault-text : goal.returns-then-fault-text
returns-then-fault-text c =
    let a = c.args in
    λ s. bottom_refused_26 a.form a.next a.out.now (c.bottom_fault-fault.ensures.barred c.if-fault-text.true s a.openings)

pub has_stop-requires : goal.has_stop-requires
has_stop-requires c = tt

pub returns-then-has_stop : goal.returns-then-has_stop
returns-then-has_stop c =
    let a = c.args in
    λ s. bottom_same (c.bottom_fault-fault.ensures.other c.if-fault-text.false s a.openings)
    (bottom_refused a.how a.form s a.text.now a.openings a.next a.out.now (sym c.has_stop.ensures ∙ c.if-has_stop.true))

pub write_text-len-requires : goal.write_text-len-requires
write_text-len-requires c = c.requires

pub returns : goal.returns
returns c =
    let a = c.args in
    let none = sym c.has_stop.ensures ∙ c.if-has_stop.false in
    λ s. bottom_same (c.bottom_fault-fault.ensures.other c.if-fault-text.false s a.openings)
    (bottom_written a.how a.form s a.text.now a.openings a.next none c.write_text-len.ensures)
