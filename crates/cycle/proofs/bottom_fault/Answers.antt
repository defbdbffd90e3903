-- Without a fault the heads are those below (`bottom_clean`); with one, a stop before it decides (`bottom_stopped`), else the fault
-- (`bottom_barred`). `found` is what the search found, under the guard that was asked for.
use mathlib.Core.Path.{◌≡◌, sym, subst, ◌∙◌}
use Prim.Native.Nat.{ℕ, suc, ◌-◌}
use native.Mathlib.Omega.{arith}
use lib.ListN.{length}
use lib.Seq.{length-take-le}
use Rattle.legal.specs.FirstFault.{FirstFault}
use Rattle.attribute.specs.Steps.{fault_by}
use Rattle.cycle.proofs.Exhausted.{bottom_unguarded, bottom_clean, bottom_stopped, bottom_barred}
use Rattle.cycle.proofs.bottom_fault.Goals as goal
use Rattle.cycle.proofs.bottom_fault.Goals.{After-first_fault-fault}

found : (c : After-first_fault-fault) → FirstFault (fault_by c.args.guard) c.args.text.now 0 (length c.args.text.now) c.first_fault-fault.result
found c =
    let a = c.args in
    let q : suc (a.guard - 1) ≡ a.guard = omega (arith, c.if-guard-eq0.false) in
    subst (λ (g : ℕ). FirstFault (fault_by g) a.text.now 0 (length a.text.now) c.first_fault-fault.result) q c.first_fault-fault.ensures

pub returns-then-guard-eq0 : goal.returns-then-guard-eq0
returns-then-guard-eq0 c = let a = c.args in bottom_unguarded a.how a.guard a.text.now c.if-guard-eq0.true

pub returns-then-fault-n : goal.returns-then-fault-n
returns-then-fault-n c =
    let a = c.args in
    bottom_clean a.how a.guard a.text.now (found (goal.at.returns-then-fault-n c).After-first_fault-fault) c.if-fault-n.true

pub slice_bounds-has_stop-end : goal.slice_bounds-has_stop-end
slice_bounds-has_stop-end c =
    sym (length-take-le c.first_fault-fault.result c.args.text.now (found (goal.at.slice_bounds-has_stop-end c).After-first_fault-fault).within)

pub has_stop-requires : goal.has_stop-requires
has_stop-requires c = tt

pub returns-then-has_stop : goal.returns-then-has_stop
returns-then-has_stop c =
    let a = c.args in
    bottom_stopped a.how a.guard a.text.now (found (goal.at.returns-then-has_stop c).After-first_fault-fault) (sym c.has_stop.ensures ∙ c.if-has_stop.true)

pub returns : goal.returns
returns c =
    let a = c.args in
    bottom_barred a.how a.guard a.text.now (found (goal.at.returns c).After-first_fault-fault) c.if-fault-n.false (sym c.has_stop.ensures ∙ c.if-has_stop.false)
