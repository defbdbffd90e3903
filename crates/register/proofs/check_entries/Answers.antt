-- `check_entries` keeps `Checking`: an entry more at each turn, or its fault.
use mathlib.Core.Path.{sym, subst}
use native.Mathlib.Omega.{arith}
use Rattle.register.specs.Places.{Checks}
use Rattle.register.proofs.Checking.{checking_none, checking_on, checking_fault, checking_all}
use Rattle.register.proofs.check_entries.Goals as goal

pub loop-at-init : goal.loop-at-init
loop-at-init c = checking_none _

pub returns-in_err-at : goal.returns-in_err-at
returns-in_err-at c =
    subst (Checks c.args.register.now) (sym c.from_residual.ensures) (checking_fault c.loop-at.invariant c.in_err-at.ensures)

pub loop-at-preserved : goal.loop-at-preserved
loop-at-preserved c = checking_on c.loop-at.invariant c.in_ok-at.ensures

pub returns : goal.returns
returns c = checking_all c.loop-at.invariant (λ k. omega (arith, c.type_inv.register k)) (omega arith)
