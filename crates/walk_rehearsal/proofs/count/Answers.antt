-- `count` raises the words that `counted` raises; no sum reaches 2^64 (`Countable`).
use mathlib.Core.Path.{sym, ap, subst, ◌∙◌}
use Prim.Native.Nat.{ℕ, ◌+◌}
use native.Mathlib.Omega.{arith}
use lib.ListN.{get_or}
use lib.Seq.{get_or-set_other}
use Rattle.walk_rehearsal.specs.Rehearsal.{fared, raised, counted}
use Rattle.walk_rehearsal.specs.Turns.{Modest}
use Rattle.walk_rehearsal.proofs.count.Goals as goal

pub overflow_add-report : goal.overflow_add-report
overflow_add-report c = record { fits = omega (arith, c.requires.small 0) }

pub overflow_add-report-in-Ok : goal.overflow_add-report-in-Ok
overflow_add-report-in-Ok c =
    let words = c.args.report.now in
    let same = get_or-set_other words 0 28 (get_or words 0 0 + 1) 0 (λ e. omega (arith, e)) in
    let few = subst (λ v. Modest (fared v)) c.in-Ok.is c.requires.modest in
    record { fits = omega (arith, same, few, c.requires.small 28) }

pub bounds-report-k : goal.bounds-report-k
bounds-report-k c = let few = subst (λ v. Modest (fared v)) c.in-Err.is c.requires.modest in omega (arith, few.1, c.number-k.ensures)

pub overflow_add-report-in-Err : goal.overflow_add-report-in-Err
overflow_add-report-in-Err c = record { fits = omega (arith, c.requires.small c.number-k.result) }

pub bounds-report-k-in-Err : goal.bounds-report-k-in-Err
bounds-report-k-in-Err c = let few = subst (λ v. Modest (fared v)) c.in-Err.is c.requires.modest in omega (arith, few.1, c.number-k.ensures)

pub returns-in-Ok : goal.returns-in-Ok
unfolding counted
returns-in-Ok c = sym (ap (λ v. counted (fared v) c.args.report.now) c.in-Ok.is)

pub returns-in-Err : goal.returns-in-Err
unfolding counted
returns-in-Err c =
    ap (λ (k : ℕ). raised c.args.report.now k 1) c.number-k.ensures ∙ sym (ap (λ v. counted (fared v) c.args.report.now) c.in-Err.is)
