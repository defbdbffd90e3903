-- A text is without halts where `is_smooth` says so, and without faults when the search for one comes to its end.
use mathlib.Core.Path.{sym, subst}
use mathlib.Core.Bool.{true≢false}
use lib.ListN.{length}
use borrow.Author.Tests.{eqb-true}
use Rattle.legal.specs.FirstFault.{Clean}
use Rattle.attribute.specs.Steps.{fault_by}
use Rattle.flat.proofs.is_leaf.Goals as goal

pub returns-then-n-gt64 : goal.returns-then-n-gt64
returns-then-n-gt64 c = λ q. absurd (true≢false (sym q))

pub returns-then-not-is_smooth : goal.returns-then-not-is_smooth
returns-then-not-is_smooth c = λ q. absurd (true≢false (sym q))

pub returns : goal.returns
returns c = λ q.
    let a = c.args in
    record {
      smooth = c.is_smooth.ensures c.if-not-is_smooth.false;
      clean = subst (Clean (fault_by a.guard) a.text.now 0) (eqb-true c.run_fault.result (length a.text.now) q) c.run_fault.ensures.clean;
    }
