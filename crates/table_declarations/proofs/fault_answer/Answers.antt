-- `fault_answer` answers each fault as the definition does (`answer_misplaced`, `answer_excessive`, and a number's refusal).
use mathlib.Core.Path.{ap, subst}
use Rattle.text.specs.Answers.{Refused}
use Rattle.table_declarations.specs.DeclarationSteps.{Inside}
use Rattle.table_declarations.proofs.Offsets.{answer_misplaced, answer_excessive, answer_refused}
use Rattle.table_declarations.proofs.fault_answer.Goals as goal

pub returns-in-Misplaced : goal.returns-in-Misplaced
returns-in-Misplaced c =
    let a = c.args in
    λ list pool. answer_misplaced a.newer a.text.now list pool a.stop _ c.in-Misplaced.is
    (ap (λ n. Refused 21 n 0) c.offset_of.ensures)

pub returns-in-Excessive : goal.returns-in-Excessive
returns-in-Excessive c =
    let a = c.args in
    λ list pool. answer_excessive a.newer a.text.now list pool a.stop _ c.in-Excessive.is
    (ap (λ n. Refused 22 n 0) c.offset_of-in-Excessive.ensures)

pub returns-in-Refused : goal.returns-in-Refused
returns-in-Refused c =
    let a = c.args in
    λ list pool. answer_refused a.newer a.text.now list pool a.stop c.in-Refused.is (subst (Inside a.text.now) c.in-Refused.is c.requires)
