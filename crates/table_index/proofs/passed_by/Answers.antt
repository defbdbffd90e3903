-- `passed_by`: a command lies in the list, as a name refers to it; the other answers are the whole list's length.
use Rattle.std.proofs.Common.{subst, arith}
use Rattle.entity.specs.Commands.{Refers}
use Rattle.entity.specs.declared.Referent.{Referent}
use Rattle.table_index.proofs.passed_by.Goals as goal

pub returns-in-Text : goal.returns-in-Text
returns-in-Text c =
    λ list pool name refers short.
    omega (arith, short, (subst (λ (x : Referent). Refers list pool name x) c.in-Text.is refers).defines.fits)
