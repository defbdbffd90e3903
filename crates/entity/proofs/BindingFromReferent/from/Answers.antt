-- A binding is a referent without the command, case by case (`refers_resolved`).
use Rattle.entity.proofs.Referents.{refers_resolved}
use Rattle.entity.proofs.BindingFromReferent.from.Goals as goal

pub returns-in-Text : goal.returns-in-Text
returns-in-Text c = λ list pool name k. refers_resolved list pool name c.args.referent k c.in-Text.is

pub returns-in-Predefined : goal.returns-in-Predefined
returns-in-Predefined c = λ list pool name k. refers_resolved list pool name c.args.referent k c.in-Predefined.is

pub returns-in-External : goal.returns-in-External
returns-in-External c = λ list pool name k. refers_resolved list pool name c.args.referent k c.in-External.is

pub returns-in-Unknown : goal.returns-in-Unknown
returns-in-Unknown c = λ list pool name k. refers_resolved list pool name c.args.referent k c.in-Unknown.is
