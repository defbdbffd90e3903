use mathlib.Core.Path.{sym, ap}
use Rattle.charref.specs.Errors.{read_as}
use Rattle.charref.proofs.by_rule.Goals as goal

pub returns-then-is_allowed : goal.returns-then-is_allowed
returns-then-is_allowed c = ap read_as (sym (rw c.if-is_allowed.true at c.is_allowed.ensures))

pub returns : goal.returns
returns c = ap read_as (sym (rw c.if-is_allowed.false at c.is_allowed.ensures))
