-- The rule by its number (`rule_judged`): 1 is XML 1.0, those above it XML 1.1.
use Rattle.charref.proofs.Rules.{rule_lenient, rule_judged}
use Rattle.charref.proofs.is_allowed.Goals as goal

pub returns-then-rule-eq0 : goal.returns-then-rule-eq0
returns-then-rule-eq0 c = let a = c.args in rule_lenient a.rule a.c c.if-rule-eq0.true

pub returns : goal.returns
returns c = let a = c.args in rule_judged a.rule a.c c.if-rule-eq0.false c.is_char.ensures
