-- `normalize_attribute_value` copies a simple text, which is its own value (`simple_value`), and else ends as the walk into its output does.
use mathlib.Core.Path.{sym, subst}
use Rattle.text.specs.Call.{answered}
use Rattle.tokens.specs.Outcome.{Outcome}
use Rattle.tokens.specs.Walking.{Ended}
use Rattle.tokens.proofs.Finished.{ended_call}
use Rattle.normalize.specs.Calls.{outcome_for}
use Rattle.normalize.proofs.Texts.{simple_value, ended_same, shown_plain}
use Rattle.normalize.proofs.normalize_attribute_value.Goals as goal

pub returns-then-simple : goal.returns-then-simple
returns-then-simple c =
    let a = c.args in
    let o = outcome_for a.wanted a.list.now a.pool.now a.text.now in
    let is = simple_value a.wanted a.list.now a.pool.now a.text.now (c.requires.simple c.if-simple.true) in
    ended_call o a.out.now (subst (λ (x : Outcome). Ended 19 x a.out.now c.copied_whole.new.out (answered c.copied_whole.result)) (sym is) c.copied_whole.ensures)

pub returns : goal.returns
returns c =
    let a = c.args in
    let o = outcome_for a.wanted a.list.now a.pool.now a.text.now in
    ended_call o a.out.now (ended_same 19 a.out.now (sym (shown_plain o)) c.normalized.ensures)
