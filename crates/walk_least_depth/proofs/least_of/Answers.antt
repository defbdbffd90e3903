-- A simple text needs no depth (`simple_least`); of one without halts, and of any other, what is said is the definition's answer
-- (`least_said`), since the outcomes are those of the definition (`smooth_are`, `outcomes_are`).
use mathlib.Core.Path.{sym, ◌∙◌, ap, subst}
use native.Mathlib.Omega.{arith}
use Prim.Native.Nat.{ℕ}
use lib.Dec.{ltb}
use Rattle.text.specs.Version.{rule_of}
use Rattle.halts.specs.Halts.{Smooth}
use Rattle.attribute.specs.Walk.{walk, reading_of}
use Rattle.attribute.specs.Steps.{read_by}
use Rattle.memory.specs.declared.Reading.{Reading}
use Rattle.walk_least_depth.specs.Allowance.{needed, outcomes, how_for, Says, Small}
use Rattle.walk_least_depth.proofs.LeastAnswers.{how_newer, smooth_are, outcomes_are, least_said, simple_least}
use Rattle.walk_least_depth.proofs.least_of.Goals as goal

pub returns-then-simple : goal.returns-then-simple
returns-then-simple c =
    let a = c.args in
    simple_least a.version a.list.now a.pool.now a.limit a.text.now (c.requires.simple c.if-simple.true)

pub smooth_need-requires : goal.smooth_need-requires
smooth_need-requires c =
    let a = c.args in
    subst (λ (n : ℕ). Smooth (ltb 1 a.version) a.text.now 0 n) c.if-next_halt-text.true c.next_halt.ensures.smooth

pub returns-then-next_halt-text : goal.returns-then-next_halt-text
returns-then-next_halt-text c =
    let a = c.args in
    let s = reading_of (rule_of a.version) a.list.now a.pool.now a.limit in
    c.answer_of.ensures
    ∙ least_said a.version a.list.now a.pool.now a.limit a.text.now (λ e. walk s (read_by (how_for a.version) 0) e a.text.now 0)
    (smooth_are a.version a.list.now a.pool.now a.limit a.text.now)
    (needed c.smooth_need.result) (c.smooth_need.ensures s (how_for a.version) (how_newer (ltb 1 a.version)))

pub need_of-requires : goal.need_of-requires
need_of-requires c =
    let a = c.args in
    let small : Small c.allowed_for.result a.text.now =
    subst (λ (x : Reading). Small x a.text.now) (sym c.allowed_for.ensures) (record { most = c.requires.limit_bound; short = c.requires.text_len_bound; deep = omega arith }) in
    record { valid_table = c.requires.valid_table; base_value = (ap (λ (x : Reading). x.base) c.allowed_for.ensures, omega arith, small); well_formed = c.requires.well_formed }

pub returns : goal.returns
returns c =
    let a = c.args in
    let o = outcomes c.allowed_for.result a.list.now a.pool.now a.text.now 0 in
    c.answer_of-2.ensures
    ∙ least_said a.version a.list.now a.pool.now a.limit a.text.now o
    (λ e. ap (λ (x : Reading). outcomes x a.list.now a.pool.now a.text.now 0 e) c.allowed_for.ensures
    ∙ outcomes_are a.version a.list.now a.pool.now a.limit 128 a.text.now e)
    (needed c.need_of.result) (subst (λ (n : ℕ). Says n o (needed c.need_of.result)) (ap (λ (x : Reading). x.depth) c.allowed_for.ensures) c.need_of.ensures)
